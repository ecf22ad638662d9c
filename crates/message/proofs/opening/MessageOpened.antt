-- What each message that opens gives, from what the functions below left.
-- Assumes nothing.
use Rattle.std.specs.Prelude.{Option, Some}
use mathlib.Core.Path.{◌≡◌, ap, ◌∙◌}
use mathlib.Core.Bool.{true}
use mathlib.Core.List.{List, []}
use Prim.Native.Nat.{ℕ, ◌<◌}
use lib.ListN.{get_or}
use Rattle.lookup.specs.LParam.{key_lparam}
use Rattle.lookup.specs.declared.keyboard.KeyLParam.{KeyLParam}
use Rattle.lookup.specs.Block.{block_ok}
use Rattle.session.specs.Event.{Info, Held}
use Rattle.session.specs.Session.{Wait, Session, info_fits}
use Rattle.session.specs.Area.{encode, encode_answer}
use Rattle.session.specs.Builder.{from_message}
use Rattle.session.specs.Calls.{opening}
use Rattle.session.specs.Answers.{token, open_said}
use Rattle.session.specs.declared.PendingMessageToken.{PendingMessageToken}
use Rattle.lookup.proofs.keyboard_layout.Ranges.{scan_small}
use Rattle.session.proofs.Fits.{info-fits}
use Rattle.event.specs.Written.{keyboard_at}
use Rattle.event.proofs.focus.Keyboard.{keyboard_at_ok}
use Rattle.message.specs.Gives.{Gives}

-- an open message, and its token for an answer
pub opened :
    (s : Session) (w : Wait) (h : Option Held) {v : Wait} {t : PendingMessageToken} {x y : List ℕ} →
    (t.0 ≡ s.handed) × (x ≡ encode (opening s v h).after) → y ≡ encode_answer [] → v ≡ w → Gives (opening s w h) (Some t) x y
unfolding opening open_said
opened s w h p q e = record { said = ap token p.0; session = rw (← e) p.1; answers = q }

-- what a release was read to be is in range
pub release_fits :
    (block state : List ℕ) → ((i : ℕ) → get_or block i 0 < 256) → block_ok block ≡ true → (lparam vkey : ℕ) (l : KeyLParam) {n : Info} →
    n ≡ from_message (keyboard_at state block) vkey l → l ≡ key_lparam lparam → info_fits n ≡ true
release_fits block state b o lparam vkey l e f =
    ap info_fits e ∙ info-fits (keyboard_at state block) vkey l (keyboard_at_ok block state b o) (rw f (scan_small lparam))
