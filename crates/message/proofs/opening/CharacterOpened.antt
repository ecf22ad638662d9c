-- What a character that opens gives, from what the functions below left.
-- Assumes nothing.
use Rattle.std.specs.Prelude.{Option, Some, None}
use mathlib.Core.Path.{◌≡◌, refl, ap, ◌∙◌}
use mathlib.Core.Bool.{true}
use mathlib.Core.List.{List, []}
use Prim.Native.Nat.{ℕ, ◌+◌, ◌≤◌, ◌<◌}
use lib.ListN.{get_or, length, length-append}
use borrow.Author.Tests.{le-leb}
use Rattle.text.specs.Message.{char_units}
use Rattle.session.specs.Limits.{ENTRIES_MOST, TOKENS_MOST, UNITS_MOST}
use Rattle.session.specs.Event.{Held}
use Rattle.session.specs.declared.Message.{Message}
use Rattle.session.specs.Session.{character, Session, held_fits, units_within}
use Rattle.session.specs.Area.{encode, decode, encode_answer}
use Rattle.session.specs.Builder.{with_units}
use Rattle.session.specs.Calls.{nothing_done, opening, char_opened}
use Rattle.session.specs.Answers.{open_said}
use Rattle.session.specs.declared.PendingMessageToken.{PendingMessageToken}
use Rattle.session.proofs.Fits.{units-fit}
use Rattle.queue.specs.Changed.{holding}
use Rattle.queue.specs.Room.{IsArea, HasRoom}
use Rattle.queue.proofs.Areas.{AreaOf, own_area, held-area, room_of}
use Rattle.message.specs.Gives.{Gives}
use Rattle.message.proofs.opening.MessageOpened.{opened}

module _ (x : List ℕ) (b : (i : ℕ) → get_or x i 0 < 256) (r : IsArea x) (wparam : ℕ) (h g : Held) (e : (decode x).held ≡ Some h) (u : g ≡ with_units h (char_units wparam)) where
  more_fits : held_fits (Some h) ≡ true → held_fits (Some g) ≡ true
  more_fits f = rw u (units-fit h wparam f)

  more-short : length h.units + length (char_units wparam) ≤ UNITS_MOST → units_within (Some g) ≡ true
  unfolding units_within with_units
  more-short f = rw (u, length-append h.units (char_units wparam)) (le-leb _ UNITS_MOST f)

  module _ (f : held_fits (Some h) ≡ true) (l : length h.units + length (char_units wparam) ≤ UNITS_MOST) {y : List ℕ} (p : y ≡ encode (holding (decode x) (Some g))) where
    -- the area with it
    with_more : AreaOf (holding (decode x) (Some g)) y
    with_more = held-area (decode x) (Some g) (own_area x b r) (more-short l) (more_fits f) p

    pub char_room : length (decode x).entries < ENTRIES_MOST → (decode x).handed < TOKENS_MOST → HasRoom y
    char_room n t = room_of _ with_more n t

    pub char-opened :
        (m : Message) → m.wparam ≡ wparam → {t : PendingMessageToken} {z w : List ℕ} →
        (t.0 ≡ (decode y).handed) × (z ≡ encode (opening (decode y) character (decode y).held).after) → w ≡ encode_answer [] →
        Gives (char_opened (decode x) m (decode x).held) (Some t) z w
    unfolding char_opened opening
    char-opened m o q w =
        let a = with_more in
        rw (e, o, ← u) (opened (decode x) character (Some g) (q.0 ∙ ap (λ (s : Session). s.handed) a.back, q.1 ∙ rw a.back refl) w refl)

-- none is held
unheld : (s : Session) (m : Message) (o : Option Held) → o ≡ None → char_opened s m o ≡ nothing_done s
unfolding char_opened
unheld s m o e = rw e refl

pub char_unheld :
    (x : List ℕ) → ((i : ℕ) → get_or x i 0 < 256) → IsArea x → (m : Message) → (decode x).held ≡ None → {r : Option PendingMessageToken} {y : List ℕ} →
    (r ≡ None) × (y ≡ encode_answer []) → Gives (char_opened (decode x) m (decode x).held) r x y
unfolding open_said
char_unheld x b r m e p =
    rw (unheld (decode x) m (decode x).held e, p.0) (record { said = refl; session = (own_area x b r).exact; answers = p.1 })
