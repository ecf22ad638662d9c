-- The event of a held press that is completed, with its logical key and its text: what a last character completes.
-- Assumes nothing.
use Rattle.std.specs.Prelude.{Option}
use mathlib.Core.Path.{◌≡◌, ap}
use mathlib.Core.Bool.{Bool}
use mathlib.Core.List.{List}
use Prim.Native.Nat.{ℕ}
use Rattle.area.specs.Pick.{pick}
use Rattle.segmentation.specs.Table.{Table}
use Rattle.keys.specs.Text.{FullKey}
use Rattle.session.specs.Builder.{Keyboard, typed_text, typed_key, finalize, last_text, several_text, char_event}
use Rattle.session.specs.Event.{Held}
use Rattle.session.specs.InBlock.{completed_with}

-- the logical key of a press with its text
abbrev pub key_with : Held → Bool → Option (List ℕ) → FullKey
key_with h several t = pick h.mark (typed_key several h.info.logical_key h.info.scancode t) h.info.logical_key

pub completed-with :
    (h : Held) (several : Bool) (t : Option (List ℕ)) (key : FullKey) → key ≡ key_with h several t →
    completed_with h key t ≡ finalize h several t (typed_text h.units)
unfolding completed_with finalize
completed-with h several t key e = ap (λ (k : FullKey). completed_with h k t) e

pub char_completed :
    (b : Keyboard) (r : Table) (h : Held) (key : FullKey) → key ≡ key_with h (several_text r (last_text b h)) (last_text b h) →
    completed_with h key (last_text b h) ≡ char_event b r h
unfolding char_event
char_completed b r h key e = completed-with h (several_text r (last_text b h)) (last_text b h) key e
