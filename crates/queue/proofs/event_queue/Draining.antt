-- The complete entries from one on, written one behind the other: a walk that has come to entry i.
-- Assumes nothing.
use mathlib.Core.Path.{◌≡◌, refl, sym, ap, ◌∙◌}
use mathlib.Core.Bool.{true}
use mathlib.Core.List.{List, [], ◌∷◌, ◌++◌, append_assoc, append-nil}
use Prim.Native.Nat.{ℕ, ◌+◌, ◌*◌, ◌≤◌}
use native.Mathlib.Omega.{arith}
use lib.ListN.{length, take, drop, length-append, length-take, take-append-drop, drop_of_length-le}
use lib.Seq.{drop-drop}
use Rattle.area.specs.Splice.{splice}
use Rattle.area.proofs.Splice.{chain, length-splice}
use Rattle.session.specs.Limits.{ANSWER_EVENTS_AT, ANSWER_EVENT_SIZE}
use Rattle.session.specs.Event.{Event}
use Rattle.session.specs.Session.{Entry, waiting, complete, entry_fits, all_fit}
use Rattle.session.specs.Codec.{put_many}
use Rattle.session.specs.Area.{event}
use Rattle.session.specs.Calls.{drain}
use Rattle.session.proofs.Codec.{All}
use Rattle.session.proofs.Area.{EntryFits}
use Rattle.session.proofs.Writes.{many_append, events-length}
use Rattle.queue.specs.Changed.{Written}
use Rattle.queue.proofs.event_queue.EventOfEntry.{all_take, all_drop}

-- ---- what entries drain to

drain-append : (s t : List Entry) → drain (s ++ t) ≡ drain s ++ drain t
unfolding drain
drain-append [] t = refl
drain-append (waiting u w ∷ s) t = drain-append s t
drain-append (complete u e ∷ s) t = ap (λ (l : List Event). e ∷ l) (drain-append s t)

pub drain_most : (l : List Entry) → length (drain l) ≤ length l
unfolding drain
drain_most [] = omega arith
drain_most (waiting t w ∷ l) = omega (arith, drain_most l)
drain_most (complete t e ∷ l) = omega (arith, drain_most l)

pub drain_fit : (l : List Entry) → All EntryFits l → all_fit (drain l) ≡ true
unfolding drain all_fit entry_fits
drain_fit [] h = refl
drain_fit (waiting t w ∷ l) h = drain_fit l h.1
drain_fit (complete t e ∷ l) h = rw h.0.1 (drain_fit l h.1)

-- entry i, then those behind it
drain-next : (i : ℕ) (l : List Entry) → drain (take 1 (drop i l)) ++ drain (drop (i + 1) l) ≡ drain (drop i l)
drain-next i l =
    sym (drain-append (take 1 (drop i l)) (drop (i + 1) l)) ∙ ap drain (rw (← drop-drop 1 i l) (take-append-drop 1 (drop i l)))

-- ---- the walk

-- it has come to entry i, and of the events of the entries es from `first` on has written `done`, behind `written` others, which makes k
pub record Drained (es : List Entry) (first written : ℕ) (y₀ y : List ℕ) (k i : ℕ) : Type 0 where
  done : List Event
  so_far : done ++ drain (drop i es) ≡ drain (drop first es)
  count : k ≡ written + length done
  sized : length (put_many event done) ≡ ANSWER_EVENT_SIZE * length done
  bytes : y ≡ splice (ANSWER_EVENTS_AT + ANSWER_EVENT_SIZE * written) (put_many event done) y₀

pub drained_start : (es : List Entry) (first written : ℕ) (y : List ℕ) → Drained es first written y y written first
unfolding put_many splice
drained_start es first written y = record { done = []; so_far = refl; count = omega arith; sized = omega arith; bytes = refl }

module _ (es : List Entry) (first written : ℕ) (y₀ : List ℕ) {y : List ℕ} {k i : ℕ} (d : Drained es first written y₀ y k i) where
  pub drained_size : length y ≡ length y₀
  drained_size = ap length d.bytes ∙ length-splice (ANSWER_EVENTS_AT + ANSWER_EVENT_SIZE * written) (put_many event d.done) y₀

  pub drained_next :
      {n : ℕ} {z : List ℕ} → All EntryFits es → Written k (drain (take 1 (drop i es))) y z n → Drained es first written y₀ z n (i + 1)
  drained_next f p =
      let one = drain (take 1 (drop i es)) in
      let w : all_fit one ≡ true = drain_fit (take 1 (drop i es)) (all_take EntryFits 1 (drop i es) (all_drop EntryFits i es f)) in
      let u : ANSWER_EVENTS_AT + ANSWER_EVENT_SIZE * k ≡ ANSWER_EVENTS_AT + ANSWER_EVENT_SIZE * written + ANSWER_EVENT_SIZE * length d.done = omega (arith, d.count) in
      let v : put_many event (d.done ++ one) ≡ put_many event d.done ++ put_many event one = many_append event d.done one in
      record {
        done = d.done ++ one;
        so_far = append_assoc d.done one (drain (drop (i + 1) es)) ∙ ap (λ (l : List Event). d.done ++ l) (drain-next i es) ∙ d.so_far;
        count = omega (arith, d.count, p.count, length-append d.done one);
        sized = rw (v, length-append d.done one) (length-append (put_many event d.done) (put_many event one) ∙ omega (arith, d.sized, events-length one w));
        bytes = rw v (chain (ANSWER_EVENTS_AT + ANSWER_EVENT_SIZE * written) (ANSWER_EVENT_SIZE * length d.done) (put_many event d.done) (put_many event one) y₀ d.sized d.bytes (p.bytes ∙ rw u));
      }

  pub drained_end :
      length es ≤ i → Written written (drain (drop first es)) y₀ y k
  unfolding drain
  drained_end h =
      let e : d.done ≡ drain (drop first es) =
      sym (append-nil d.done) ∙ ap (λ (l : List Entry). d.done ++ drain l) (sym (drop_of_length-le es h)) ∙ d.so_far in
      record { count = d.count ∙ rw e; bytes = d.bytes ∙ rw e }

pub one_most : (i : ℕ) (es : List Entry) → length (drain (take 1 (drop i es))) ≤ 1
one_most i es = omega (arith, drain_most (take 1 (drop i es)), length-take 1 (drop i es))
