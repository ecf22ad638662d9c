-- The first question that a call fails, by those put to every call and those behind them; what it passed where it fails none.
-- Assumes nothing.
use Rattle.std.specs.Prelude.{Option, Some, None}
use mathlib.Core.Path.{◌≡◌, refl, sym, ◌∙◌}
use mathlib.Core.Bool.{Bool, true, false}
use mathlib.Core.List.{List, [], ◌∷◌, ◌++◌}
use Prim.Native.Nat.{ℕ}
use lib.Dec.{eqb}
use lib.ListN.{length}
use borrow.Author.Tests.{eqb-true}
use Rattle.area.specs.Pick.{pick}
use Rattle.segmentation.specs.Layout.{table_ok}
use Rattle.lookup.specs.Block.{block_ok}
use Rattle.session.specs.Limits.{AREA}
use Rattle.session.specs.Given.{Given, brought, inputs_of}
use Rattle.session.specs.declared.Message.{Message}
use Rattle.session.specs.Session.{Session}
use Rattle.session.specs.Area.{decode, session_ok}
use Rattle.session.specs.Builder.{Keyboard, keyboard_of}
use Rattle.session.specs.Calls.{Sort, sort_of}
use Rattle.session.specs.Questions.{question1, question2, question3, question11, question5, question6, question7, question8, question9, first_no, message_questions, session_questions}
use Rattle.session.specs.Answers.{questions}
use Rattle.session.proofs.Lists.{and_true}
use Rattle.event.specs.Written.{keyboard_at}
use Rattle.queue.specs.Room.{IsArea}
use Rattle.questions.specs.Asked.{to_every}
use Rattle.message.specs.Calls.{inputs}
use Rattle.message.specs.Passes.{Passes}

-- ---- questions behind others

failed_by : (p : Bool) (k n : ℕ) (w v : Option ℕ) → Some n ≡ pick p w (Some k) → (Some n ≡ w → Some n ≡ v) → Some n ≡ pick p v (Some k)
failed_by true k n w v e f = f e
failed_by false k n w v e f = e

failed_before : (n : ℕ) (qs rs : List (ℕ × Bool)) → Some n ≡ first_no qs → Some n ≡ first_no (qs ++ rs)
unfolding first_no
failed_before n [] rs e = cc
failed_before n (q ∷ qs) rs e = failed_by q.1 q.0 n (first_no qs) (first_no (qs ++ rs)) e (failed_before n qs rs)

passed_by : (p : Bool) (k : ℕ) (w : Option ℕ) → None ≡ pick p w (Some k) → (p ≡ true) × (None ≡ w)
passed_by true k w e = (refl, e)
passed_by false k w e = (cc, cc)

first-passed : (k : ℕ) (p : Bool) (qs : List (ℕ × Bool)) → None ≡ first_no ((k, p) ∷ qs) → (p ≡ true) × (None ≡ first_no qs)
unfolding first_no
first-passed k p qs e = passed_by p k (first_no qs) e

passed-before : (qs rs : List (ℕ × Bool)) → None ≡ first_no qs → first_no (qs ++ rs) ≡ first_no rs
unfolding first_no
passed-before [] rs e = refl
passed-before (q ∷ qs) rs e = let h = passed_by q.1 q.0 (first_no qs) e in rw h.0 (passed-before qs rs h.1)

both_passed : (qs rs : List (ℕ × Bool)) → None ≡ first_no (qs ++ rs) → (None ≡ first_no qs) × (None ≡ first_no rs)
unfolding first_no
both_passed [] rs e = (refl, e)
both_passed (q ∷ qs) rs e =
    let h = passed_by q.1 q.0 (first_no (qs ++ rs)) e in
    let g = both_passed qs rs h.1 in (rw h.0 g.0, g.1)

-- ---- those of a call

module _ (x y : List ℕ) (g : Given) where
  abbrev every : List (ℕ × Bool)
  every = to_every x y (inputs_of g).key_state (inputs_of g).block (inputs_of g).table

  in_two : questions x y g ≡ every ++ session_questions (decode x) g
  unfolding questions to_every question2 question3 question11
  in_two = refl

  pub first-early : {n : ℕ} → Some n ≡ first_no every → Some n ≡ first_no (questions x y g)
  first-early {n} e = rw in_two (failed_before n every (session_questions (decode x) g) e)

  pub first-late : None ≡ first_no every → first_no (questions x y g) ≡ first_no (session_questions (decode x) g)
  first-late e = rw in_two (passed-before every (session_questions (decode x) g) e)

  -- a call that fails none passed those put to every call, and its own
  all_passed : None ≡ first_no (questions x y g) → (None ≡ first_no every) × (None ≡ first_no (session_questions (decode x) g))
  all_passed e = both_passed every (session_questions (decode x) g) (rw in_two at e)

-- ---- what those put to every call say, where all are passed

module _ (x y state block table : List ℕ) (passed : None ≡ first_no (to_every x y state block table)) where
  each : (question1 x y ≡ true) × (session_ok x ≡ true)
  unfolding to_every
  each =
      let p = first-passed 1 (question1 x y) _ passed in
      let t = first-passed 2 _ _ p.1 in
      let b = first-passed 3 (block_ok block) _ t.1 in
      let r = first-passed 11 (table_ok table) _ b.1 in
      let s = first-passed 4 (session_ok x) _ r.1 in
      (p.0, s.0)

  sizes : (length x ≡ AREA) × (length y ≡ AREA)
  unfolding question1
  sizes = let h = and_true (eqb (length x) AREA) (eqb (length y) AREA) each.0 in (eqb-true (length x) AREA h.0, eqb-true (length y) AREA h.1)

  pub asked_area : IsArea x
  asked_area = record { size = sizes.0; passed = each.1 }

  pub asked_answers : length y ≡ AREA
  asked_answers = sizes.1

-- ---- 5 to 9

asked_passes : (s : Session) (b : Keyboard) (m : Message) (k : Sort) → None ≡ first_no (message_questions s b m k) → Passes s b m k
unfolding message_questions
asked_passes s b m k z =
    let five = first-passed 5 (question5 s k) _ z in
    let six = first-passed 6 (question6 s k) _ five.1 in
    let seven = first-passed 7 (question7 s b k) _ six.1 in
    let eight = first-passed 8 (question8 s b k) _ seven.1 in
    let nine = first-passed 9 (question9 s m k) _ eight.1 in
    record { held = five.0; entries = seven.0; tokens = eight.0; units = nine.0 }

-- a message is taken by its sort k, by the key state s and by the layout b
module _ (x y state block table : List ℕ) (m : Message) {k : Sort} {s b : List ℕ} (taken : (k ≡ sort_of m) × (s ≡ state) × (b ≡ block)) where
  -- what it is asked by them is what it is asked
  pub asked_by :
      first_no (message_questions (decode x) (keyboard_at s b) m k) ≡ first_no (session_questions (decode x) (brought (inputs state block table) m))
  unfolding session_questions keyboard_of
  asked_by = rw (taken.0, taken.1, taken.2) refl

  -- all that an open counts on
  pub open_counts :
      None ≡ first_no (questions x y (brought (inputs state block table) m)) → IsArea x × (length y ≡ AREA) × Passes (decode x) (keyboard_at s b) m k
  open_counts passed =
      let p = all_passed x y (brought (inputs state block table) m) passed in (
        asked_area x y state block table p.0,
        asked_answers x y state block table p.0,
        asked_passes (decode x) (keyboard_at s b) m k (p.1 ∙ sym asked_by),
      )
