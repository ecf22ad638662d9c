-- What the C functions answer, from what the calls below said. The message result is passed as value 1, and a number says what became of it.
-- Assumes nothing.
use Rattle.std.specs.Prelude.{Option, Some, None, Result, Ok, Err, ⊤}
use mathlib.Core.Path.{◌≡◌, refl, sym, ap, subst, ◌∙◌}
use mathlib.Core.Bool.{Bool, true, false}
use mathlib.Core.List.{List, ◌++◌}
use Prim.Native.Nat.{ℕ, ◌≤◌, ◌<◌}
use native.Mathlib.Nat.{zero-add}
use native.Mathlib.Omega.{arith}
use lib.Dec.{eqb}
use lib.ListN.{length, take, drop}
use lib.IntN.{ℤ, pos}
use mir.Syntax.{w64}
use mir.Val.{of_z}
use borrow.Author.Tests.{ne_eqb, lt-ltb, le-ltb}
use Rattle.area.specs.Pick.{pick}
use Rattle.area.specs.Look.{assoc}
use Rattle.area.proofs.Splice.{splice_eq}
use Rattle.session.specs.Event.{Event}
use Rattle.session.specs.Given.{Inputs, brought, WM_SYSKEYDOWN}
use Rattle.session.specs.declared.Message.{Message}
use Rattle.session.specs.Limits.{TEXT_MOST}
use Rattle.session.specs.Session.{Session}
use Rattle.session.specs.Area.{decode}
use Rattle.session.specs.Calls.{Sort, key_down, key_up, char, dead_char, ignored, focus, sort_of}
use Rattle.session.specs.Questions.{is_held}
use Rattle.session.specs.Answers.{Outcome, refused, answered, outcome_of, Left, left_by, result_by, zero_result, open_of, finish_of, open_said, finish_said}
use Rattle.session.specs.declared.PendingMessageToken.{PendingMessageToken}
use Rattle.session.specs.declared.Refusal.{Refusal}
use Rattle.session.specs.declared.ProcResult.{ProcResult}
use Rattle.session.specs.declared.ProcResult.TheVariants.{DefWindowProc, Value}
use Rattle.message.specs.Calls.{left}
use Rattle.export.specs.Numbers.{NONE, refusal_of, refused_number, token_number, changed, change_of}
use Rattle.export.specs.Events.{FIELDS, fields_left, text_left}
use Rattle.export.specs.Interface.{OpenSays, FinishSays}

-- ---- the message result

abbrev passed : ProcResult
passed = Value (pos 1)

change_most : (r : ProcResult) → change_of r ≤ 2
unfolding change_of
change_most DefWindowProc = omega arith
change_most (Value v) = go (eqb (of_z w64 v) 0)
  where
    go : (b : Bool) → pick b 2 0 ≤ 2
    go true = omega arith
    go false = omega arith

by_sort : (k : Sort) (s : Session) (m : Message) (was : ProcResult) → changed (change_of (result_by k s m passed)) was ≡ result_by k s m was
unfolding changed change_of result_by assoc
by_sort key_down s m was = go (eqb m.kind WM_SYSKEYDOWN)
  where
    go : (b : Bool) → changed (change_of (pick b DefWindowProc (Value zero_result))) was ≡ pick b DefWindowProc (Value zero_result)
    go true = refl
    go false = refl
by_sort key_up s m was = refl
by_sort char s m was = go (is_held s.held)
  where
    go : (b : Bool) → changed (change_of (pick b (Value zero_result) passed)) was ≡ pick b (Value zero_result) was
    go true = refl
    go false = refl
by_sort dead_char s m was = refl
by_sort (focus st) s m was = refl
by_sort ignored s m was = refl

-- ---- the refusal that a call answers

open_refused : (a : Result (Option PendingMessageToken) Refusal) → refused_number a ≡ refusal_of (open_said a)
unfolding refused_number refusal_of open_said
open_refused (Err r) = refl
open_refused (Ok (Some t)) = refl
open_refused (Ok None) = refl

finish_refused : (a : Result ⊤ Refusal) → refused_number a ≡ refusal_of (finish_said a)
unfolding refused_number refusal_of finish_said
finish_refused (Err r) = refl
finish_refused (Ok x) = refl

-- ---- an open

by_outcome :
    (o : Outcome) (x y : List ℕ) (was p q : ProcResult) → changed (change_of p) was ≡ q →
    let l = left_by o x y passed p in OpenSays (refusal_of l.said) (token_number l.said) (change_of l.result) l.session l.answers (left_by o x y was q) was
unfolding left_by changed change_of assoc
by_outcome (refused n) x y was p q e = (refl, refl, refl, change_most passed, refl, refl)
by_outcome (answered t x' y') x y was p q e = (refl, refl, e, change_most p, refl, refl)

module _ (x y : List ℕ) (i : Inputs) (m : Message) where
  open_left :
      (was : ProcResult) →
      let l = open_of x y passed i m in OpenSays (refusal_of l.said) (token_number l.said) (change_of l.result) l.session l.answers (open_of x y was i m) was
  unfolding open_of
  open_left was =
      by_outcome (outcome_of x y (brought i m)) x y was (result_by (sort_of m) (decode x) m passed) (result_by (sort_of m) (decode x) m was) (by_sort (sort_of m) (decode x) m was)

  -- v is the value that was passed, a what the call answered
  pub open_says :
      (a : Result (Option PendingMessageToken) Refusal) {v : ℤ} {r : ProcResult} {s t : List ℕ} → left (open_said a) r s t ≡ open_of x y (Value v) i m → v ≡ pos 1 →
      {n k c : ℕ} → n ≡ refused_number a → k ≡ token_number (open_said a) → c ≡ change_of r → (was : ProcResult) → OpenSays n k c s t (open_of x y was i m) was
  open_says a {v} {r} {s} {t} f ev en ek ec was =
      let e : left (open_said a) r s t ≡ open_of x y passed i m = rw ev at f in
      rw (en, open_refused a, ek, ec) (
      subst (λ (l : Left). OpenSays (refusal_of l.said) (token_number l.said) (change_of l.result) l.session l.answers (open_of x y was i m) was) (sym e) (open_left was))

-- ---- a finish, which answered a

pub finish_says :
    (x y : List ℕ) (i : Inputs) (token : ℕ) (p : Option Message) (a : Result ⊤ Refusal) {s t : List ℕ} →
    ((r : ProcResult) → left (finish_said a) r s t ≡ finish_of x y r i token p) → {n : ℕ} → n ≡ refused_number a → (was : ProcResult) →
    FinishSays n s t (finish_of x y was i token p)
finish_says x y i token p a {s} {t} e en was =
    (en ∙ finish_refused a ∙ ap (λ (l : Left). refusal_of l.said) (e was), ap (λ (l : Left). l.session) (e was), ap (λ (l : Left). l.answers) (e was))

-- ---- no room for what is asked

pub no_fields : (f : List ℕ) → (length f ≡ FIELDS → ⊥) → (o : Option Event) → ◌≡◌ {A = ℕ × List ℕ} (1, f) (fields_left o f)
unfolding fields_left
no_fields f h None = refl
no_fields f h (Some e) = rw (ne_eqb (length f) FIELDS h) refl

pub no_room : (t : List ℕ) → length t < TEXT_MOST → (o : Option (List ℕ)) → ◌≡◌ {A = ℕ × List ℕ} (NONE, t) (text_left o t)
unfolding text_left
no_room t h None = refl
no_room t h (Some b) = rw (lt-ltb (length t) TEXT_MOST h) refl

-- ---- a text that is there, copied to the front of one with enough room

pub text_copied :
    (b t : List ℕ) → length b ≤ TEXT_MOST → TEXT_MOST ≤ length t → ◌≡◌ {A = ℕ × List ℕ} (length b, b ++ drop (length b) t) (text_left (Some b) t)
unfolding text_left
text_copied b t h k = rw (le-ltb (length t) TEXT_MOST k, splice_eq b t 0 (omega arith), zero-add) refl
