-- What a call leaves, by its questions.
-- Assumes nothing.
use Rattle.std.specs.Prelude.{Option, Some, None, ⊤, Ok, Err}
use mathlib.Core.Path.{◌≡◌, refl, sym, ap, ◌∙◌}
use mathlib.Core.Bool.{Bool, true, false}
use mathlib.Core.List.{List}
use Prim.Native.Nat.{ℕ}
use Rattle.segmentation.specs.Layout.{table_of}
use Rattle.segmentation.specs.Table.{Table}
use Rattle.session.specs.Given.{brought, finished}
use Rattle.session.specs.declared.Message.{Message}
use Rattle.session.specs.declared.PendingMessageToken.{PendingMessageToken}
use Rattle.session.specs.declared.ProcResult.{ProcResult}
use Rattle.session.specs.declared.Refusal.{Refusal}
use Rattle.session.specs.Event.{Event, Held}
use Rattle.session.specs.Session.{Wait, Session}
use Rattle.session.specs.Area.{encode, decode, encode_answer}
use Rattle.session.specs.Builder.{Keyboard, keyboard_of, break_table_of}
use Rattle.session.specs.Calls.{Sort, sort_of, Effect, message_effect, find_wait, resolved, seen, finish_effect, effect_of}
use Rattle.session.specs.Questions.{first_no}
use Rattle.session.specs.Answers.{questions, outcome_by, outcome_of, refusal_number, Said, open_said, finish_said, said_token, result_by, left_by, open_of, finish_of}
use Rattle.event.specs.Written.{keyboard_at}
use Rattle.queue.specs.Changed.{Does}
use Rattle.message.specs.Gives.{Gives}
use Rattle.message.specs.Resolves.{finished_by}
use Rattle.message.specs.Calls.{inputs, left}
use Rattle.message.proofs.Effects.{effect-brought, effect-finished, finish-found, finish_lost}

same_left : {s u : Said} {r q : ProcResult} {x v y w : List ℕ} → s ≡ u → r ≡ q → x ≡ v → y ≡ w → left s r x y ≡ left u q v w
same_left a b c d = rw (a, b, c, d) refl

-- ---- by an open

module _ (x y state block table : List ℕ) (r : ProcResult) (m : Message) where
  opened_as :
      (n : Option ℕ) → n ≡ first_no (questions x y (brought (inputs state block table) m)) →
      open_of x y r (inputs state block table) m ≡ left_by (outcome_by n (decode x) (brought (inputs state block table) m)) x y r (result_by (sort_of m) (decode x) m r)
  unfolding open_of outcome_of
  opened_as n e = rw e refl

  pub open_refused :
      (why : Refusal) → Some (refusal_number why) ≡ first_no (questions x y (brought (inputs state block table) m)) →
      left (open_said (Err why)) r x y ≡ open_of x y r (inputs state block table) m
  unfolding open_said left_by outcome_by
  open_refused why e = sym (opened_as (Some (refusal_number why)) e)

  pub open_passed :
      {k : Sort} {s b : List ℕ} → (k ≡ sort_of m) × (s ≡ state) × (b ≡ block) → None ≡ first_no (questions x y (brought (inputs state block table) m)) →
      {after : ProcResult} → after ≡ result_by k (decode x) m r →
      {o : Option PendingMessageToken} {z w : List ℕ} → Gives (message_effect (decode x) (keyboard_at s b) m k) o z w →
      left (open_said (Ok o)) after z w ≡ open_of x y r (inputs state block table) m
  unfolding left_by outcome_by keyboard_of
  open_passed {k} {s} {b} taken e h g =
      let d : message_effect (decode x) (keyboard_at s b) m k ≡ effect_of (decode x) (brought (inputs state block table) m) =
      rw (taken.0, taken.1, taken.2) (sym (effect-brought (decode x) (inputs state block table) m)) in
      same_left
      (g.said ∙ ap (λ (f : Effect). said_token f.token) d)
      (h ∙ ap (λ (j : Sort). result_by j (decode x) m r) taken.0)
      (g.session ∙ ap (λ (f : Effect). encode f.after) d)
      (g.answers ∙ ap (λ (f : Effect). encode_answer f.events) d)
      ∙ sym (opened_as None e)

-- ---- by a finish, which opens no message

resolved-token : (v : Bool) (s : Session) (t : ℕ) (e : Option Event) (h : Option Held) → (resolved v s t e h).token ≡ None
unfolding resolved
resolved-token true s t e h = refl
resolved-token false s t e h = refl

finish-token : (s : Session) (b : Keyboard) (r : Table) (t : ℕ) (p : Option Message) (w : Option Wait) → (finish_effect s b r t p w).token ≡ None
finish-token s b r t p None = ap (λ (d : Effect). d.token) (finish_lost s b r t p)
finish-token s b r t p (Some w) = ap (λ (d : Effect). d.token) (finish-found s b r t p w) ∙ resolved-token _ _ _ _ _

module _ (x y state block table : List ℕ) (r : ProcResult) (t : ℕ) (n : Option Message) where
  finished_as :
      (o : Option ℕ) → o ≡ first_no (questions x y (finished (inputs state block table) t n)) →
      finish_of x y r (inputs state block table) t n ≡ left_by (outcome_by o (decode x) (finished (inputs state block table) t n)) x y r r
  unfolding finish_of outcome_of
  finished_as o e = rw e refl

  pub finish-refused :
      (why : Refusal) → Some (refusal_number why) ≡ first_no (questions x y (finished (inputs state block table) t n)) →
      left (finish_said (Err why)) r x y ≡ finish_of x y r (inputs state block table) t n
  unfolding finish_said left_by outcome_by
  finish-refused why e = sym (finished_as (Some (refusal_number why)) e)

  pub finish-passed :
      None ≡ first_no (questions x y (finished (inputs state block table) t n)) → {s b q : List ℕ} → (s ≡ state) × (b ≡ block) × (q ≡ table) →
      {p : Option Message} → p ≡ seen n → {z w : List ℕ} → Does (finished_by (decode x) (keyboard_at s b) (table_of q) t p) z w → {done : ⊤} →
      left (finish_said (Ok done)) r z w ≡ finish_of x y r (inputs state block table) t n
  unfolding finish_said left_by outcome_by keyboard_of break_table_of
  finish-passed e {s} {b} {q} lent {p} h g =
      let d : finished_by (decode x) (keyboard_at s b) (table_of q) t p ≡ effect_of (decode x) (finished (inputs state block table) t n) =
      rw (lent.0, lent.1, lent.2, h) (sym (effect-finished (decode x) (inputs state block table) t n)) in
      same_left
      (ap said_token (sym (finish-token (decode x) (keyboard_at state block) (table_of table) t (seen n) (find_wait t (decode x).entries)) ∙ ap (λ (f : Effect). f.token) (sym (effect-finished (decode x) (inputs state block table) t n))))
      refl
      (g.session ∙ ap (λ (f : Effect). encode f.after) d)
      (g.answers ∙ ap (λ (f : Effect). encode_answer f.events) d)
      ∙ sym (finished_as None e)
