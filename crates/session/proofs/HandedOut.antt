-- What a run hands out stands in the answer areas of its answered calls, each that of events in range.
-- Assumes nothing.
use Rattle.std.specs.Prelude.{Option, Some, None}
use mathlib.Core.Path.{◌≡◌, refl, ap, sym, ◌∙◌, subst}
use mathlib.Core.Bool.{true}
use mathlib.Core.List.{List, [], ◌∷◌, ◌++◌, append_assoc, append-nil}
use Prim.Native.Nat.{ℕ, ◌≤◌}
use lib.ListN.{length}
use Rattle.area.specs.Bytes.{Bytes}
use Rattle.session.specs.Limits.{ENTRIES_MOST}
use Rattle.session.specs.Given.{Given, inputs_of}
use Rattle.session.specs.Event.{Event}
use Rattle.session.specs.Session.{all_fit}
use Rattle.session.specs.Area.{encode_answer, decode_answer}
use Rattle.session.specs.Calls.{effect_of}
use Rattle.session.specs.Questions.{first_no}
use Rattle.session.specs.Answers.{Outcome, refused, answered, outcome_by, outcome_of}
use Rattle.session.specs.Run.{Call, State, Closing, start, joined, next, run, closings, CallsInRange, ClosingsInRange}
use Rattle.session.proofs.Lists.{All, all_append}
use Rattle.session.proofs.Steps.{Paper}
use Rattle.session.proofs.Kept.{call_leaves}
use Rattle.session.proofs.Runs.{Fine, start_fine, area_of, start_area, passed, inputs-ok, asked, next_by, next_fine, Ran, run_fine}

-- ---- the answer areas

-- one that a call wrote: of events in range, and no more than it has room for
pub record Wrote (y : List ℕ) : Type 0 where
  pub events : List Event
  pub area : y ≡ encode_answer events
  pub most : length events ≤ ENTRIES_MOST
  pub fits : all_fit events ≡ true

abbrev pub Writes : Outcome → Type 0
Writes (refused n) = Unit {0}
Writes (answered t x y) = Wrote y

-- the events in them, one call's behind the other's
abbrev pub in_areas : List Outcome → List Event
in_areas [] = []
in_areas (refused n ∷ r) = in_areas r
in_areas (answered t x y ∷ r) = decode_answer y ++ in_areas r

areas_append : (a b : List Outcome) → in_areas (a ++ b) ≡ in_areas a ++ in_areas b
areas_append [] b = refl
areas_append (refused n ∷ a) b = areas_append a b
areas_append (answered t x y ∷ a) b =
    ap (λ (l : List Event). decode_answer y ++ l) (areas_append a b) ∙ sym (append_assoc (decode_answer y) (in_areas a) (in_areas b))

-- ---- what is handed out is what they hold

-- of a state
abbrev Holds : State → Type 0
Holds st = st.out ≡ in_areas st.outcomes

join_holds : (st : State) (g : Given) (o : Outcome) → Holds st → Holds (joined st g o)
unfolding joined
join_holds st g (refused n) e = e ∙ sym (append-nil (in_areas st.outcomes)) ∙ sym (areas_append st.outcomes (refused n ∷ []))
join_holds st g (answered t x y) e =
    ap (λ (l : List Event). l ++ decode_answer y) e
    ∙ ap (λ (l : List Event). in_areas st.outcomes ++ l) (sym (append-nil (decode_answer y)))
    ∙ sym (areas_append st.outcomes (answered t x y ∷ []))

run_holds : (cs : List Call) (st : State) → Holds st → Holds (run st cs)
unfolding run next
run_holds [] st e = e
run_holds (c ∷ cs) st e = run_holds cs (next st c) (join_holds st c.given (outcome_of st.area c.answers c.given) e)

start-holds : Holds start
unfolding start
start-holds = refl

-- ---- each is one that a call wrote

-- of a state
abbrev Written : State → Type 0
Written st = All Writes st.outcomes

module _ (q : Paper) (os : List Outcome) (c : Call) (f : Fine q) (r : Bytes (inputs_of c.given).block) (a : All Writes os) where
  joined_by : (o : Option ℕ) → first_no (asked q c) ≡ o → Written (joined (area_of q os) c.given (outcome_by o q.session c.given))
  unfolding joined outcome_by
  joined_by (Some n) e = all_append Writes os (refused n ∷ []) a (tt, tt)
  joined_by None e =
      let p = passed _ _ _ _ _ e in
      let l = call_leaves q.session c.given (inputs-ok c.given r p.0) f.keeps p.1 in
      let w : Wrote (encode_answer (effect_of q.session c.given).events) = record { events = (effect_of q.session c.given).events; area = refl; most = l.most; fits = l.fits } in
      all_append Writes os (answered _ _ _ ∷ []) a (w, tt)

  next-written : Written (next (area_of q os) c)
  next-written = subst Written (sym (next_by q os c f)) (joined_by (first_no (asked q c)) refl)

run-written : (cs : List Call) (q : Paper) (os : List Outcome) → Fine q → CallsInRange cs → All Writes os → Written (run (area_of q os) cs)
unfolding run
run-written [] q os f r a = a
run-written (c ∷ cs) q os f r a =
    let n = next_fine q os c f r.0 in
    let w : Written (area_of n.paper (os ++ (n.outcome ∷ []))) = subst Written n.same (next-written q os c f r.0 a) in
    subst (λ (st : State). Written (run st cs)) (sym n.same) (run-written cs n.paper (os ++ (n.outcome ∷ [])) n.fine r.1 w)

closings-calls : (ts : List ℕ) (ks : List Closing) → ClosingsInRange ks → CallsInRange (closings ts ks)
unfolding closings
closings-calls [] ks r = tt
closings-calls (t ∷ ts) [] r = tt
closings-calls (t ∷ ts) (k ∷ ks) r = (r.0, closings-calls ts ks r.1)

-- ---- a whole run, with its closings

abbrev Closes : List Closing → State → Type 0
Closes ks st = Written st → Written (run st (closings st.tokens ks))

pub run-handed-out :
    (cs : List Call) (ks : List Closing) → CallsInRange cs → ClosingsInRange ks →
    let st : State = run start cs in
    let end : State = run st (closings st.tokens ks) in
    (end.out ≡ in_areas end.outcomes) × All Writes end.outcomes
run-handed-out cs ks r s =
    let st : State = run start cs in
    let ran : Ran _ [] cs = run_fine cs _ [] start_fine r in
    let from : run start cs ≡ run (area_of _ []) cs = ap (λ (x : State). run x cs) start_area in
    let before : Written st = subst Written (sym from) (run-written cs _ [] start_fine r tt) in
    let closes : Closes ks st =
    subst (Closes ks) (sym (from ∙ ran.same)) (run-written (closings ran.paper.tokens ks) ran.paper ran.outcomes ran.fine (closings-calls ran.paper.tokens ks s)) in
    (run_holds (closings st.tokens ks) st (run_holds cs start start-holds), closes before)
