-- Never late, and no history: specs/Corollaries.antt has the statements.
-- Assumes nothing.
use Rattle.std.specs.Prelude.{Option, Some, None}
use mathlib.Core.Path.{◌≡◌, refl, ap, sym, ◌∙◌, subst}
use mathlib.Core.Bool.{Bool, true, false}
use mathlib.Core.List.{List, [], ◌∷◌, ◌++◌, append-nil, map, map-append}
use Prim.Native.Nat.{ℕ, suc, ◌≤◌, ◌<◌}
use native.Mathlib.Omega.{arith}
use lib.Dec.{ltb}
use lib.ListN.{length}
use borrow.Author.Tests.{lt-ltb, le-ltb}
use Rattle.area.specs.Pick.{pick}
use Rattle.session.specs.Event.{Event, Held}
use Rattle.session.specs.Area.{encode}
use Rattle.session.specs.Answers.{Outcome}
use Rattle.session.specs.Book.{Arrival, Press, Note, held_in}
use Rattle.session.specs.Run.{Call, State, start, run, CallsInRange}
use Rattle.session.specs.Corollaries.{earliest, before, NeverLate, NoHistory}
use Rattle.session.proofs.Lists.{All}
use Rattle.session.proofs.Queue.{Done, Stack, base, push, note_of, event_of, dones, bottom, opened_of, Wf}
use Rattle.session.proofs.Steps.{Paper, view}
use Rattle.session.proofs.Kept.{Keeps}
use Rattle.session.proofs.Runs.{start_fine, area_of, start_area, Ran, run_fine}

-- ---- what the state after any calls is

pub record Reached (st : State) : Type 0 where
  pub stack : Stack
  pub h : ℕ
  pub c : ℕ
  pub p : Option Press
  pub outcomes : List Outcome
  pub wf : Wf c h stack
  pub keeps : Keeps (view stack h c p).session
  pub same : st ≡ area_of (view stack h c p) outcomes

pub reached : (cs : List Call) → CallsInRange cs → Reached (run start cs)
reached cs r =
    let ran : Ran _ [] cs = run_fine cs _ [] start_fine r in
    let g = ran.fine.inv in
    record {
      stack = g.stack;
      h = g.h;
      c = g.c;
      p = g.p;
      outcomes = ran.outcomes;
      wf = g.wf;
      keeps = subst (λ (x : Paper). Keeps x.session) g.same ran.fine.keeps;
      same = ap (λ (x : State). run x cs) start_area ∙ ran.same ∙ ap (λ (x : Paper). area_of x ran.outcomes) g.same;
    }

-- ---- never late

before-append : (o : Option ℕ) (a b : List Note) → before o (a ++ b) ≡ before o a ++ before o b
unfolding before
before-append o [] b = refl
before-append None (x ∷ a) b = ap (λ (l : List Event). x.event ∷ l) (before-append None a b)
before-append (Some n) (x ∷ a) b = go (ltb x.number n) (before-append (Some n) a b)
  where
    go : (t : Bool) → before (Some n) (a ++ b) ≡ before (Some n) a ++ before (Some n) b → pick t (x.event ∷ []) [] ++ before (Some n) (a ++ b) ≡ (pick t (x.event ∷ []) [] ++ before (Some n) a) ++ before (Some n) b
    go true e = ap (λ (l : List Event). x.event ∷ l) e
    go false e = e

before_all : (D : List Done) → before None (map note_of D) ≡ map event_of D
unfolding before
before_all [] = refl
before_all (d ∷ D) = ap (λ (l : List Event). d.event ∷ l) (before_all D)

before_below : (n : ℕ) (D : List Done) → All (λ d. d.number < n) D → before (Some n) (map note_of D) ≡ map event_of D
unfolding before
before_below n [] a = refl
before_below n (d ∷ D) a = rw (lt-ltb d.number n a.0) (ap (λ (l : List Event). d.event ∷ l) (before_below n D a.1))

before_above : (n : ℕ) (D : List Done) → All (λ d. n ≤ d.number) D → before (Some n) (map note_of D) ≡ []
unfolding before
before_above n [] a = refl
before_above n (d ∷ D) a = rw (le-ltb d.number n a.0) (before_above n D a.1)

same : (n : ℕ) → n ≤ n
same n = omega arith

up : (n m k : ℕ) → n ≤ m → m < k → n ≤ k
up n m k h e = omega arith

-- what came behind a message has a number above it, and above any that is not above the message's
above : (n m c : ℕ) (D : List Done) → n ≤ m → All (λ d. (m < d.number) × (d.number < c)) D → All (λ d. n ≤ d.number) D
above n m c [] h a = tt
above n m c (d ∷ D) h a = (up n m d.number h a.0.0, above n m c D h a.1)

-- the notes of two stretches, of which the second is all above n
split : (n : ℕ) (A B : List Done) (l : List Event) → before (Some n) (map note_of A) ≡ l → All (λ d. n ≤ d.number) B → before (Some n) (map note_of (A ++ B)) ≡ l
split n A B l e a =
    ap (before (Some n)) (map-append note_of A B) ∙ before-append (Some n) (map note_of A) (map note_of B) ∙ ap (λ (r : List Event). before (Some n) (map note_of A) ++ r) (before_above n B a) ∙ append-nil (before (Some n) (map note_of A)) ∙ e

-- a stack with a message: the earliest number, and what the notes below it are
record First (S : Stack) (t : ℕ) (a : Arrival) (D : List Done) : Type 0 where
  number : ℕ
  found : earliest (a ∷ opened_of S) ≡ Some number
  low : number ≤ a.number
  told : before (Some number) (map note_of (dones S ++ D)) ≡ map event_of (bottom S)

first : (S : Stack) (c h t : ℕ) (a : Arrival) (D : List Done) → Wf c h (push S t a D) → First S t a D
unfolding earliest
first (base D₀) c h t a D w =
    record {
      number = a.number;
      found = refl;
      low = same a.number;
      told = split a.number D₀ D (map event_of D₀) (before_below a.number D₀ w.0) (above a.number a.number c D (same a.number) w.4);
    }
first (push S t' a' D') c h t a D w =
    let f = first S a.number t t' a' D' w.0 in
    let l : f.number ≤ a.number = up f.number a'.number a.number f.low w.0.1 in
    record {
      number = f.number;
      found = f.found;
      low = l;
      told = split f.number (dones S ++ D') D (map event_of (bottom S)) f.told (above f.number a.number c D l w.4);
    }

told : (S : Stack) (c h : ℕ) → Wf c h S → map event_of (bottom S) ≡ before (earliest (opened_of S)) (map note_of (dones S))
unfolding earliest
told (base D) c h w = sym (before_all D)
told (push S t a D) c h w =
    let f = first S c h t a D w in
    sym (ap (λ (o : Option ℕ). before o (map note_of (dones S ++ D))) f.found ∙ f.told)

pub never_late : NeverLate
never_late cs r =
    let x = reached cs r in
    subst (λ (st : State). st.out ≡ before (earliest st.book.opened) st.book.noted) (sym x.same) (told x.stack x.c x.h x.wf)

-- ---- no history

some_open : (a : Arrival) (l : List Arrival) → a ∷ l ≡ [] → ⊥
some_open a l e = let z : 0 ≡ suc (length l) = ap length (sym e) in omega arith

nothing_open : (S : Stack) (h c : ℕ) (p : Option Press) → opened_of S ≡ [] → (view S h c p).session ≡ record { handed = 0; entries = []; held = held_in p }
nothing_open (base D) h c p e = refl
nothing_open (push S t a D) h c p e = absurd (some_open a (opened_of S) e)

-- the area of a run that ended with nothing open
rest_area : (st : State) → Reached st → st.book.opened ≡ [] → st.area ≡ encode (record { handed = 0; entries = []; held = held_in st.book.held })
rest_area st x =
    subst (λ (y : State). y.book.opened ≡ [] → y.area ≡ encode (record { handed = 0; entries = []; held = held_in y.book.held })) (sym x.same)
    (λ e. ap encode (nothing_open x.stack x.h x.c x.p e))

pub no_history : NoHistory
no_history cs ds r s e f g =
    rest_area (run start cs) (reached cs r) e ∙ ap (λ (p : Option Held). encode (record { handed = 0; entries = []; held = p })) g ∙ sym (rest_area (run start ds) (reached ds s) f)
