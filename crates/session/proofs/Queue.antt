-- Everything that ever arrived, as a stack cut at the open messages: the whole state of a run is a function of it.
-- Assumes nothing.
use Rattle.std.specs.Prelude.{Option, Some, None}
use mathlib.Core.Path.{◌≡◌, refl, ap, sym, ◌∙◌}
use mathlib.Core.Bool.{true, false}
use mathlib.Core.List.{List, [], ◌∷◌, ◌++◌, append_assoc, append-nil, map}
use Prim.Native.Nat.{ℕ, suc, ◌+◌, ◌≤◌, ◌<◌}
use native.Mathlib.Omega.{arith}
use lib.ListN.{length}
use borrow.Author.Tests.{lt-ltb, le-leb, lt-leb, eq-eqb, ne_eqb}
use Rattle.area.specs.Pick.{pick}
use Rattle.lookup.specs.LParam.{key_lparam, virtual_key}
use Rattle.session.specs.Given.{Inputs}
use Rattle.session.specs.declared.Message.{Message}
use Rattle.session.specs.Event.{Event, Held}
use Rattle.session.specs.Session.{Wait, press, release, character, Entry, waiting, complete, Session, token_of, rising, first_open}
use Rattle.session.specs.Calls.{numbered, behind, find_wait, in_place, resolve, is_first, drain}
use Rattle.session.specs.Questions.{last_token}
use Rattle.session.specs.Book.{Arrival, Note, press_kind, release_kind, info_of, note_in, note_all}
use Rattle.session.proofs.Lists.{All, all_map, all_append}

-- ---- the stack

-- an event that was noted, with the token that its entry had
pub record Done : Type 0 where
  pub token : ℕ
  pub number : ℕ
  pub event : Event

-- `base`: all that is handed out. `push`: an open message with its token, and the complete ones behind it; the latest outermost.
pub data Stack : Type 0 where
  base : List Done → Stack
  push : Stack → ℕ → Arrival → List Done → Stack

-- what the session keeps of an open message
unfoldable pub wait_of : Arrival → Wait
wait_of a =
    pick (press_kind a.message.kind) (press (virtual_key a.message.wparam) (key_lparam a.message.lparam))
    (pick (release_kind a.message.kind) (release (info_of a.inputs a.message)) character)

abbrev pub entry_of : Done → Entry
entry_of d = complete d.token d.event

abbrev pub note_of : Done → Note
note_of d = record { number = d.number; event = d.event }

abbrev pub event_of : Done → Event
event_of d = d.event

abbrev pub flat : Stack → List Entry
flat (base D) = []
flat (push S t a D) = flat S ++ (waiting t (wait_of a) ∷ map entry_of D)

abbrev pub dones : Stack → List Done
dones (base D) = D
dones (push S t a D) = dones S ++ D

abbrev pub bottom : Stack → List Done
bottom (base D) = D
bottom (push S t a D) = bottom S

abbrev pub opened_of : Stack → List Arrival
opened_of (base D) = []
opened_of (push S t a D) = a ∷ opened_of S

abbrev pub tokens_of : Stack → List ℕ
tokens_of (base D) = []
tokens_of (push S t a D) = t ∷ tokens_of S

abbrev pub handed_of : Stack → ℕ → ℕ
handed_of (base D) h = 0
handed_of (push S t a D) h = h

abbrev pub app : Stack → List Done → Stack
app (base D) L = base (D ++ L)
app (push S t a D) L = push S t a (D ++ L)

-- ---- its order: tokens strictly rising from lo, below hi

abbrev pub Rises : ℕ → ℕ → List Done → Type 0
Rises lo hi [] = lo ≤ hi
Rises lo hi (d ∷ D) = (lo ≤ d.token) × Rises (suc d.token) hi D

abbrev pub RisesE : ℕ → ℕ → List Entry → Type 0
RisesE lo hi [] = lo ≤ hi
RisesE lo hi (x ∷ r) = (lo ≤ token_of x) × RisesE (suc (token_of x)) hi r

-- Below c all numbers, below h all tokens; a message's number and token bound what is under it.
abbrev pub Wf : ℕ → ℕ → Stack → Type 0
Wf c h (base D) = All (λ d. d.number < c) D
Wf c h (push S t a D) =
    Wf a.number t S × (a.number < c) × (t < h) × Rises (suc t) h D × All (λ d. (a.number < d.number) × (d.number < c)) D

rises_append : (lo mid hi : ℕ) (A B : List Done) → Rises lo mid A → Rises mid hi B → Rises lo hi (A ++ B)
rises_append lo mid hi [] [] a b = omega arith
rises_append lo mid hi [] (d ∷ B) a b = (omega arith, b.1)
rises_append lo mid hi (d ∷ A) B a b = (a.0, rises_append (suc d.token) mid hi A B a.1 b)

rises_e_append : (lo mid hi : ℕ) (A B : List Entry) → RisesE lo mid A → RisesE mid hi B → RisesE lo hi (A ++ B)
rises_e_append lo mid hi [] [] a b = omega arith
rises_e_append lo mid hi [] (d ∷ B) a b = (omega arith, b.1)
rises_e_append lo mid hi (d ∷ A) B a b = (a.0, rises_e_append (suc (token_of d)) mid hi A B a.1 b)

rises_e_le : (lo hi : ℕ) (D : List Entry) → RisesE lo hi D → lo ≤ hi
rises_e_le lo hi [] r = r
rises_e_le lo hi (d ∷ D) r = omega (arith, r.0, rises_e_le (suc (token_of d)) hi D r.1)

rises_e_below : (lo hi : ℕ) (A : List Entry) → RisesE lo hi A → All (λ x. token_of x < hi) A
rises_e_below lo hi [] r = tt
rises_e_below lo hi (x ∷ A) r = (rises_e_le (suc (token_of x)) hi A r.1, rises_e_below (suc (token_of x)) hi A r.1)

entries_rise : (lo hi : ℕ) (D : List Done) → Rises lo hi D → RisesE lo hi (map entry_of D)
entries_rise lo hi [] r = r
entries_rise lo hi (d ∷ D) r = (r.0, entries_rise (suc d.token) hi D r.1)

pub dones_below : (S : Stack) (c h : ℕ) → Wf c h S → All (λ d. d.number < c) (dones S)
dones_below (base D) c h w = w
dones_below (push S t a D) c h w =
    all_append (λ d. d.number < c) (dones S) D (all_map (λ d x. omega arith) (dones S) (dones_below S a.number t w.0))
    (all_map (λ d x. x.1) D w.4)

pub flat_rises : (S : Stack) (c h : ℕ) → Wf c h S → RisesE 0 h (flat S)
flat_rises (base D) c h w = omega arith
flat_rises (push S t a D) c h w =
    rises_e_append 0 t h (flat S) (waiting t (wait_of a) ∷ map entry_of D) (flat_rises S a.number t w.0)
    (omega arith, entries_rise (suc t) h D w.3)

pub flat_below : (S : Stack) (c h : ℕ) → Wf c h S → All (λ x. token_of x < h) (flat S)
flat_below S c h w = rises_e_below 0 h (flat S) (flat_rises S c h w)

pub handed_wf : (S : Stack) (h c : ℕ) → Wf c h S → Wf c (handed_of S h) S
handed_wf (base D) h c w = w
handed_wf (push S t a D) h c w = w

-- ---- what a session says of its order

pub rising_true : (lo hi : ℕ) (l : List Entry) → RisesE lo hi l → rising lo hi l ≡ true
unfolding rising
rising_true lo hi [] r = refl
rising_true lo hi (x ∷ l) r =
    rw (le-leb lo (token_of x) r.0, lt-ltb (token_of x) hi (rises_e_le (suc (token_of x)) hi l r.1), rising_true (suc (token_of x)) hi l r.1)

first-at : (S : Stack) (h t : ℕ) (w : Wait) (B : List Entry) → first_open h (flat S ++ (waiting t w ∷ B)) ≡ true
unfolding first_open
first-at (base D) h t w B = refl
first-at (push S t' a' D') h t w B =
    rw append_assoc (first-at S h t' (wait_of a') (map entry_of D' ++ (waiting t w ∷ B)))

pub first_true : (S : Stack) (h : ℕ) → first_open (handed_of S h) (flat S) ≡ true
unfolding first_open
first_true (base D) h = refl
first_true (push S t a D) h = first-at S h t (wait_of a) (map entry_of D)

-- ---- the queue

pub find_at : (A B : List Entry) (t : ℕ) (w : Wait) → All (λ x. token_of x < t) A → find_wait t (A ++ (waiting t w ∷ B)) ≡ Some w
unfolding find_wait
find_at [] B t w a = rw (eq-eqb t t refl)
find_at (x ∷ A) B t w a = rw (ne_eqb t (token_of x) (λ e. omega arith)) (find_at A B t w a.1)

pub resolve_at : (A B : List Entry) (t : ℕ) (w : Wait) (o : Option Event) → All (λ x. token_of x < t) A → resolve t o (A ++ (waiting t w ∷ B)) ≡ A ++ in_place t o B
unfolding resolve
resolve_at [] B t w o a = rw (eq-eqb t t refl)
resolve_at (x ∷ A) B t w o a = rw (ne_eqb t (token_of x) (λ e. omega arith)) (ap (λ r. x ∷ r) (resolve_at A B t w o a.1))

pub not_first : (A B C : List Entry) (x : Entry) (t : ℕ) → All (λ x. token_of x < t) (A ++ (x ∷ B)) → is_first t ((A ++ (x ∷ B)) ++ C) ≡ false
unfolding is_first
not_first [] B C x t a = ne_eqb t (token_of x) (λ e. omega arith)
not_first (y ∷ A) B C x t a = ne_eqb t (token_of y) (λ e. omega arith)

pub is-first : (t : ℕ) (w : Wait) (B : List Entry) → is_first t (waiting t w ∷ B) ≡ true
unfolding is_first
is-first t w B = eq-eqb t t refl

pub behind_at :
    (s : Session) (es : List Event) (h : Option Held) (A B : List Entry) (x : Entry) →
    behind s es h (A ++ (x ∷ B)) ≡ record { token = None; events = []; after = record { handed = s.handed + length es; entries = (A ++ (x ∷ B)) ++ numbered s.handed es; held = h } }
unfolding behind
behind_at s es h [] B x = refl
behind_at s es h (y ∷ A) B x = refl

last_none : (D : List Done) → last_token (map entry_of D) ≡ None
unfolding last_token
last_none [] = refl
last_none (d ∷ D) = last_none D

pub last-at : (A : List Entry) (D : List Done) (t : ℕ) (w : Wait) → last_token (A ++ (waiting t w ∷ map entry_of D)) ≡ Some t
unfolding last_token
last-at [] D t w = rw (last_none D)
last-at (waiting t' w' ∷ A) D t w = rw (last-at A D t w)
last-at (complete t' e ∷ A) D t w = last-at A D t w

pub drain-entries : (D : List Done) → drain (map entry_of D) ≡ map event_of D
unfolding drain
drain-entries [] = refl
drain-entries (d ∷ D) = ap (λ r. d.event ∷ r) (drain-entries D)

-- ---- the book

pub note_at : (A B : List Done) (d : Done) → All (λ x. x.number ≤ d.number) A → All (λ x. d.number < x.number) B → note_in d.number d.event (map note_of (A ++ B)) ≡ map note_of (A ++ (d ∷ B))
unfolding note_in
note_at [] [] d a b = refl
note_at [] (x ∷ B) d a b = rw (lt-leb x.number d.number b.0)
note_at (x ∷ A) B d a b = rw (le-leb x.number d.number a.0) (ap (λ r. note_of x ∷ r) (note_at A B d a.1 b))

-- the events es under number n, with tokens from t on
unfoldable pub tagged : ℕ → ℕ → List Event → List Done
tagged t n [] = []
tagged t n (e ∷ r) = record { token = t; number = n; event = e } ∷ tagged (suc t) n r

pub note-all : (es : List Event) (A : List Done) (t n : ℕ) → All (λ x. x.number ≤ n) A → note_all n es (map note_of A) ≡ map note_of (A ++ tagged t n es)
unfolding note_all tagged
note-all [] A t n a = rw append-nil
note-all (e ∷ es) A t n a =
    let d : Done = record { token = t; number = n; event = e } in
    let one : note_in n e (map note_of A) ≡ map note_of (A ++ (d ∷ []))
    = ap (λ l. note_in n e (map note_of l)) (sym (append-nil A)) ∙ note_at A [] d a tt in
    rw one
    (note-all es (A ++ (d ∷ [])) (suc t) n (all_append (λ x. x.number ≤ n) A (d ∷ []) a (omega arith)) ∙ ap (map note_of) (append_assoc A (d ∷ []) (tagged (suc t) n es)))

pub tagged_in : (es : List Event) (t c n : ℕ) → n ≤ c → All (λ d. (n ≤ d.number) × (d.number < suc c)) (tagged t c es)
unfolding tagged
tagged_in [] t c n p = tt
tagged_in (e ∷ es) t c n p = (omega arith, tagged_in es (suc t) c n p)

pub tagged_rise : (es : List Event) (t c h : ℕ) → t + length es ≡ h → Rises t h (tagged t c es)
unfolding tagged
tagged_rise [] t c h q = omega arith
tagged_rise (e ∷ es) t c h q = (omega arith, tagged_rise es (suc t) c h (omega arith))

pub entries_tagged : (es : List Event) (t n : ℕ) → map entry_of (tagged t n es) ≡ numbered t es
unfolding tagged numbered
entries_tagged [] t n = refl
entries_tagged (e ∷ es) t n = ap (λ r. complete t e ∷ r) (entries_tagged es (suc t) n)

pub events_tagged : (es : List Event) (t n : ℕ) → map event_of (tagged t n es) ≡ es
unfolding tagged
events_tagged [] t n = refl
events_tagged (e ∷ es) t n = ap (λ r. e ∷ r) (events_tagged es (suc t) n)

-- ---- a finish: the event, if there is one, stands before what came behind the message

unfoldable pub kept : ℕ → ℕ → Option Event → List Done → List Done
kept t n None D = D
kept t n (Some e) D = record { token = t; number = n; event = e } ∷ D

pub entries_kept : (t n : ℕ) (o : Option Event) (D : List Done) → in_place t o (map entry_of D) ≡ map entry_of (kept t n o D)
unfolding kept in_place
entries_kept t n None D = refl
entries_kept t n (Some e) D = refl

-- what the book does with an event that may be none
unfoldable pub note_opt : ℕ → Option Event → List Note → List Note
note_opt n None l = l
note_opt n (Some e) l = note_in n e l

pub note_kept : (A B : List Done) (t n : ℕ) (o : Option Event) → All (λ x. x.number ≤ n) A → All (λ x. n < x.number) B → note_opt n o (map note_of (A ++ B)) ≡ map note_of (A ++ kept t n o B)
unfolding note_opt kept
note_kept A B t n None a b = refl
note_kept A B t n (Some e) a b = note_at A B (record { token = t; number = n; event = e }) a b

pub dones_app : (S : Stack) (L : List Done) → dones (app S L) ≡ dones S ++ L
dones_app (base D) L = refl
dones_app (push S t a D) L = rw append_assoc

pub tokens_app : (S : Stack) (L : List Done) → tokens_of (app S L) ≡ tokens_of S
tokens_app (base D) L = refl
tokens_app (push S t a D) L = refl

pub opened_app : (S : Stack) (L : List Done) → opened_of (app S L) ≡ opened_of S
opened_app (base D) L = refl
opened_app (push S t a D) L = refl

app_wf :
    (S : Stack) (c h n t : ℕ) (L : List Done) →
    Wf n t S → n < c → t < h → Rises t h L → All (λ d. (n ≤ d.number) × (d.number < c)) L → Wf c h (app S L)
app_wf (base D) c h n t L w p q r l =
    all_append (λ d. d.number < c) D L (all_map (λ d x. omega arith) D w) (all_map (λ d x. omega arith) L l)
app_wf (push S t' a D) c h n t L w p q r l = (
  w.0,
  omega arith,
  omega arith,
  rises_append (suc t') t h D L w.3 r,
  all_append (λ d. (a.number < d.number) × (d.number < c)) D L (all_map (λ d x. omega arith) D w.4) (all_map (λ d x. omega arith) L l),
)

kept_rises : (h n t : ℕ) (o : Option Event) (D : List Done) → t < h → Rises (suc t) h D → Rises t h (kept t n o D)
unfolding kept
kept_rises h n t None [] q r = omega arith
kept_rises h n t None (d ∷ D) q r = (omega arith, r.1)
kept_rises h n t (Some e) D q r = (omega arith, r)

kept_in : (c n t : ℕ) (o : Option Event) (D : List Done) → n < c → All (λ d. (n < d.number) × (d.number < c)) D → All (λ d. (n ≤ d.number) × (d.number < c)) (kept t n o D)
unfolding kept
kept_in c n t None D p l = all_map (λ d x. omega arith) D l
kept_in c n t (Some e) D p l = (omega arith, all_map (λ d x. omega arith) D l)

pub finish_wf : (S : Stack) (t h c : ℕ) (a : Arrival) (D : List Done) (o : Option Event) → Wf c h (push S t a D) → Wf c h (app S (kept t a.number o D))
finish_wf S t h c a D o w =
    app_wf S c h a.number t (kept t a.number o D) w.0 w.1 w.2 (kept_rises h a.number t o D w.2 w.3) (kept_in c a.number t o D w.1 w.4)

pub open_wf : (S : Stack) (h c : ℕ) (i : Inputs) (m : Message) → Wf c h S → Wf (suc c) (suc (handed_of S h)) (push S (handed_of S h) (record { number = c; inputs = i; message = m }) [])
open_wf S h c i m w = (handed_wf S h c w, omega arith, omega arith, omega arith, tt)

pub behind_wf : (S : Stack) (h c : ℕ) (es : List Event) → Wf c h S → Wf (suc c) (handed_of S h + length es) (app S (tagged (handed_of S h) c es))
behind_wf (base D) h c es w =
    all_append (λ d. d.number < suc c) D (tagged 0 c es) (all_map (λ d x. omega arith) D w)
    (all_map (λ d x. x.1) (tagged 0 c es) (tagged_in es 0 c 0 (omega arith)))
behind_wf (push S t a D) h c es w = (
  w.0,
  omega arith,
  omega arith,
  rises_append (suc t) h (h + length es) D (tagged h c es) w.3 (tagged_rise es h c (h + length es) refl),
  all_append (λ d. (a.number < d.number) × (d.number < suc c)) D (tagged h c es) (all_map (λ d x. omega arith) D w.4) (tagged_in es h c (suc a.number) w.1),
)
