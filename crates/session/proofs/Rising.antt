-- The book's noted events stand by rising number, whatever it is fed.
-- Assumes nothing.
use Rattle.std.specs.Prelude.{Option, Some, None}
use mathlib.Core.Path.{◌≡◌, refl}
use mathlib.Core.Bool.{Bool, true, false, ◌||◌}
use mathlib.Core.List.{List, [], ◌∷◌}
use Prim.Native.Nat.{ℕ, ◌≤◌, zero-le}
use native.Mathlib.Omega.{arith}
use lib.Dec.{leb, eqb}
use borrow.Author.Tests.{leb-true, leb-false}
use Rattle.area.specs.Pick.{pick}
use Rattle.session.specs.Given.{Inputs, Given, brought, finished}
use Rattle.session.specs.declared.Message.{Message}
use Rattle.session.specs.Event.{Event}
use Rattle.session.specs.Builder.{keyboard_of, fake, press_event, release_event}
use Rattle.session.specs.Focus.{focus_events}
use Rattle.session.specs.Answers.{Outcome, refused, answered, outcome_of}
use Rattle.session.specs.Book.{Arrival, Press, Note, Book, empty_book, press_kind, release_kind, character_kind, dead_character_kind, closes_window, note_in, note_all, note_unless, info_of, press_of, book_open, book_character, book_dead_character, book_focus, book_message, unless_quit, makes_held, more_to_come, finish_press, finish_release, finish_character, book_finish, book_step}
use Rattle.session.specs.Run.{Call, State, start, joined, next, run}
use Rattle.session.specs.Demand3.{Rising}
use Rattle.session.specs.declared.ElementState.TheVariants.{Pressed, Released}
use Rattle.session.proofs.Lists.{pick-ok}

abbrev Ordered : Book → Type 0
Ordered b = Rising 0 b.noted

weaker : (lo hi : ℕ) (l : List Note) → lo ≤ hi → Rising hi l → Rising lo l
weaker lo hi [] e r = tt
weaker lo hi (x ∷ l) e r = (omega (arith, r.0), r.1)

note_rises : (lo n : ℕ) (e : Event) (l : List Note) → lo ≤ n → Rising lo l → Rising lo (note_in n e l)
unfolding note_in
note_rises lo n e [] h r = (h, tt)
note_rises lo n e (x ∷ l) h r = go (leb x.number n) refl (λ k. note_rises x.number n e l k r.1)
  where
    go : (b : Bool) → leb x.number n ≡ b → (x.number ≤ n → Rising x.number (note_in n e l)) → Rising lo (pick b (x ∷ note_in n e l) (record { number = n; event = e } ∷ x ∷ l))
    go true q f = (r.0, f (leb-true x.number n q))
    go false q f = let k = leb-false x.number n q in (h, (omega (arith, k), r.1))

all_rise : (n : ℕ) (es : List Event) (l : List Note) → Rising 0 l → Rising 0 (note_all n es l)
unfolding note_all
all_rise n [] l r = r
all_rise n (e ∷ es) l r = all_rise n es (note_in n e l) (note_rises 0 n e l (omega arith) r)

unless_rises : (f : Bool) (n : ℕ) (e : Event) (l : List Note) → Rising 0 l → Rising 0 (note_unless f n e l)
unfolding note_unless
unless_rises true n e l r = r
unless_rises false n e l r = note_rises 0 n e l (omega arith) r

char-opened : (b : Book) (i : Inputs) (m : Message) (p : Option Press) → Ordered b → Ordered (book_character b i m p)
unfolding book_character book_open
char-opened b i m None r = r
char-opened b i m (Some h) r = r

dead-noted : (b : Book) (p : Option Press) → Ordered b → Ordered (book_dead_character b p)
unfolding book_dead_character
dead-noted b None r = r
dead-noted b (Some h) r = note_rises 0 b.count _ b.noted (omega arith) r

message-noted : (b : Book) (i : Inputs) (m : Message) → Ordered b → Ordered (book_message b i m)
unfolding book_message book_open book_focus
message-noted b i m r =
    pick-ok Ordered (closes_window m) b _ r
    (pick-ok Ordered (press_kind m.kind || release_kind m.kind) (book_open b i m b.held) _ r
    (pick-ok Ordered (character_kind m.kind) (book_character b i m b.held) _ (char-opened b i m b.held r)
    (pick-ok Ordered (dead_character_kind m.kind) (book_dead_character b b.held) _ (dead-noted b b.held r)
    (pick-ok Ordered (eqb m.kind 0x7) (book_focus b (focus_events (keyboard_of i) Pressed)) _ (all_rise b.count (focus_events (keyboard_of i) Pressed) b.noted r)
    (pick-ok Ordered (eqb m.kind 0x8) (book_focus b (focus_events (keyboard_of i) Released)) b (all_rise b.count (focus_events (keyboard_of i) Released) b.noted r) r)))))

char-finished : (x : Bool) (p : Option Press) (b : Book) (os : List Arrival) (n : ℕ) (i : Inputs) → Ordered b → Ordered (finish_character x p b os n i)
unfolding finish_character
char-finished true p b os n i r = r
char-finished false None b os n i r = r
char-finished false (Some h) b os n i r = note_rises 0 _ _ b.noted zero-le r

finish-noted : (b : Book) (i : Inputs) (p : Option Message) (l : List Arrival) → Ordered b → Ordered (book_finish b i p l)
unfolding book_finish finish_press finish_release
finish-noted b i p [] r = r
finish-noted b i p (a ∷ os) r =
    pick-ok Ordered (press_kind a.message.kind) (finish_press b os a i p) _
    (pick-ok Ordered (makes_held p) _ _ r (unless_rises (fake (keyboard_of i) (info_of i a.message) p) a.number (press_event (press_of i a.message)) b.noted r))
    (pick-ok Ordered (release_kind a.message.kind) (finish_release b os a i p) _
    (unless_rises (fake (keyboard_of i) (info_of a.inputs a.message) p) a.number (release_event (info_of a.inputs a.message)) b.noted r)
    (char-finished (more_to_come p) b.held b os a.number i r))

step_noted : (x : Bool) (b : Book) (g : Given) → Ordered b → Ordered (book_step x b g)
unfolding book_step
step_noted true b g r = r
step_noted false b (brought i m) r = message-noted b i m r
step_noted false b (finished i t p) r = finish-noted b i (unless_quit p) b.opened r

join_noted : (st : State) (g : Given) (o : Outcome) → Ordered st.book → Ordered (joined st g o).book
unfolding joined
join_noted st g (refused n) r = step_noted true st.book g r
join_noted st g (answered t x y) r = step_noted false st.book g r

pub run-noted : (cs : List Call) (st : State) → Rising 0 st.book.noted → Rising 0 (run st cs).book.noted
unfolding run next
run-noted [] st r = r
run-noted (c ∷ cs) st r = run-noted cs (next st c) (join_noted st c.given (outcome_of st.area c.answers c.given) r)

pub start-noted : Rising 0 start.book.noted
unfolding start empty_book
start-noted = tt
