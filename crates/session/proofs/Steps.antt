-- One answered call, kind by kind: the session, the tokens, the book and what is handed out stay those of one stack.
-- Assumes nothing.
use Rattle.std.specs.Prelude.{Option, Some, None}
use mathlib.Core.Path.{◌≡◌, refl, ap, sym, ◌∙◌, subst}
use mathlib.Core.Bool.{Bool, true, false}
use mathlib.Core.List.{List, [], ◌∷◌, ◌++◌, append_assoc, append-nil, map, map-append}
use Prim.Native.Nat.{ℕ, suc, ◌+◌, ◌<◌}
use native.Mathlib.Omega.{arith}
use lib.ListN.{length}
use borrow.Author.Tests.{eqb-true}
use Rattle.area.specs.Pick.{pick}
use Rattle.text.specs.Message.{char_units}
use Rattle.lookup.specs.LParam.{key_lparam, virtual_key}
use Rattle.session.specs.Given.{Inputs, Given, brought, finished}
use Rattle.session.specs.declared.Message.{Message}
use Rattle.session.specs.Event.{Event, Info, Held}
use Rattle.session.specs.Builder.{Keyboard, keyboard_of, break_table_of, held_of, with_units, press_event, dead_char_event, release_event, fake}
use Rattle.session.specs.Focus.{focus_events}
use Rattle.session.specs.Session.{Wait, press, release, character, Entry, waiting, Session, token_of}
use Rattle.session.specs.Calls.{Sort, key_down, key_up, char, dead_char, ignored, focus, sort_of, Effect, opening, behind, char_opened, dead_char_answered, message_effect, more_coming, seen, finish_event, finish_held, drain, resolved, finish_effect, effect_of}
use Rattle.session.specs.Questions.{is_token, last_token, question10, first_no, message_questions, finish_questions, session_questions}
use Rattle.session.specs.Book.{Arrival, Press, Note, Book, press_kind, release_kind, info_of, press_of, held_press, held_in, note_all, note_unless, makes_held, more_to_come, book_open, book_character, book_dead_character, book_focus, finish_press, finish_release, finish_character, book_finish, book_step}
use Rattle.session.specs.Run.{pushed, retoken}
use Rattle.session.proofs.Lists.{All, all_map}
use Rattle.session.proofs.Queue.{Done, Stack, base, push, wait_of, entry_of, note_of, event_of, flat, dones, bottom, opened_of, tokens_of, handed_of, app, Wf, dones_below, flat_below, find_at, resolve_at, not_first, is-first, behind_at, last-at, drain-entries, note-all, tagged, entries_tagged, events_tagged, kept, entries_kept, note_opt, note_kept, finish_wf, open_wf, behind_wf}
use Rattle.session.proofs.Sorts.{book_by, Called, book_sorted, called, quit_alike, held_alike, more_alike}

-- ---- a state of a run on paper, with the session itself in place of its area

pub record Paper : Type 0 where
  pub session : Session
  pub tokens : List ℕ
  pub book : Book
  pub out : List Event

-- what an answered call makes of it
unfoldable pub done : Paper → Given → Effect → Paper
done st g e =
    record { session = e.after; tokens = retoken g e.token st.tokens; book = book_step false st.book g; out = st.out ++ e.events }

-- the state, computed from the stack, the tokens handed out, the arrivals and the held press
abbrev pub view : Stack → ℕ → ℕ → Option Press → Paper
view S h c p =
    record {
      session = record { handed = handed_of S h; entries = flat S; held = held_in p };
      tokens = tokens_of S;
      book = record { opened = opened_of S; held = p; count = c; noted = map note_of (dones S) };
      out = map event_of (bottom S);
    }

pub record Good (st : Paper) : Type 0 where
  pub stack : Stack
  pub h : ℕ
  pub c : ℕ
  pub p : Option Press
  pub wf : Wf c h stack
  pub same : st ≡ view stack h c p

good : (S : Stack) (h c : ℕ) (p : Option Press) (st : Paper) → Wf c h S → st ≡ view S h c p → Good st
good S h c p st w e = record { stack = S; h = h; c = c; p = p; wf = w; same = e }

-- ---- a message that opens

-- the book opens a message, the session an entry that holds what the finish will need
open_good :
    (S : Stack) (h c : ℕ) (p p' : Option Press) (i : Inputs) (m : Message) (w : Wait) →
    Wf c h S → w ≡ wait_of (record { number = c; inputs = i; message = m }) → Good (record {
      session = record { handed = suc (handed_of S h); entries = flat S ++ (waiting (handed_of S h) w ∷ []); held = held_in p' };
      tokens = handed_of S h ∷ tokens_of S;
      book = record { opened = record { number = c; inputs = i; message = m } ∷ opened_of S; held = p'; count = suc c; noted = map note_of (dones S) };
      out = map event_of (bottom S) ++ [];
    })
open_good S h c p p' i m w wf e =
    good (push S (handed_of S h) (record { number = c; inputs = i; message = m }) []) (suc (handed_of S h)) (suc c) p' _ (open_wf S h c i m wf) (rw e (simp append-nil))

-- ---- events that go behind everything, under the next number: with nothing open they are handed out, else they wait

behind_good :
    (S : Stack) (h c : ℕ) (p p' : Option Press) (es : List Event) → Wf c h S →
    let a : Effect = behind (record { handed = handed_of S h; entries = flat S; held = held_in p }) es (held_in p') (flat S) in
    Good (record {
      session = a.after;
      tokens = pushed a.token (tokens_of S);
      book = record { opened = opened_of S; held = p'; count = suc c; noted = note_all c es (map note_of (dones S)) };
      out = map event_of (bottom S) ++ a.events;
    })
unfolding behind
behind_good (base D) h c p p' es w =
    good (base (D ++ tagged 0 c es)) h (suc c) p' _ (behind_wf (base D) h c es w)
    (simp (note-all es D 0 c (all_map (λ d x. omega arith) D w), map-append, events_tagged))
behind_good (push S t a D) h c p p' es w =
    good (push S t a (D ++ tagged h c es)) (h + length es) (suc c) p' _ (behind_wf (push S t a D) h c es w)
    (rw (note-all es (dones S ++ D) h c (all_map (λ d x. omega arith) (dones S ++ D) (dones_below (push S t a D) c h w)))
    (simp (behind_at, append-nil, map-append, entries_tagged, append_assoc)))

-- ---- a finish

-- the press that the book holds after it
unfoldable pub held_next : Option Press → Arrival → Inputs → Option Message → Option Press
held_next p a i pk =
    pick (press_kind a.message.kind) (pick (makes_held pk) (Some (record { inputs = i; message = a.message; units = [] })) None)
    (pick (release_kind a.message.kind) p (pick (more_to_come pk) p None))

-- a press: it is held, or its event is noted under its own number
held_or_noted :
    (x f : Bool) (os : List Arrival) (q : Option Press) (c n : ℕ) (e : Event) (l : List Note) → ◌≡◌ {A = Book}
    (pick x (record { opened = os; held = q; count = c; noted = l }) (record { opened = os; held = None; count = c; noted = note_unless f n e l }))
    (record { opened = os; held = pick x q None; count = c; noted = note_opt n (pick x None (pick f None (Some e))) l })
unfolding note_opt note_unless
held_or_noted true f os q c n e l = refl
held_or_noted false true os q c n e l = refl
held_or_noted false false os q c n e l = refl

press-noted :
    (b : Book) (os : List Arrival) (a : Arrival) (i : Inputs) (pk : Option Message) →
    finish_press b os a i pk ≡ record { opened = os; held = pick (makes_held pk) (Some (record { inputs = i; message = a.message; units = [] })) None; count = b.count; noted = note_opt a.number (finish_event (keyboard_of i) (break_table_of i) (held_in b.held) (press (virtual_key a.message.wparam) (key_lparam a.message.lparam)) pk) b.noted }
unfolding finish_press finish_event
press-noted b os a i pk =
    rw (held_alike pk)
    (held_or_noted (makes_held pk) (fake (keyboard_of i) (info_of i a.message) pk) os (Some (record { inputs = i; message = a.message; units = [] })) b.count a.number (press_event (press_of i a.message)) b.noted)

unless_noted : (f : Bool) (n : ℕ) (e : Event) (l : List Note) → note_unless f n e l ≡ note_opt n (pick f None (Some e)) l
unfolding note_opt note_unless
unless_noted true n e l = refl
unless_noted false n e l = refl

-- a release: the event that its entry completes, under its own number; whether it is fake, the finish's block says
release-noted :
    (b : Book) (os : List Arrival) (a : Arrival) (i : Inputs) (pk : Option Message) →
    finish_release b os a i pk ≡ record { opened = os; held = b.held; count = b.count; noted = note_opt a.number (finish_event (keyboard_of i) (break_table_of i) (held_in b.held) (release (info_of a.inputs a.message)) pk) b.noted }
unfolding finish_release finish_event
release-noted b os a i pk =
    let n : Info = info_of a.inputs a.message in
    ap (λ (l : List Note). record { opened = os; held = b.held; count = b.count; noted = l }) (unless_noted (fake (keyboard_of i) n pk) a.number (release_event n) b.noted)

-- a character: the held press's event, under the character's own number
char-noted :
    (x : Bool) (p : Option Press) (b : Book) (os : List Arrival) (n : ℕ) (i : Inputs) (pk : Option Message) → more_coming pk ≡ x →
    finish_character x p b os n i ≡ record { opened = os; held = pick x p None; count = b.count; noted = note_opt n (finish_event (keyboard_of i) (break_table_of i) (held_in p) character pk) b.noted }
unfolding note_opt finish_character finish_event
char-noted true None b os n i pk e = refl
char-noted true (Some h) b os n i pk e = rw e refl
char-noted false None b os n i pk e = refl
char-noted false (Some h) b os n i pk e = rw e refl

-- what the book notes at a finish is the event that the entry completes
book-finish :
    (b : Book) (os : List Arrival) (a : Arrival) (i : Inputs) (pk : Option Message) →
    book_finish b i pk (a ∷ os) ≡ record { opened = os; held = held_next b.held a i pk; count = b.count; noted = note_opt a.number (finish_event (keyboard_of i) (break_table_of i) (held_in b.held) (wait_of a) pk) b.noted }
unfolding book_finish held_next wait_of
book-finish b os a i pk = go (press_kind a.message.kind) (release_kind a.message.kind) refl refl
  where
    go : (x y : Bool) → press_kind a.message.kind ≡ x → release_kind a.message.kind ≡ y →
        book_finish b i pk (a ∷ os) ≡ record { opened = os; held = held_next b.held a i pk; count = b.count; noted = note_opt a.number (finish_event (keyboard_of i) (break_table_of i) (held_in b.held) (wait_of a) pk) b.noted }
    go true y e f = rw e (press-noted b os a i pk)
    go false true e f = rw (e, f) (release-noted b os a i pk)
    go false false e f = rw (e, f) (char-noted (more_to_come pk) b.held b os a.number i pk (more_alike pk))

held_made : (i : Inputs) (m : Message) → held_press (record { inputs = i; message = m; units = [] }) ≡ press_of i m
unfolding held_press with_units held_of
held_made i m = refl

char-held : (x : Bool) (p : Option Press) (i : Inputs) (pk : Option Message) → more_coming pk ≡ x → held_in (pick x p None) ≡ finish_held (keyboard_of i) (held_in p) character pk
unfolding finish_held
char-held true None i pk e = refl
char-held true (Some h) i pk e = rw e refl
char-held false None i pk e = refl
char-held false (Some h) i pk e = rw e refl

press-held :
    (a : Arrival) (p : Option Held) (i : Inputs) (pk : Option Message) →
    held_in (pick (makes_held pk) (Some (record { inputs = i; message = a.message; units = [] })) None) ≡ finish_held (keyboard_of i) p (press (virtual_key a.message.wparam) (key_lparam a.message.lparam)) pk
unfolding finish_held
press-held a p i pk = rw (held_alike pk) (put (makes_held pk))
  where
    put : (x : Bool) → held_in (pick x (Some (record { inputs = i; message = a.message; units = [] })) None) ≡ pick x (Some (press_of i a.message)) None
    put true = ap (λ (h : Held). Some h) (held_made i a.message)
    put false = refl

release-held : (p : Option Held) (b : Keyboard) (n : Info) (pk : Option Message) → p ≡ finish_held b p (release n) pk
unfolding finish_held
release-held p b n pk = refl

-- the session holds after it what the book holds
held_next_lem : (p : Option Press) (a : Arrival) (i : Inputs) (pk : Option Message) → held_in (held_next p a i pk) ≡ finish_held (keyboard_of i) (held_in p) (wait_of a) pk
unfolding held_next wait_of
held_next_lem p a i pk = go (press_kind a.message.kind) (release_kind a.message.kind) refl refl
  where
    go : (x y : Bool) → press_kind a.message.kind ≡ x → release_kind a.message.kind ≡ y → held_in (held_next p a i pk) ≡ finish_held (keyboard_of i) (held_in p) (wait_of a) pk
    go true y e f = rw e (press-held a (held_in p) i pk)
    go false true e f = rw (e, f) (release-held (held_in p) (keyboard_of i) (info_of a.inputs a.message) pk)
    go false false e f = rw (e, f) (char-held (more_to_come pk) p i pk (more_alike pk))

-- what the finish of the latest message does to the session: the first entry's hands out its event and then all that waited behind it, and
-- leaves an empty queue; any other's event takes the entry's place, and nothing is handed out

abbrev hands_out : List Event → Option Held → Effect
hands_out es h = record { token = None; events = es; after = record { handed = 0; entries = []; held = h } }

abbrev waits : ℕ → List Entry → Option Held → Effect
waits handed l h = record { token = None; events = []; after = record { handed = handed; entries = l; held = h } }

abbrev queued : ℕ → List Entry → Option Held → Session
queued handed l h = record { handed = handed; entries = l; held = h }

first-resolved :
    (D : List Done) (t n h : ℕ) (w : Wait) (p q : Option Held) (o : Option Event) →
    resolved true (queued h (waiting t w ∷ map entry_of D) p) t o q ≡ hands_out (map event_of (kept t n o D)) q
unfolding resolved
first-resolved D t n h w p q o =
    ap (λ (es : List Event). hands_out es q)
    (ap drain (resolve_at [] (map entry_of D) t w o tt ∙ entries_kept t n o D) ∙ drain-entries (kept t n o D))

later-resolved :
    (A : List Entry) (D : List Done) (t n h : ℕ) (w : Wait) (p q : Option Held) (o : Option Event) → All (λ x. token_of x < t) A →
    resolved false (queued h (A ++ (waiting t w ∷ map entry_of D)) p) t o q ≡ waits h (A ++ map entry_of (kept t n o D)) q
unfolding resolved
later-resolved A D t n h w p q o k =
    ap (λ (l : List Entry). waits h l q)
    (resolve_at A (map entry_of D) t w o k ∙ ap (λ (r : List Entry). A ++ r) (entries_kept t n o D))

finish-first :
    (D : List Done) (t n h : ℕ) (w : Wait) (p : Option Held) (i : Inputs) (pk : Option Message) →
    effect_of (queued h (waiting t w ∷ map entry_of D) p) (finished i t pk) ≡ hands_out (map event_of (kept t n (finish_event (keyboard_of i) (break_table_of i) p w (seen pk)) D)) (finish_held (keyboard_of i) p w (seen pk))
unfolding effect_of finish_effect
finish-first D t n h w p i pk =
    let s : Session = queued h (waiting t w ∷ map entry_of D) p in
    let o : Option Event = finish_event (keyboard_of i) (break_table_of i) p w (seen pk) in
    let q : Option Held = finish_held (keyboard_of i) p w (seen pk) in
    ap (finish_effect s (keyboard_of i) (break_table_of i) t (seen pk)) (find_at [] (map entry_of D) t w tt)
    ∙ ap (λ (b : Bool). resolved b s t o q) (is-first t w (map entry_of D))
    ∙ first-resolved D t n h w p q o

finish-later :
    (A B : List Entry) (x : Entry) (D : List Done) (t n h : ℕ) (w : Wait) (p : Option Held) (i : Inputs) (pk : Option Message) → All (λ x. token_of x < t) (A ++ (x ∷ B)) →
    effect_of (queued h ((A ++ (x ∷ B)) ++ (waiting t w ∷ map entry_of D)) p) (finished i t pk) ≡ waits h ((A ++ (x ∷ B)) ++ map entry_of (kept t n (finish_event (keyboard_of i) (break_table_of i) p w (seen pk)) D)) (finish_held (keyboard_of i) p w (seen pk))
unfolding effect_of finish_effect
finish-later A B x D t n h w p i pk k =
    let s : Session = queued h ((A ++ (x ∷ B)) ++ (waiting t w ∷ map entry_of D)) p in
    let o : Option Event = finish_event (keyboard_of i) (break_table_of i) p w (seen pk) in
    let q : Option Held = finish_held (keyboard_of i) p w (seen pk) in
    ap (finish_effect s (keyboard_of i) (break_table_of i) t (seen pk)) (find_at (A ++ (x ∷ B)) (map entry_of D) t w k)
    ∙ ap (λ (b : Bool). resolved b s t o q) (not_first A B (waiting t w ∷ map entry_of D) x t k)
    ∙ later-resolved (A ++ (x ∷ B)) D t n h w p q o k

pub finish_good :
    (S : Stack) (t h c : ℕ) (a : Arrival) (D : List Done) (p : Option Press) (i : Inputs) (pk : Option Message) → Wf c h (push S t a D) →
    let v : Paper = view (push S t a D) h c p in
    done v (finished i t pk) (effect_of v.session (finished i t pk))
    ≡ view (app S (kept t a.number (finish_event (keyboard_of i) (break_table_of i) (held_in p) (wait_of a) (seen pk)) D)) h c (held_next p a i (seen pk))
unfolding done retoken book_step
finish_good (base D₀) t h c a D p i pk w =
    rw (finish-first D t a.number h (wait_of a) (held_in p) i pk)
    (rw (sym (quit_alike pk), book-finish, note_kept D₀ D t a.number (finish_event (keyboard_of i) (break_table_of i) (held_in p) (wait_of a) (seen pk)) (all_map (λ d x. omega arith) D₀ w.0) (all_map (λ d x. x.0) D w.4), held_next_lem p a i (seen pk))
    (simp map-append))
finish_good (push S t' a' D') t h c a D p i pk w =
    rw (finish-later (flat S) (map entry_of D') (waiting t' (wait_of a')) D t a.number h (wait_of a) (held_in p) i pk (flat_below (push S t' a' D') a.number t w.0))
    (rw (sym (quit_alike pk), book-finish, note_kept (dones S ++ D') D t a.number (finish_event (keyboard_of i) (break_table_of i) (held_in p) (wait_of a) (seen pk)) (all_map (λ d x. omega arith) (dones S ++ D') (dones_below (push S t' a' D') a.number t w.0)) (all_map (λ d x. x.0) D w.4), held_next_lem p a i (seen pk))
    (simp (append-nil, map-append, append_assoc)))

-- ---- any call

-- an entry holds what the book's kind of the message says
press_waits :
    (c : ℕ) (i : Inputs) (m : Message) → press_kind m.kind ≡ true →
    press (virtual_key m.wparam) (key_lparam m.lparam) ≡ wait_of (record { number = c; inputs = i; message = m })
unfolding wait_of
press_waits c i m e = rw e

release_waits :
    (c : ℕ) (i : Inputs) (m : Message) → press_kind m.kind ≡ false → release_kind m.kind ≡ true →
    release (info_of i m) ≡ wait_of (record { number = c; inputs = i; message = m })
unfolding wait_of
release_waits c i m e f = rw (e, f)

char_waits :
    (c : ℕ) (i : Inputs) (m : Message) → press_kind m.kind ≡ false → release_kind m.kind ≡ false →
    character ≡ wait_of (record { number = c; inputs = i; message = m })
unfolding wait_of
char_waits c i m e f = rw (e, f)

-- units are added to the session's held press as to the book's
units_added :
    (q : Press) (us : List ℕ) → with_units (held_press q) us ≡ held_press (record { inputs = q.inputs; message = q.message; units = q.units ++ us })
unfolding held_press with_units held_of
units_added q us = refl

message_good :
    (k : Sort) (S : Stack) (h c : ℕ) (p : Option Press) (i : Inputs) (m : Message) → Wf c h S → Called k m.kind →
    let v : Paper = view S h c p in
    let e : Effect = message_effect v.session (keyboard_of i) m k in
    Good (record { session = e.after; tokens = pushed e.token v.tokens; book = book_by k v.book i m; out = v.out ++ e.events })
unfolding message_effect book_by Called opening book_open char_opened book_character dead_char_answered book_dead_character book_focus note_all
message_good key_down S h c p i m w q = open_good S h c p p i m _ w (press_waits c i m q)
message_good key_up S h c p i m w q = open_good S h c p p i m _ w (release_waits c i m q.0 q.1)
message_good char S h c None i m w q = good S h c None _ w (simp append-nil)
message_good char S h c (Some u) i m w q =
    rw (units_added u (char_units m.wparam))
    (open_good S h c (Some u) (Some (record { inputs = u.inputs; message = u.message; units = u.units ++ char_units m.wparam })) i m _ w (char_waits c i m q.0 q.1))
message_good dead_char S h c None i m w q = good S h c None _ w (simp append-nil)
message_good dead_char S h c (Some u) i m w q = behind_good S h c (Some u) None (dead_char_event (held_press u) ∷ []) w
message_good (focus st) S h c p i m w q = behind_good S h c p p (focus_events (keyboard_of i) st) w
message_good ignored S h c p i m w q = good S h c p _ w (simp append-nil)

brought_good :
    (S : Stack) (h c : ℕ) (p : Option Press) (i : Inputs) (m : Message) → Wf c h S →
    let v : Paper = view S h c p in
    Good (done v (brought i m) (effect_of v.session (brought i m)))
unfolding done retoken effect_of book_step
brought_good S h c p i m w =
    let b : Book = record { opened = opened_of S; held = p; count = c; noted = map note_of (dones S) } in
    rw (book_sorted b i m) (message_good (sort_of m) S h c p i m w (called b i m))

-- the latest open message's token is the only one that question 10 lets through
latest_token : (t : ℕ) (o : Option ℕ) (u : ℕ) → o ≡ Some u → is_token t o ≡ true → t ≡ u
latest_token t o u e q = eqb-true t u (rw e at q)

finish-at :
    (S : Stack) (h c : ℕ) (p : Option Press) (i : Inputs) (t : ℕ) (pk : Option Message) → Wf c h S →
    let v : Paper = view S h c p in
    question10 v.session t ≡ true → Good (done v (finished i t pk) (effect_of v.session (finished i t pk)))
unfolding question10 last_token
finish-at (base D) h c p i t pk w e = absurd (let z : ◌≡◌ {A = ℕ} 0 1 = cc in omega arith)
finish-at (push S u a D) h c p i t pk w e =
    let same : u ≡ t = sym (latest_token t (last_token (flat S ++ (waiting u (wait_of a) ∷ map entry_of D))) u (last-at (flat S) D u (wait_of a)) e) in
    subst (λ x. Good (done (view (push S u a D) h c p) (finished i x pk) (effect_of (view (push S u a D) h c p).session (finished i x pk)))) same
    (good (app S (kept u a.number (finish_event (keyboard_of i) (break_table_of i) (held_in p) (wait_of a) (seen pk)) D)) h c (held_next p a i (seen pk)) _
    (finish_wf S u h c a D (finish_event (keyboard_of i) (break_table_of i) (held_in p) (wait_of a) (seen pk)) w)
    (finish_good S u h c a D p i pk w))

-- the questions of a call that brings a message do not matter here, those of a finish make its token the latest
passed_10 : (b : Bool) → first_no ((10, b) ∷ []) ≡ None → b ≡ true
unfolding first_no
passed_10 true e = refl
passed_10 false e = cc

pub call_good :
    (S : Stack) (h c : ℕ) (p : Option Press) (g : Given) → Wf c h S →
    let v : Paper = view S h c p in
    first_no (session_questions v.session g) ≡ None → Good (done v g (effect_of v.session g))
unfolding session_questions message_questions finish_questions
call_good S h c p (brought i m) w e = brought_good S h c p i m w
call_good S h c p (finished i t pk) w e = finish-at S h c p i t pk w (passed_10 (question10 (view S h c p).session t) e)
