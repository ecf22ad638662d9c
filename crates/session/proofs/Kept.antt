-- What an answered call leaves keeps the limits, and each value that it stores or hands out is of its type's range.
-- Assumes nothing.
use Rattle.std.specs.Prelude.{Option, Some, None}
use mathlib.Core.Path.{◌≡◌, refl, ap, sym, ◌∙◌}
use mathlib.Core.Bool.{Bool, true, false}
use mathlib.Core.List.{List, [], ◌∷◌, ◌++◌}
use Prim.Native.Nat.{ℕ, suc, ◌+◌, ◌≤◌, ◌<◌}
use native.Mathlib.Omega.{arith}
use lib.Dec.{ltb, eqb}
use lib.ListN.{length, length-append}
use borrow.Author.Tests.{ltb-true, leb-true, lt-ltb}
use Rattle.text.specs.Message.{char_units}
use Rattle.lookup.specs.LParam.{key_lparam, virtual_key}
use Rattle.lookup.specs.declared.keyboard.KeyLParam.{KeyLParam}
use Rattle.lookup.proofs.keyboard_layout.Ranges.{vkey_small, scan_small}
use Rattle.session.specs.Limits.{OPEN_MOST, ENTRIES_MOST, TOKENS_MOST, WORD}
use Rattle.session.specs.Given.{Given, brought, finished, inputs_of}
use Rattle.session.specs.declared.Message.{Message}
use Rattle.session.specs.Event.{Event, Held}
use Rattle.segmentation.specs.Table.{Table}
use Rattle.session.specs.Builder.{Keyboard, keyboard_of, break_table_of, from_message, held_of, with_units, press_event, dead_char_event, char_event, release_event, fake}
use Rattle.session.specs.Focus.{focus_events}
use Rattle.session.specs.Session.{Wait, press, release, character, Entry, waiting, complete, Session, token_of, open_count, units_within, event_fits, all_fit, held_fits, wait_fits, entry_fits, entries_fit}
use Rattle.session.specs.Calls.{Sort, key_down, key_up, char, dead_char, ignored, focus, sort_of, Effect, nothing_done, opening, numbered, behind, char_opened, dead_char_answered, message_effect, seen, holds, more_coming, finish_event, finish_held, wait_in, find_wait, in_place, resolve, is_first, drain, resolved, finish_effect, effect_of}
use Rattle.session.specs.Questions.{opens, behind_some, new_entries, units_after, question5, question6, question7, question8, question9, first_no, message_questions, finish_questions, session_questions}
use Rattle.session.proofs.Lists.{and_true, both, pick-ok}
use Rattle.session.proofs.Fits.{KeyboardOk, info-fits, held_fits_lem, units-fit, press_fits, dead_fits, char_fits, release_fits, focus_fits, focus_most}

-- ---- what a session keeps, and what a call may hand out

pub record Keeps (s : Session) : Type 0 where
  pub few : open_count s.entries ≤ OPEN_MOST
  pub fit : length s.entries ≤ ENTRIES_MOST
  pub tokens : s.handed ≤ TOKENS_MOST
  pub short : units_within s.held ≡ true
  pub stored : entries_fit s.entries ≡ true
  pub press_in : held_fits s.held ≡ true

pub record Leaves (e : Effect) : Type 0 where
  pub after : Keeps e.after
  pub most : length e.events ≤ ENTRIES_MOST
  pub fits : all_fit e.events ≡ true

-- ---- lists of entries

pub count-append : (A B : List Entry) → open_count (A ++ B) ≡ open_count A + open_count B
unfolding open_count
count-append [] B = omega arith
count-append (waiting t w ∷ A) B = omega (arith, count-append A B)
count-append (complete t e ∷ A) B = count-append A B

count-numbered : (t : ℕ) (es : List Event) → open_count (numbered t es) ≡ 0
unfolding numbered open_count
count-numbered t [] = refl
count-numbered t (e ∷ es) = count-numbered (suc t) es

pub length-numbered : (t : ℕ) (es : List Event) → length (numbered t es) ≡ length es
unfolding numbered
length-numbered t [] = refl
length-numbered t (e ∷ es) = ap suc (length-numbered (suc t) es)

pub fit_append : (A B : List Entry) → entries_fit A ≡ true → entries_fit B ≡ true → entries_fit (A ++ B) ≡ true
unfolding entries_fit
fit_append [] B a b = b
fit_append (x ∷ A) B a b =
    let u = and_true (entry_fits x) (entries_fit A) a in both (entry_fits x) (entries_fit (A ++ B)) u.0 (fit_append A B u.1 b)

fit_numbered : (t : ℕ) (es : List Event) → all_fit es ≡ true → entries_fit (numbered t es) ≡ true
unfolding numbered entries_fit entry_fits all_fit
fit_numbered t [] a = refl
fit_numbered t (e ∷ es) a =
    let u = and_true (event_fits e) (all_fit es) a in both (event_fits e) (entries_fit (numbered (suc t) es)) u.0 (fit_numbered (suc t) es u.1)

-- an event or none
abbrev pub OptFits : Option Event → Type 0
OptFits None = Unit {0}
OptFits (Some e) = event_fits e ≡ true

record Resolved (l r : List Entry) : Type 0 where
  few : open_count r ≤ open_count l
  fit : length r ≤ length l
  stored : entries_fit r ≡ true

placed : (t : ℕ) (o : Option Event) (x : Entry) (r : List Entry) → OptFits o → entries_fit r ≡ true → Resolved (x ∷ r) (in_place t o r)
unfolding in_place open_count entries_fit entry_fits
placed t None (waiting u w) r f k = record { few = omega arith; fit = omega arith; stored = k }
placed t None (complete u d) r f k = record { few = omega arith; fit = omega arith; stored = k }
placed t (Some e) (waiting u w) r f k = record { few = omega arith; fit = omega arith; stored = both (event_fits e) (entries_fit r) f k }
placed t (Some e) (complete u d) r f k = record { few = omega arith; fit = omega arith; stored = both (event_fits e) (entries_fit r) f k }

passed_by : (x : Entry) (l r : List Entry) → entry_fits x ≡ true → Resolved l r → Resolved (x ∷ l) (x ∷ r)
unfolding open_count entries_fit
passed_by (waiting u w) l r f k = record { few = omega (arith, k.few); fit = omega (arith, k.fit); stored = both (entry_fits (waiting u w)) (entries_fit r) f k.stored }
passed_by (complete u d) l r f k = record { few = omega (arith, k.few); fit = omega (arith, k.fit); stored = both (entry_fits (complete u d)) (entries_fit r) f k.stored }

resolve_keeps : (t : ℕ) (o : Option Event) (l : List Entry) → OptFits o → entries_fit l ≡ true → Resolved l (resolve t o l)
unfolding resolve open_count entries_fit
resolve_keeps t o [] f k = record { few = omega arith; fit = omega arith; stored = refl }
resolve_keeps t o (x ∷ l) f k =
    let u = and_true (entry_fits x) (entries_fit l) k in
    pick-ok (Resolved (x ∷ l)) (eqb t (token_of x)) (in_place t o l) (x ∷ resolve t o l) (placed t o x l f u.1) (passed_by x l (resolve t o l) u.0 (resolve_keeps t o l f u.1))

drain_keeps : (l : List Entry) → entries_fit l ≡ true → (length (drain l) ≤ length l) × (all_fit (drain l) ≡ true)
unfolding drain entries_fit entry_fits all_fit
drain_keeps [] k = (omega arith, refl)
drain_keeps (waiting t w ∷ l) k = let u = and_true (wait_fits w) (entries_fit l) k in let r = drain_keeps l u.1 in (omega (arith, r.0), r.1)
drain_keeps (complete t e ∷ l) k =
    let u = and_true (event_fits e) (entries_fit l) k in
    let r = drain_keeps l u.1 in (omega (arith, r.0), both (event_fits e) (all_fit (drain l)) u.0 r.1)

abbrev pub WaitIn : Option Wait → Type 0
WaitIn None = Unit {0}
WaitIn (Some w) = wait_fits w ≡ true

wait-fits : (x : Entry) → entry_fits x ≡ true → WaitIn (wait_in x)
unfolding entry_fits
wait-fits (waiting t w) k = k
wait-fits (complete t e) k = tt

pub find_fits : (t : ℕ) (l : List Entry) → entries_fit l ≡ true → WaitIn (find_wait t l)
unfolding find_wait entries_fit
find_fits t [] k = tt
find_fits t (x ∷ l) k =
    let u = and_true (entry_fits x) (entries_fit l) k in
    pick-ok WaitIn (eqb t (token_of x)) (wait_in x) (find_wait t l) (wait-fits x u.0) (find_fits t l u.1)

-- ---- a call that does nothing, one that opens, one whose events go behind everything

none_fit : entries_fit [] ≡ true
unfolding entries_fit
none_fit = refl

one_fits : (t : ℕ) (w : Wait) → wait_fits w ≡ true → entries_fit (waiting t w ∷ []) ≡ true
unfolding entries_fit entry_fits
one_fits t w f = both (wait_fits w) true f refl

nothing_leaves : (s : Session) → Keeps s → Leaves (nothing_done s)
unfolding all_fit
nothing_leaves s k = record { after = k; most = omega arith; fits = refl }

opening_leaves :
    (s : Session) (w : Wait) (h : Option Held) → Keeps s → open_count s.entries < OPEN_MOST → length s.entries + 1 ≤ ENTRIES_MOST → s.handed + 1 ≤ TOKENS_MOST →
    wait_fits w ≡ true → units_within h ≡ true → held_fits h ≡ true → Leaves (opening s w h)
unfolding opening all_fit open_count
opening_leaves s w h k a b c f u v =
    record {
      after = record {
        few = omega (arith, count-append s.entries (waiting s.handed w ∷ []));
        fit = omega (arith, length-append s.entries (waiting s.handed w ∷ []));
        tokens = omega arith;
        short = u;
        stored = fit_append s.entries (waiting s.handed w ∷ []) k.stored (one_fits s.handed w f);
        press_in = v;
      };
      most = omega arith;
      fits = refl;
    }

behind_leaves :
    (s : Session) (es : List Event) (h : Option Held) (l : List Entry) → s.entries ≡ l → Keeps s → length l + behind_some l (length es) ≤ ENTRIES_MOST → s.handed + behind_some l (length es) ≤ TOKENS_MOST →
    length es ≤ ENTRIES_MOST → all_fit es ≡ true → units_within h ≡ true → held_fits h ≡ true → Leaves (behind s es h l)
unfolding behind all_fit open_count
behind_leaves s es h [] q k a b m f u v =
    record { after = record { few = omega arith; fit = omega arith; tokens = omega (arith, k.tokens); short = u; stored = none_fit; press_in = v }; most = m; fits = f }
behind_leaves s es h (x ∷ r) q k a b m f u v =
    record {
      after = record {
        few = omega (arith, count-append (x ∷ r) (numbered s.handed es), count-numbered s.handed es, ap open_count q, k.few);
        fit = omega (arith, length-append r (numbered s.handed es), length-numbered s.handed es);
        tokens = omega arith;
        short = u;
        stored = fit_append (x ∷ r) (numbered s.handed es) (ap entries_fit (sym q) ∙ k.stored) (fit_numbered s.handed es f);
        press_in = v;
      };
      most = omega arith;
      fits = refl;
    }

-- ---- a message

-- what the questions 5 to 9 come to
record Passes (s : Session) (b : Keyboard) (m : Message) (k : Sort) : Type 0 where
  q6 : question6 s k ≡ true
  q7 : question7 s b k ≡ true
  q8 : question8 s b k ≡ true
  q9 : question9 s m k ≡ true

passes : (a b c d e : Bool) → first_no ((5, a) ∷ (6, b) ∷ (7, c) ∷ (8, d) ∷ (9, e) ∷ []) ≡ None → (b ≡ true) × (c ≡ true) × (d ≡ true) × (e ≡ true)
unfolding first_no
passes true true true true true q = (refl, refl, refl, refl)
passes false b c d e q = (cc, cc, cc, cc)
passes true false c d e q = (cc, cc, cc, cc)
passes true true false d e q = (cc, cc, cc, cc)
passes true true true false e q = (cc, cc, cc, cc)
passes true true true true false q = (cc, cc, cc, cc)

char_leaves :
    (t : ℕ) (l : List Entry) (p : Option Held) (b : Keyboard) (m : Message) →
    let s : Session = record { handed = t; entries = l; held = p } in
    Keeps s → Passes s b m char → Leaves (char_opened s m p)
unfolding char_opened question6 question7 question8 question9 opens new_entries units_after wait_fits units_within
char_leaves t l None b m k q = nothing_leaves _ k
char_leaves t l (Some h) b m k q =
    opening_leaves _ character (Some (with_units h (char_units m.wparam))) k (ltb-true _ _ q.q6) (leb-true _ _ q.q7) (leb-true _ _ q.q8) refl q.q9 (units-fit h m.wparam k.press_in)

behind_room : (l : List Entry) (n most : ℕ) (t : ℕ) → t + n ≤ most → t + behind_some l n ≤ most
behind_room [] n most t e = omega arith
behind_room (x ∷ l) n most t e = e

dead_leaves :
    (t : ℕ) (l : List Entry) (p : Option Held) (b : Keyboard) (m : Message) →
    let s : Session = record { handed = t; entries = l; held = p } in
    Keeps s → Passes s b m dead_char → Leaves (dead_char_answered s p)
unfolding dead_char_answered question7 question8 new_entries units_within held_fits all_fit
dead_leaves t l None b m k q = nothing_leaves _ k
dead_leaves t l (Some h) b m k q =
    behind_leaves _ (dead_char_event h ∷ []) None l refl k (behind_room l 1 ENTRIES_MOST (length l) (leb-true _ _ q.q7)) (behind_room l 1 TOKENS_MOST t (leb-true _ _ q.q8)) (omega arith)
    (both (event_fits (dead_char_event h)) true (dead_fits h k.press_in (leb-true _ _ k.short)) refl) refl refl

message_leaves : (k : Sort) (s : Session) (b : Keyboard) (m : Message) → KeyboardOk b → Keeps s → Passes s b m k → Leaves (message_effect s b m k)
unfolding message_effect question6 question7 question8 opens new_entries wait_fits
message_leaves key_down s b m o k q =
    opening_leaves s (press (virtual_key m.wparam) (key_lparam m.lparam)) s.held k (ltb-true _ _ q.q6) (leb-true _ _ q.q7) (leb-true _ _ q.q8)
    (both (ltb (virtual_key m.wparam) WORD) (ltb (key_lparam m.lparam).scancode 256) (lt-ltb _ _ (vkey_small m.wparam)) (lt-ltb _ _ (scan_small m.lparam))) k.short k.press_in
message_leaves key_up s b m o k q =
    opening_leaves s (release (from_message b (virtual_key m.wparam) (key_lparam m.lparam))) s.held k (ltb-true _ _ q.q6) (leb-true _ _ q.q7) (leb-true _ _ q.q8)
    (info-fits b (virtual_key m.wparam) (key_lparam m.lparam) o (scan_small m.lparam)) k.short k.press_in
message_leaves char s b m o k q = char_leaves s.handed s.entries s.held b m k q
message_leaves dead_char s b m o k q = dead_leaves s.handed s.entries s.held b m k q
message_leaves (focus st) s b m o k q =
    behind_leaves s (focus_events b st) s.held s.entries refl k (leb-true _ _ q.q7) (leb-true _ _ q.q8) (focus_most b st) (focus_fits b st o) k.short k.press_in
message_leaves ignored s b m o k q = nothing_leaves s k

-- ---- a finish

event-fits : (b : Keyboard) (r : Table) (p : Option Held) (w : Wait) (pk : Option Message) → KeyboardOk b → units_within p ≡ true → held_fits p ≡ true → wait_fits w ≡ true → OptFits (finish_event b r p w pk)
unfolding finish_event wait_fits units_within
event-fits b r p (press vkey l) pk o u f g =
    let k = and_true (ltb vkey WORD) (ltb l.scancode 256) g in
    let made = held_fits_lem b vkey l o (ltb-true _ _ k.0) (ltb-true _ _ k.1) in
    pick-ok OptFits (holds pk) None _ tt
    (pick-ok OptFits (fake b (from_message b vkey l) pk) None (Some (press_event (held_of b vkey l))) tt (press_fits (held_of b vkey l) made))
event-fits b r p (release n) pk o u f g = pick-ok OptFits (fake b n pk) None (Some (release_event n)) tt (release_fits n g)
event-fits b r None character pk o u f g = tt
event-fits b r (Some h) character pk o u f g = pick-ok OptFits (more_coming pk) None (Some (char_event b r h)) tt (char_fits b r h o f (leb-true _ _ u))

nothing_held : (units_within None ≡ true) × (held_fits None ≡ true)
unfolding units_within held_fits
nothing_held = (refl, refl)

abbrev HeldKept : Option Held → Type 0
HeldKept p = (units_within p ≡ true) × (held_fits p ≡ true)

new_held : (b : Keyboard) (vkey : ℕ) (l : KeyLParam) → units_within (Some (held_of b vkey l)) ≡ true
unfolding units_within held_of
new_held b vkey l = refl

held_kept : (b : Keyboard) (p : Option Held) (w : Wait) (pk : Option Message) → KeyboardOk b → HeldKept p → wait_fits w ≡ true → HeldKept (finish_held b p w pk)
unfolding finish_held wait_fits
held_kept b p (press vkey l) pk o u g =
    let r = and_true (ltb vkey WORD) (ltb l.scancode 256) g in
    pick-ok HeldKept (holds pk) (Some (held_of b vkey l)) None (new_held b vkey l, held_fits_lem b vkey l o (ltb-true _ _ r.0) (ltb-true _ _ r.1)) nothing_held
held_kept b p (release n) pk o u g = u
held_kept b None character pk o u g = nothing_held
held_kept b (Some h) character pk o u g = pick-ok HeldKept (more_coming pk) (Some h) None u nothing_held

resolved_leaves : (b : Bool) (s : Session) (t : ℕ) (e : Option Event) (h : Option Held) → Keeps s → OptFits e → HeldKept h → Leaves (resolved b s t e h)
unfolding resolved open_count all_fit
resolved_leaves true s t e h k f u =
    let r = resolve_keeps t e s.entries f k.stored in
    let d = drain_keeps (resolve t e s.entries) r.stored in
    record { after = record { few = omega arith; fit = omega arith; tokens = omega arith; short = u.0; stored = none_fit; press_in = u.1 }; most = omega (arith, d.0, r.fit, k.fit); fits = d.1 }
resolved_leaves false s t e h k f u =
    let r = resolve_keeps t e s.entries f k.stored in
    record {
      after = record { few = omega (arith, r.few, k.few); fit = omega (arith, r.fit, k.fit); tokens = k.tokens; short = u.0; stored = r.stored; press_in = u.1 };
      most = omega arith;
      fits = refl;
    }

found_leaves : (s : Session) (b : Keyboard) (r : Table) (t : ℕ) (pk : Option Message) (o : Option Wait) → KeyboardOk b → Keeps s → WaitIn o → Leaves (finish_effect s b r t pk o)
unfolding finish_effect
found_leaves s b r t pk None k q f = nothing_leaves s q
found_leaves s b r t pk (Some w) k q f =
    resolved_leaves (is_first t s.entries) s t (finish_event b r s.held w pk) (finish_held b s.held w pk) q
    (event-fits b r s.held w pk k q.short q.press_in f) (held_kept b s.held w pk k (q.short, q.press_in) f)

-- ---- any call that passed its questions

pub call_leaves : (s : Session) (g : Given) → KeyboardOk (keyboard_of (inputs_of g)) → Keeps s → first_no (session_questions s g) ≡ None → Leaves (effect_of s g)
unfolding effect_of session_questions message_questions finish_questions
call_leaves s (brought i m) o k e =
    let q = passes (question5 s (sort_of m)) (question6 s (sort_of m)) (question7 s (keyboard_of i) (sort_of m)) (question8 s (keyboard_of i) (sort_of m)) (question9 s m (sort_of m)) e in
    message_leaves (sort_of m) s (keyboard_of i) m o k (record { q6 = q.0; q7 = q.1; q8 = q.2; q9 = q.3 })
call_leaves s (finished i t pk) o k e = found_leaves s (keyboard_of i) (break_table_of i) t (seen pk) (find_wait t s.entries) o k (find_fits t s.entries k.stored)
