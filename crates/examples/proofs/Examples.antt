-- The worked examples hold: questions and effects of the definitions give what tao gives, by computing.
-- Assumes nothing.
use Rattle.std.specs.Prelude.{Option}
use mathlib.Core.Path.{◌≡◌, refl, ap, ◌∙◌}
use Prim.Native.Nat.{ℕ, zero, suc}
use native.Mathlib.Omega.{arith}
use mathlib.Core.Bool.{Bool, true, ◌&&◌, and-eq-true_iff}
use mathlib.Core.List.{List, [], ◌∷◌}
use lib.Dec.{eqb, leb}
use lib.ListN.{length, get_or}
use borrow.Author.Tests.{eqb-true, leb-true}
use Rattle.area.specs.Look.{assoc}
use Rattle.text.specs.Unicode.{scalar, encode_with, utf16_of, utf8_of, unit_step, utf16_step, table3_7, lead_in, by_lead, utf8_step, read_from, well_formed, scalars_in, text_of}
use Rattle.text.specs.Message.{char_units}
use Rattle.area.specs.Bytes.{num}
use Rattle.area.specs.Walk.{every}
use Rattle.segmentation.specs.Rules.{pictograph, joiner, indicators, break_at, breaks_after, pieces}
use Rattle.segmentation.specs.Table.{props_in, props_of, pieces_of, several_in}
use Rattle.segmentation.specs.Layout.{first_at, last_at, kind_at, segment, table_of, last_before, after_last, ends_at, known_at, range_ok, ranges_ok, table_ok}
use Rattle.keys.specs.Key.{named_ok, key_number, key_fits, none_held}
use Rattle.keys.specs.Text.{bare_of, text_in, to_text}
use Rattle.keys.specs.Native.{native_kind, native_value, native_fits, native_ok}
use Rattle.keys.specs.Number.{code_number, code_native}
use Rattle.keys.specs.CodeKey.{code_fits, code_key, code_key_ok}
use Rattle.lookup.specs.Codes.{scan_codes, key_code_of}
use Rattle.lookup.specs.LParam.{key_lparam, ex_scancode, ex_scancode_of, virtual_key}
use Rattle.lookup.specs.Modifiers.{down, toggled, any_down, num_lock_on, caps_lock_on, active_modifiers, remove_only_ctrl, bits_of}
use Rattle.lookup.specs.Maps.{Maps, MapsOk, find, find_code, list_for, len_ok, value_ok, item_ok, items_ok, vkey_ok, numbered_all, codes_fit, code_lists_ok, non_char_ok, word, cells_ok}
use Rattle.lookup.specs.Encode.{numbered_lists, lists_in, entry_bytes, item_bytes}
use Rattle.lookup.proofs.block.MapsBack.{block_most, maps_back}
use Rattle.lookup.specs.Layout.{non_char_key, get_key, scan_code_for, message_scancode, vkey_for}
use Rattle.lookup.specs.Location.{places, vkey_place, location_in, extended_code, location_of}
use Rattle.session.specs.Session.{Session, fresh_session, open_count, rising, first_open, units_within, in_order, text_fits, opt_text_fits, full_key_fits, event_fits, info_fits, held_fits, wait_fits, entry_fits, entries_fit, is_session}
use Rattle.session.specs.Builder.{Keyboard, keyboard_of, break_table_of, layout_key, plain_key, code_as_key, forced_key, undead, from_message, is_character, mark_of, held_of, with_units, typed_text, typed_key, finalize, press_event, dead_char_event, control_counts, last_text, several_text, char_event, release_event, is_control, fake}
use Rattle.session.specs.Focus.{modifier_keys, is_other, others_from, focus_keys, focus_key, focus_text, synthetic_event, written, synthetic_events, focus_events}
use Rattle.session.specs.Calls.{Effect, sort_of, opening, numbered, behind, char_opened, dead_char_answered, message_effect, seen, holds, more_coming, finish_event, finish_held, find_wait, in_place, resolve, is_first, drain, resolved, finish_effect, effect_of}
use Rattle.session.specs.Questions.{opens, new_entries, units_after, last_token, question11, question5, question6, question7, question8, question9, question10, first_no, message_questions, finish_questions, session_questions}
use Rattle.session.specs.Answers.{result_by}
use Rattle.session.specs.Limits.{KEYS}
use Rattle.examples.specs.Examples.{Step, bring, finish, Answer, Example, keyboard_in, Brought, AllBrought, refusal, effect, result, answer_by, after_by, answers_by, expected_in, AllHold}
use Rattle.examples.specs.Expected.{examples}

-- ---- a keyboard that passes the tests is one that a call can bring

abbrev all_true : List Bool → Bool
all_true [] = true
all_true (b ∷ bs) = b && all_true bs

passed : (bs : List Bool) (k : ℕ) → all_true bs ≡ true → get_or bs k true ≡ true
passed [] k e = refl
passed (b ∷ bs) zero e = ((and-eq-true_iff b (all_true bs)).0 e).0
passed (b ∷ bs) (suc k) e = passed bs k ((and-eq-true_iff b (all_true bs)).0 e).1

-- the conditions of MapsOk, a bound that lets the block fit, and the number of key-state bytes
abbrev tests : Keyboard → List Bool
tests b =
    let m : Maps = b.layout in
    eqb (length m.non_char_keys) 256 ∷ cells_ok non_char_ok m.non_char_keys ∷ eqb (length m.scan_codes) 256 ∷ cells_ok word m.scan_codes ∷
    eqb (length m.virtual_keys) 768 ∷ cells_ok word m.virtual_keys ∷ items_ok vkey_ok 0 m.num_lock_on ∷ items_ok vkey_ok 0 m.num_lock_off ∷
    eqb (length m.keys) 16 ∷ code_lists_ok m.keys ∷ leb (item_bytes (lists_in m)) 4096 ∷ eqb (length b.key_state) KEYS ∷ []

can_bring : (b : Keyboard) → all_true (tests b) ≡ true → Brought b
unfolding keyboard_of
can_bring b e =
    let m : Maps = b.layout in
    let t : (k : ℕ) → get_or (tests b) k true ≡ true = λ k. passed (tests b) k e in
    let ok : MapsOk m = record {
      non_char_count = eqb-true (length m.non_char_keys) 256 (t 0);
      non_char = t 1;
      scan_count = eqb-true (length m.scan_codes) 256 (t 2);
      scans = t 3;
      vkey_count = eqb-true (length m.virtual_keys) 768 (t 4);
      vkeys = t 5;
      on = t 6;
      off = t 7;
      modifier_sets = eqb-true (length m.keys) 16 (t 8);
      codes = t 9;
    } in
    let p = maps_back m ok (omega (arith, block_most m ok, leb-true (item_bytes (lists_in m)) 4096 (t 10))) in
    (t 11, p.0, λ r. ap (λ (l : Maps). record { layout = l; key_state = b.key_state }) p.1)

abbrev boards_pass : List (Step × Answer) → Bool
boards_pass [] = true
boards_pass (c ∷ cs) = all_true (tests (keyboard_in c.0)) && boards_pass cs

all_brought : (cs : List (Step × Answer)) → boards_pass cs ≡ true → AllBrought cs
all_brought [] e = tt
all_brought (c ∷ cs) e =
    let p = (and-eq-true_iff (all_true (tests (keyboard_in c.0))) (boards_pass cs)).0 e in
    (can_bring (keyboard_in c.0) p.0, all_brought cs p.1)

-- ---- on such a keyboard the calls' definitions are those of the keyboard's record, so that they compute

abbrev refusal_on : Session → Step → Option ℕ
refusal_on s (bring b r m) = first_no ((11, table_ok r) ∷ message_questions s b m (sort_of m))
refusal_on s (finish b r t p) = first_no ((11, table_ok r) ∷ finish_questions s t)

abbrev effect_on : Session → Step → Effect
effect_on s (bring b r m) = message_effect s b m (sort_of m)
effect_on s (finish b r t p) = finish_effect s b (table_of r) t (seen p) (find_wait t s.entries)

same-refusal : (s : Session) (x : Step) → Brought (keyboard_in x) → refusal s x ≡ refusal_on s x
unfolding session_questions question11
same-refusal s (bring b r m) h = ap (λ (k : Keyboard). first_no ((11, table_ok r) ∷ message_questions s k m (sort_of m))) (h.2 r)
same-refusal s (finish b r t p) h = refl

same_effect : (s : Session) (x : Step) → Brought (keyboard_in x) → effect s x ≡ effect_on s x
unfolding effect_of break_table_of
same_effect s (bring b r m) h = ap (λ (k : Keyboard). message_effect s k m (sort_of m)) (h.2 r)
same_effect s (finish b r t p) h = ap (λ (k : Keyboard). finish_effect s k (table_of r) t (seen p) (find_wait t s.entries)) (h.2 r)

same-answers :
    (cs : List (Step × Answer)) (s : Session) → AllBrought cs → answers_by refusal effect s cs ≡ answers_by refusal_on effect_on s cs
same-answers [] s h = refl
same-answers (c ∷ cs) s h =
    rw (same-refusal s c.0 h.0, same_effect s c.0 h.0)
    (ap (λ (l : List Answer). answer_by (refusal_on s c.0) (result s c.0) (effect_on s c.0) ∷ l)
    (same-answers cs (after_by (refusal_on s c.0) s (effect_on s c.0)) h.1))

-- ---- what is computed of all examples

abbrev answers_on : List Example → List (List Answer)
answers_on [] = []
answers_on (x ∷ xs) = answers_by refusal_on effect_on x.start x.calls ∷ answers_on xs

abbrev expected_of : List Example → List (List Answer)
expected_of [] = []
expected_of (x ∷ xs) = expected_in x.calls ∷ expected_of xs

abbrev starts_pass : List Example → Bool
starts_pass [] = true
starts_pass (x ∷ xs) = is_session x.start && starts_pass xs

abbrev all_pass : List Example → Bool
all_pass [] = true
all_pass (x ∷ xs) = boards_pass x.calls && all_pass xs

answers_computed : answers_on examples ≡ expected_of examples
unfolding assoc scalar encode_with utf16_of utf8_of unit_step utf16_step table3_7 lead_in by_lead utf8_step read_from well_formed scalars_in text_of num every pictograph joiner indicators break_at breaks_after pieces props_in props_of pieces_of several_in first_at last_at kind_at segment table_of last_before after_last ends_at known_at range_ok ranges_ok table_ok char_units to_text native_kind native_value code_number code_native code_key scan_codes key_code_of key_lparam ex_scancode ex_scancode_of virtual_key down toggled any_down num_lock_on caps_lock_on active_modifiers remove_only_ctrl bits_of find find_code list_for non_char_key get_key scan_code_for message_scancode vkey_for places vkey_place location_in extended_code location_of fresh_session open_count layout_key plain_key code_as_key forced_key undead from_message is_character mark_of held_of with_units typed_text typed_key finalize press_event dead_char_event control_counts last_text several_text char_event release_event is_control fake modifier_keys is_other others_from focus_keys focus_key focus_text synthetic_event written synthetic_events focus_events sort_of opening numbered behind char_opened dead_char_answered message_effect seen holds more_coming finish_event finish_held find_wait in_place resolve is_first drain resolved finish_effect opens new_entries units_after last_token question5 question6 question7 question8 question9 question10 first_no message_questions finish_questions result_by
answers_computed = refl

starts_computed : starts_pass examples ≡ true
unfolding assoc scalar table3_7 lead_in by_lead utf8_step read_from well_formed bare_of text_in named_ok key_number key_fits native_fits code_native code_fits key_lparam numbered fresh_session open_count rising first_open units_within in_order text_fits opt_text_fits full_key_fits event_fits info_fits held_fits wait_fits entry_fits entries_fit is_session
starts_computed = refl

boards_computed : all_pass examples ≡ true
unfolding assoc scalar unit_step table3_7 lead_in by_lead utf8_step read_from well_formed bare_of text_in named_ok key_number key_fits none_held native_kind native_value native_fits native_ok code_number code_native code_fits code_key code_key_ok len_ok value_ok item_ok items_ok numbered_all codes_fit code_lists_ok cells_ok numbered_lists lists_in entry_bytes item_bytes
boards_computed = refl

-- ---- all hold

heads : (a b : List Answer) (l m : List (List Answer)) → a ∷ l ≡ b ∷ m → (a ≡ b) × (l ≡ m)
heads a b l m e = (cc, cc)

all_hold : (xs : List Example) → starts_pass xs ≡ true → all_pass xs ≡ true → answers_on xs ≡ expected_of xs → AllHold xs
all_hold [] s b e = tt
all_hold (x ∷ xs) s b e =
    let p = (and-eq-true_iff (is_session x.start) (starts_pass xs)).0 s in
    let q = (and-eq-true_iff (boards_pass x.calls) (all_pass xs)).0 b in
    let h = heads (answers_by refusal_on effect_on x.start x.calls) (expected_in x.calls) (answers_on xs) (expected_of xs) e in
    let k : AllBrought x.calls = all_brought x.calls q.0 in
    (record { start_ok = p.0; can_come = k; answers = same-answers x.calls x.start k ∙ h.0 }, all_hold xs p.1 q.1 h.1)

pub examples_hold : AllHold examples
examples_hold = all_hold examples starts_computed boards_computed answers_computed
