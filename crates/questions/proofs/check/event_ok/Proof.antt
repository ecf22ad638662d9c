-- `crate::check::event_ok` meets its contract: each part that passes leaves the ones behind it.
-- Assumes nothing.
use mathlib.Core.Path.{◌≡◌, sym, ◌∙◌}
use mathlib.Core.Bool.{Bool}
use mathlib.Core.List.{List}
use Prim.Native.Nat.{ℕ, ◌-◌}
use lib.ListN.{length, take, drop}
use borrow.Author.Tests.{not-true, not-false}
use Rattle.session.specs.Limits.{TEXT_MOST, KEY_TEXT_MOST}
use Rattle.session.specs.Area.{text_bytes, opt_text, full_key, event}
use Rattle.record.proofs.Fields.{opt_ok}
use Rattle.record.proofs.Records.{marks, behind-code, behind-key, behind-text, behind_marks, event_test}
use Rattle.questions.proofs.check.Tests.{stop_by, next_by, cut}
use borrow.Author.Rules.{rules}
use Rattle.questions.proofs.check.event_ok.Statement.{statement}
use Rattle.questions.proofs.check.event_ok.Tie as tie

-- ---- from each part back to the one before it, and to the bytes

abbrev bytes : tie.Else-not-code_ok → List ℕ
bytes c = c.args.s.now

abbrev code : tie.Else-not-key_ok → tie.Else-not-code_ok
code c = c.before.before.before

abbrev key : tie.Else-not-text_ok → tie.Else-not-key_ok
key c = c.before.before.before

abbrev text : tie.Else-not-marks_ok → tie.Else-not-text_ok
text c = c.before.before.before

abbrev four : tie.Else-not-text_ok-2 → tie.Else-not-marks_ok
four c = c.before.before.before

-- ---- what is left once a part has passed

-- a text that may be none, from place k on
text-told : (k : ℕ) (l : List ℕ) {b : Bool} → b ≡ (text_bytes TEXT_MOST).ok (take (length l - k) (drop k l)) → b ≡ opt_text.ok (drop k l)
text-told k l e = cut (text_bytes TEXT_MOST).ok k l e ∙ sym (opt_ok (drop k l))

code-passed : (c : tie.Else-not-code_ok) → event.ok (bytes c) ≡ behind-code (bytes c)
code-passed c = next_by _ _ (event_test (bytes c)) c.code_ok.ensures (not-false _ c.if-not-code_ok.false-raw)

key-passed : (c : tie.Else-not-key_ok) → let l = bytes c.before.before.before in event.ok l ≡ behind-key l
key-passed c =
    next_by _ _ (code-passed c.before.before.before) (cut (full_key TEXT_MOST).ok 6 (bytes c.before.before.before) c.key_ok.ensures) (not-false _ c.if-not-key_ok.false-raw)

text-passed : (c : tie.Else-not-text_ok) → let l = bytes c.before.before.before.before.before.before in event.ok l ≡ behind-text l
text-passed c =
    let else_at = c.before.before.before.before.before.before in
    next_by _ _ (key-passed c.before.before.before) (text-told 62 (bytes else_at) c.text_ok.ensures) (not-false _ c.if-not-text_ok.false-raw)

marks-passed : (c : tie.Else-not-marks_ok) → let l = bytes c.before.before.before.before.before.before.before.before.before in event.ok l ≡ behind_marks l
marks-passed c =
    let else_at = c.before.before.before.before.before.before.before.before.before in
    next_by _ _ (text-passed c.before.before.before) (cut marks.ok 111 (bytes else_at) c.marks_ok.ensures) (not-false _ c.if-not-marks_ok.false-raw)

other-passed : (c : tie.Else-not-text_ok-2) → let l = bytes c.before.before.before.before.before.before.before.before.before.before.before.before in event.ok l ≡ (full_key KEY_TEXT_MOST).ok (drop 164 l)
other-passed c =
    let else_at = c.before.before.before.before.before.before.before.before.before.before.before.before in
    next_by _ _ (marks-passed c.before.before.before) (text-told 115 (bytes else_at) c.text_ok-2.ensures) (not-false _ c.if-not-text_ok-2.false-raw)

-- ---- the needs

code-ok-requires : tie.Need-code_ok-requires
code-ok-requires c κs = search rules

returns : tie.Need-returns-then-not-code_ok
returns c = stop_by _ _ (event_test c.args.s.now) c.code_ok.ensures (not-true _ c.if-not-code_ok.true-raw)

sub-key-ok : tie.Need-slice_bounds-key_ok-count
sub-key-ok c = search rules

part-key-ok-start : tie.Need-slice_bounds-key_ok-start
part-key-ok-start c = search rules

part-key-ok-end : tie.Need-slice_bounds-key_ok-end
part-key-ok-end c = search rules

key-ok-requires : tie.Need-key_ok-requires
key-ok-requires c κs = search rules

returns-2 : tie.Need-returns-then-not-key_ok
returns-2 c =
    stop_by _ _ (code-passed c.before.before.before) (cut (full_key TEXT_MOST).ok 6 (bytes c.before.before.before) c.key_ok.ensures) (not-true _ c.if-not-key_ok.true-raw)

sub-text-ok : tie.Need-slice_bounds-text_ok-count
sub-text-ok c = search rules

part-text-ok-start : tie.Need-slice_bounds-text_ok-start
part-text-ok-start c = search rules

part-text-ok-end : tie.Need-slice_bounds-text_ok-end
part-text-ok-end c = search rules

text-ok-requires : tie.Need-text_ok-requires
text-ok-requires c κs = search rules

returns-3 : tie.Need-returns-then-not-text_ok
returns-3 c =
    let else_at = c.before.before.before.before.before.before in
    stop_by _ _ (key-passed c.before.before.before) (text-told 62 (bytes else_at) c.text_ok.ensures) (not-true _ c.if-not-text_ok.true-raw)

sub-marks-ok : tie.Need-slice_bounds-marks_ok-count
sub-marks-ok c = search rules

part-marks-ok-start : tie.Need-slice_bounds-marks_ok-start
part-marks-ok-start c = search rules

part-marks-ok-end : tie.Need-slice_bounds-marks_ok-end
part-marks-ok-end c = search rules

marks-ok-requires : tie.Need-marks_ok-requires
marks-ok-requires c κs = search rules

returns-4 : tie.Need-returns-then-not-marks_ok
returns-4 c =
    let else_at = c.before.before.before.before.before.before.before.before.before in
    stop_by _ _ (text-passed c.before.before.before) (cut marks.ok 111 (bytes else_at) c.marks_ok.ensures) (not-true _ c.if-not-marks_ok.true-raw)

sub-text-ok-2 : tie.Need-slice_bounds-text_ok-count-2
sub-text-ok-2 c = search rules

part-text-ok-start-2 : tie.Need-slice_bounds-text_ok-start-2
part-text-ok-start-2 c = search rules

part-text-ok-end-2 : tie.Need-slice_bounds-text_ok-end-2
part-text-ok-end-2 c = search rules

text-ok-requires-2 : tie.Need-text_ok-requires-2
text-ok-requires-2 c κs = search rules

returns-5 : tie.Need-returns-then-not-text_ok-2
returns-5 c =
    let else_at = c.before.before.before.before.before.before.before.before.before.before.before.before in
    stop_by _ _ (marks-passed c.before.before.before) (text-told 115 (bytes else_at) c.text_ok-2.ensures) (not-true _ c.if-not-text_ok-2.true-raw)

sub-key-ok-2 : tie.Need-slice_bounds-key_ok-count-2
sub-key-ok-2 c = search rules

part-key-ok-start-2 : tie.Need-slice_bounds-key_ok-start-2
part-key-ok-start-2 c = search rules

part-key-ok-end-2 : tie.Need-slice_bounds-key_ok-end-2
part-key-ok-end-2 c = search rules

key-ok-requires-2 : tie.Need-key_ok-requires-2
key-ok-requires-2 c κs = search rules

returns-6 : tie.Need-returns
returns-6 c =
    let else_at = c.before.before.before.before.before.before.before.before.before.before.before.before.before.before in
    let l = bytes else_at in
    cut (full_key KEY_TEXT_MOST).ok 164 l c.key_ok-2.ensures ∙ sym (other-passed c.before.before)

pub event_ok_spec : {M : Type 1} → statement M
event_ok_spec =
    tie.close
    (tie.spec
    code-ok-requires
    returns
    sub-key-ok
    part-key-ok-start
    part-key-ok-end
    key-ok-requires
    returns-2
    sub-text-ok
    part-text-ok-start
    part-text-ok-end
    text-ok-requires
    returns-3
    sub-marks-ok
    part-marks-ok-start
    part-marks-ok-end
    marks-ok-requires
    returns-4
    sub-text-ok-2
    part-text-ok-start-2
    part-text-ok-end-2
    text-ok-requires-2
    returns-5
    sub-key-ok-2
    part-key-ok-start-2
    part-key-ok-end-2
    key-ok-requires-2
    returns-6)
