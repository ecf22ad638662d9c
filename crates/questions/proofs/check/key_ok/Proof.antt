-- `crate::check::key_ok` meets its contract: each way out by the test that it ends in.
-- Assumes nothing.
use borrow.Author.Tests.{not-true, not-false}
use Rattle.questions.proofs.check.Keys.{key-fields, key-text, key_end}
use borrow.Author.Rules.{rules}
use Rattle.questions.proofs.check.key_ok.Statement.{statement}
use Rattle.questions.proofs.check.key_ok.Tie as tie

get-u16-requires : tie.Need-get_u16-number-requires
get-u16-requires c κs = search rules

get-u32-requires : tie.Need-get_u32-value-requires
get-u32-requires c κs = search rules

shared-slice-read-key-ok : tie.Need-bounds-s-2
shared-slice-read-key-ok c = search rules

key-ok-requires : tie.Need-key_ok-requires
key-ok-requires c κs = search rules

returns : tie.Need-returns-then-not-key_ok
returns c =
    key-fields _ _ _ _ c.get_u16-number.ensures c.get_u32-value.ensures _ c.key_ok.ensures (not-true _ c.if-not-key_ok.true-raw)

shared-slice-read-key-text-ok : tie.Need-bounds-s-7
shared-slice-read-key-text-ok c = search rules

key-text-ok-requires : tie.Need-key_text_ok-requires
key-text-ok-requires c κs = search rules

returns-2 : tie.Need-returns-then-not-key_text_ok
returns-2 c =
    key-text _ _ _ _ c.get_u16-number.ensures c.get_u32-value.ensures _ c.key_ok.ensures (not-false _ c.if-not-key_ok.false-raw) _
    c.key_text_ok.ensures (not-true _ c.if-not-key_text_ok.true-raw)

sub-text-ok : tie.Need-slice_bounds-text_ok-count
sub-text-ok c = search rules

part-text-ok-start : tie.Need-slice_bounds-text_ok-start
part-text-ok-start c = search rules

part-text-ok-end : tie.Need-slice_bounds-text_ok-end
part-text-ok-end c = search rules

text-ok-requires : tie.Need-text_ok-requires
text-ok-requires c κs = search rules

returns-3 : tie.Need-returns
returns-3 c =
    key_end _ _ _ _ c.get_u16-number.ensures c.get_u32-value.ensures _ c.key_ok.ensures (not-false _ c.if-not-key_ok.false-raw) _
    c.key_text_ok.ensures (not-false _ c.if-not-key_text_ok.false-raw) _ c.text_ok.ensures

pub key_ok_spec : {M : Type 1} → statement M
key_ok_spec =
    tie.close
    (tie.spec
    get-u16-requires
    get-u32-requires
    shared-slice-read-key-ok
    key-ok-requires
    returns
    shared-slice-read-key-text-ok
    key-text-ok-requires
    returns-2
    sub-text-ok
    part-text-ok-start
    part-text-ok-end
    text-ok-requires
    returns-3)
