-- `crate::check::session_ok` meets its contract: each test that passes leaves the ones behind it.
-- Assumes nothing.
use mathlib.Core.Path.{◌≡◌, sym, ap, ◌∙◌}
use mathlib.Core.List.{List}
use Prim.Native.Nat.{ℕ}
use borrow.Author.Tests.{not-true, not-false, le-leb, lt-leb}
use Rattle.area.specs.Bytes.{num}
use Rattle.session.specs.Codec.{get_many, ok_many}
use Rattle.session.specs.Limits.{TOKENS_MOST, ENTRIES_MOST, COUNT_AT, ENTRIES_AT}
use Rattle.session.specs.Area.{entry, held_field}
use Rattle.questions.proofs.check.Tests.{stop, next, stop_by, next_by, cut}
use Rattle.questions.specs.Order.{ordered}
use Rattle.questions.proofs.check.Whole.{Asked, by_order, by_entries, by_zeros, by_count, by_held, by_tokens, no_size, by_size}
use borrow.Author.Rules.{rules}
use Rattle.questions.proofs.check.session_ok.Statement.{statement}
use Rattle.questions.proofs.check.session_ok.Tie as tie

-- ---- from each test back to the one before it, and to the area

abbrev area : tie.Else-session-ne-AREA_SIZE → List ℕ
area c = c.args.session.now

abbrev tokens : tie.Else-not-held_field_ok → tie.Else-handed-gt-TOKENS_MOST
tokens c = c.before.before.before

abbrev entries : tie.Else-not-entries_ok → tie.Else-not-zero_from
entries c = c.before.before.before

abbrev zeros : tie.Else-not-zero_from → tie.Else-n-gt-ENTRIES_MOST
zeros c = c.before.before

-- ---- what is left once a test has passed

sized :
    (c : tie.After-get_u16-handed) →
    let x = area c.before in Asked x ≡ by_tokens x c.get_u16-handed.result (num 2 COUNT_AT x)
sized c =
    let x = area c.before in
    by_size x c.if-session-ne-AREA_SIZE.false ∙ ap (λ (h : ℕ). by_tokens x h (num 2 COUNT_AT x)) (sym c.get_u16-handed.ensures)

few-tokens :
    (c : tie.Else-handed-gt-TOKENS_MOST) →
    let x = area c.before.before in Asked x ≡ by_held x c.get_u16-handed.result (num 2 COUNT_AT x)
few-tokens c = next _ _ (sized c.before) (le-leb _ TOKENS_MOST c.if-handed-gt-TOKENS_MOST.false)

right-held :
    (c : tie.Else-not-held_field_ok) →
    let x = area c.before.before.before.before.before in Asked x ≡ by_count x c.get_u16-handed.result (num 2 COUNT_AT x)
right-held c =
    let else_at = c.before.before.before.before.before in
    let x = area else_at in
    next_by _ _ (few-tokens c.before.before.before) (cut held_field.ok 2 x c.held_field_ok.ensures) (not-false _ c.if-not-held_field_ok.false-raw)

counted :
    (c : tie.After-get_u16-n) →
    let x = area c.before.before.before.before.before.before in Asked x ≡ by_count x c.get_u16-handed.result c.get_u16-n.result
counted c =
    let else_at = c.before.before.before.before.before.before in
    let x = area else_at in
    right-held c.before ∙ ap (λ (n : ℕ). by_count x c.get_u16-handed.result n) (sym c.get_u16-n.ensures)

few-entries :
    (c : tie.Else-n-gt-ENTRIES_MOST) →
    let x = area c.before.before.before.before.before.before.before in Asked x ≡ by_zeros x c.get_u16-handed.result c.get_u16-n.result
few-entries c = next _ _ (counted c.before) (le-leb _ ENTRIES_MOST c.if-n-gt-ENTRIES_MOST.false)

zeros-behind :
    (c : tie.Else-not-zero_from) →
    let x = area c.before.before.before.before.before.before.before.before.before in Asked x ≡ by_entries x c.get_u16-handed.result c.get_u16-n.result
zeros-behind c = next_by _ _ (few-entries c.before.before) c.zero_from.ensures (not-false _ c.if-not-zero_from.false-raw)

right-entries :
    (c : tie.Else-not-entries_ok) →
    let x = area c.before.before.before.before.before.before.before.before.before.before.before.before in Asked x ≡ by_order x c.get_u16-handed.result c.get_u16-n.result
right-entries c =
    let else_at = c.before.before.before.before.before.before.before.before.before.before.before.before in
    let x = area else_at in
    next_by _ _ (zeros-behind c.before.before.before) (cut (ok_many entry c.get_u16-n.result) ENTRIES_AT x c.entries_ok.ensures) (not-false _ c.if-not-entries_ok.false-raw)

-- ---- the needs

returns : tie.Need-returns-then-session-ne-AREA_SIZE
returns c = no_size c.args.session.now c.if-session-ne-AREA_SIZE.true

get-u16-requires : tie.Need-get_u16-handed-requires
get-u16-requires c κs = search rules

cast-if2 : tie.Need-overflow_cast-handed
cast-if2 c = search rules

returns-2 : tie.Need-returns-then-handed-gt-TOKENS_MOST
returns-2 c = stop _ _ (sized c.before) (lt-leb _ TOKENS_MOST c.if-handed-gt-TOKENS_MOST.true)

sub-held-field-ok : tie.Need-slice_bounds-held_field_ok-count
sub-held-field-ok c = search rules

part-held-field-ok-start : tie.Need-slice_bounds-held_field_ok-start
part-held-field-ok-start c = search rules

part-held-field-ok-end : tie.Need-slice_bounds-held_field_ok-end
part-held-field-ok-end c = search rules

held-field-ok-requires : tie.Need-held_field_ok-requires
held-field-ok-requires c κs = search rules

returns-3 : tie.Need-returns-then-not-held_field_ok
returns-3 c =
    let else_at = c.before.before.before.before.before in
    stop_by _ _ (few-tokens c.before.before.before) (cut held_field.ok 2 (area else_at) c.held_field_ok.ensures) (not-true _ c.if-not-held_field_ok.true-raw)

get-u16-requires-2 : tie.Need-get_u16-n-requires
get-u16-requires-2 c κs = search rules

cast-n : tie.Need-overflow_cast-n
cast-n c = search rules

returns-4 : tie.Need-returns-then-n-gt-ENTRIES_MOST
returns-4 c = stop _ _ (counted c.before) (lt-leb _ ENTRIES_MOST c.if-n-gt-ENTRIES_MOST.true)

mul-zero-from : tie.Need-overflow_mul-n
mul-zero-from c = search rules

add-zero-from : tie.Need-overflow_add-n
add-zero-from c = search rules

zero-from-requires : tie.Need-zero_from-requires
zero-from-requires c κs = search rules

returns-5 : tie.Need-returns-then-not-zero_from
returns-5 c = stop_by _ _ (few-entries c.before.before) c.zero_from.ensures (not-true _ c.if-not-zero_from.true-raw)

sub-entries-ok : tie.Need-slice_bounds-entries_ok-count
sub-entries-ok c = search rules

part-entries-ok-start : tie.Need-slice_bounds-entries_ok-start
part-entries-ok-start c = search rules

part-entries-ok-end : tie.Need-slice_bounds-entries_ok-end
part-entries-ok-end c = search rules

entries-ok-requires : tie.Need-entries_ok-requires
entries-ok-requires c κs = search rules

returns-6 : tie.Need-returns-then-not-entries_ok
returns-6 c =
    let else_at = c.before.before.before.before.before.before.before.before.before.before.before.before in
    let x = area else_at in
    stop_by _ _ (zeros-behind c.before.before.before) (cut (ok_many entry c.get_u16-n.result) ENTRIES_AT x c.entries_ok.ensures) (not-true _ c.if-not-entries_ok.true-raw)

sub-order-ok : tie.Need-slice_bounds-order_ok-count
sub-order-ok c = search rules

part-order-ok-start : tie.Need-slice_bounds-order_ok-start
part-order-ok-start c = search rules

part-order-ok-end : tie.Need-slice_bounds-order_ok-end
part-order-ok-end c = search rules

order-ok-requires : tie.Need-order_ok-requires
order-ok-requires c κs = search rules

returns-7 : tie.Need-returns
returns-7 c =
    let else_at = c.before.before.before.before.before.before.before.before.before.before.before.before.before.before in
    cut (λ (l : List ℕ). ordered c.get_u16-handed.result (get_many entry c.get_u16-n.result l)) ENTRIES_AT (area else_at) c.order_ok.ensures
    ∙ sym (right-entries c.before.before)

pub session_ok_spec : {M : Type 1} → statement M
session_ok_spec =
    tie.close
    (tie.spec
    returns
    get-u16-requires
    cast-if2
    returns-2
    sub-held-field-ok
    part-held-field-ok-start
    part-held-field-ok-end
    held-field-ok-requires
    returns-3
    get-u16-requires-2
    cast-n
    returns-4
    mul-zero-from
    add-zero-from
    zero-from-requires
    returns-5
    sub-entries-ok
    part-entries-ok-start
    part-entries-ok-end
    entries-ok-requires
    returns-6
    sub-order-ok
    part-order-ok-start
    part-order-ok-end
    order-ok-requires
    returns-7)
