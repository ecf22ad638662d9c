-- The entry that carries the token stands at its place, of the case that was read; where none does nothing is done.
-- Assumes nothing.
use Rattle.std.proofs.Common.{refl, arith, rules}
use Rattle.record.specs.declared.read.Pending.TheVariants as case
use Rattle.message.proofs.finishing.WaitingEntry.{lost, nothing_left, entry-within, entry_long, entry_found, completed}
use Rattle.message.proofs.finishing.finish_open.Goals as goal

pub returns-in_default : goal.returns-in_default
returns-in_default c =
    nothing_left _ (λ i. search rules) c.requires.0 _ _ _ _ (lost _ _ (c.in_default.ensures.missing refl)) c.no_events.ensures

pub overflow_mul-at : goal.overflow_mul-at
overflow_mul-at c =
    let s = c.in-Some.ensures.found _ refl in
    omega (arith, entry-within _ (λ i. search rules) c.requires.0 _ s.within, c.requires.0.size)

pub overflow_add-at : goal.overflow_add-at
overflow_add-at c =
    let s = c.in-Some.ensures.found _ refl in
    omega (arith, entry-within _ (λ i. search rules) c.requires.0 _ s.within, c.requires.0.size)

pub slice_bounds-pending_at-count : goal.slice_bounds-pending_at-count
slice_bounds-pending_at-count c =
    let s = c.in-Some.ensures.found _ refl in
    omega (arith, entry-within _ (λ i. search rules) c.requires.0 _ s.within)

pub slice_bounds-pending_at-start : goal.slice_bounds-pending_at-start
slice_bounds-pending_at-start c =
    let s = c.in-Some.ensures.found _ refl in
    omega (arith, entry-within _ (λ i. search rules) c.requires.0 _ s.within)

pub pending_at-what-requires : goal.pending_at-what-requires
pending_at-what-requires c =
    let s = c.in-Some.ensures.found _ refl in
    entry_long _ (λ i. search rules) c.requires.0 _ s.within
    (omega (arith, entry-within _ (λ i. search rules) c.requires.0 _ s.within)) refl

pub returns-in-Complete : goal.returns-in-Complete
returns-in-Complete c =
    let a = c.requires in
    let e = entry_found _ _ _ _ (c.in-Some.ensures.found _ refl) a.1 case.Complete c.pending_at-what.ensures c.in-Complete.is refl in
    nothing_left _ (λ i. search rules) a.0 _ _ _ _ (completed _ _ _ _ e) c.no_events-in-Complete.ensures
