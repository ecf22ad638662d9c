-- The release is read where it waits, and completed unless it is fake.
-- Assumes nothing.
use Rattle.std.proofs.Common.{ℕ, ◌<◌, refl, sym, ◌∙◌, arith, rules}
use lib.ListN.{get_or}
use Rattle.session.proofs.Fits.{release_fits}
use Rattle.record.specs.declared.read.Pending.TheVariants as case
use Rattle.queue.proofs.Standing.{ready}
use Rattle.message.proofs.finishing.WaitingEntry.{few, release_passes, release_waits, key_reads, key-read, release_range}
use Rattle.message.proofs.finishing.FinishEffect.{release-fake, release_done, finished}
use Rattle.message.proofs.finishing.finish_release.Goals as goal

pub overflow_mul-at : goal.overflow_mul-at
overflow_mul-at c = omega (arith, few case.Release _ _ _ _ c.requires (λ i. search rules))

pub overflow_add-at : goal.overflow_add-at
overflow_add-at c = omega (arith, few case.Release _ _ _ _ c.requires (λ i. search rules))

pub overflow_add-at-2 : goal.overflow_add-at-2
overflow_add-at-2 c = omega (arith, few case.Release _ _ _ _ c.requires (λ i. search rules))

pub slice_bounds-bare_key_at-count : goal.slice_bounds-bare_key_at-count
slice_bounds-bare_key_at-count c =
    omega (arith, few case.Release _ _ _ _ c.requires (λ i. search rules), c.requires.stands.area.size)

pub slice_bounds-bare_key_at-start : goal.slice_bounds-bare_key_at-start
slice_bounds-bare_key_at-start c =
    omega (arith, few case.Release _ _ _ _ c.requires (λ i. search rules), c.requires.stands.area.size)

pub bare_key_at-key-requires : goal.bare_key_at-key-requires
bare_key_at-key-requires c =
    let b : (i : ℕ) → get_or c.args.session.now i 0 < 256 = λ i. search rules in
    key_reads _ _ _ _ c.requires b (omega (arith, few case.Release _ _ _ _ c.requires b, c.requires.stands.area.size)) (omega arith)

pub returns-then-is_fake : goal.returns-then-is_fake
returns-then-is_fake c =
    let b : (i : ℕ) → get_or c.args.session.now i 0 < 256 = λ i. search rules in
    let key = key-read _ _ _ _ c.requires b c.bare_key_at-key.ensures (omega arith) in
    let fake = sym (c.is_fake.ensures _ _ key) ∙ c.if-is_fake.true in
    λ r. finished _ _ r _ _ _ _ (release-fake _ _ r _ _ _ (release_waits _ _ _ _ c.requires b) fake) _ refl c.remove_pending.ensures

pub put_release-requires : goal.put_release-requires
put_release-requires c =
    let b : (i : ℕ) → get_or c.args.session.now i 0 < 256 = λ i. search rules in
    let p = c.requires in
    (p.stands.area.size, p.answers, few case.Release _ _ _ _ p b, release_passes _ _ _ _ p b)

pub complete_pending-requires : goal.complete_pending-requires
complete_pending-requires c =
    ready _ (λ i. search rules) _ _ c.requires.stands c.put_release.ensures c.requires.answers

pub returns : goal.returns
returns c =
    let b : (i : ℕ) → get_or c.args.session.now i 0 < 256 = λ i. search rules in
    let p = c.requires in
    let key = key-read _ _ _ _ p b c.bare_key_at-key.ensures (omega arith) in
    let real = sym (c.is_fake.ensures _ _ key) ∙ c.if-is_fake.false in
    let waits = release_waits _ _ _ _ p b in
    let fits = release_fits _ (release_range _ _ _ _ p b _ waits) in
    λ r. finished _ _ r _ _ _ _ (release_done _ _ r _ _ _ waits real refl) _ refl (c.complete_pending.ensures _ _ _ b p.stands fits p.answers c.put_release.ensures)
