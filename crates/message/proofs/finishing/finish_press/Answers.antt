-- The press is read where it waits: held where what was peeked says so, else completed, unless it is fake.
-- Assumes nothing.
use Rattle.std.specs.Prelude.{Some, None}
use Rattle.std.proofs.Common.{◌≡◌, ℕ, ◌<◌, List, true, refl, sym, ap, ◌∙◌, arith, rules}
use lib.ListN.{get_or}
use Rattle.lookup.specs.Block.{block_ok}
use Rattle.lookup.specs.declared.keyboard.KeyLParam.{KeyLParam}
use Rattle.session.specs.Session.{press, event_fits, held_fits}
use Rattle.session.specs.Area.{decode}
use Rattle.session.specs.Builder.{held_of}
use Rattle.session.specs.Calls.{find_wait}
use Rattle.session.proofs.Fits.{held_fits_lem, press_fits}
use Rattle.record.specs.declared.read.Pending.TheVariants as case
use Rattle.queue.proofs.Areas.{own_area, held-area}
use Rattle.queue.proofs.HeldPress.{forgotten, forgot_plainly}
use Rattle.queue.proofs.Standing.{ready}
use Rattle.event.specs.Written.{keyboard_at}
use Rattle.event.proofs.focus.Keyboard.{keyboard_at_ok}
use Rattle.message.specs.Resolves.{EntryAt}
use Rattle.message.proofs.finishing.WaitingEntry.{few, press-reads, press_waits, press_range}
use Rattle.message.proofs.finishing.FinishEffect.{key_of, made_held, new_within, press-held, press-fake, press_done, same_place, finished}
use Rattle.message.proofs.finishing.finish_press.Goals as goal

-- the press that waits is in range, as it would be held
press_in_range :
    (x y block state : List ℕ) (t place : ℕ) → EntryAt case.Press x y t place → ((i : ℕ) → get_or x i 0 < 256) → ((i : ℕ) → get_or block i 0 < 256) →
    block_ok block ≡ true → (vkey : ℕ) (l : KeyLParam) → find_wait t (decode x).entries ≡ Some (press vkey l) → held_fits (Some (held_of (keyboard_at state block) vkey l)) ≡ true
press_in_range x y block state t place p b o k vkey l w =
    let r = press_range x y t place p b vkey l w in
    held_fits_lem (keyboard_at state block) vkey l (keyboard_at_ok block state o k) r.0 r.1

pub overflow_mul-at : goal.overflow_mul-at
overflow_mul-at c = omega (arith, few case.Press _ _ _ _ c.requires (λ i. search rules))

pub overflow_add-at : goal.overflow_add-at
overflow_add-at c = omega (arith, few case.Press _ _ _ _ c.requires (λ i. search rules))

pub overflow_add-at-2 : goal.overflow_add-at-2
overflow_add-at-2 c = omega (arith, few case.Press _ _ _ _ c.requires (λ i. search rules))

pub slice_bounds-pressed_at-count : goal.slice_bounds-pressed_at-count
slice_bounds-pressed_at-count c =
    omega (arith, few case.Press _ _ _ _ c.requires (λ i. search rules), c.requires.stands.area.size)

pub slice_bounds-pressed_at-start : goal.slice_bounds-pressed_at-start
slice_bounds-pressed_at-start c =
    omega (arith, few case.Press _ _ _ _ c.requires (λ i. search rules), c.requires.stands.area.size)

pub pressed_at-p-requires : goal.pressed_at-p-requires
pressed_at-p-requires c =
    let b : (i : ℕ) → get_or c.args.session.now i 0 < 256 = λ i. search rules in
    press-reads _ _ _ _ c.requires b (omega (arith, few case.Press _ _ _ _ c.requires b, c.requires.stands.area.size)) refl

pub set_held-requires : goal.set_held-requires
set_held-requires c =
    let a = c.args in
    let b : (i : ℕ) → get_or a.session.now i 0 < 256 = λ i. search rules in
    let p = c.requires in
    let r = c.pressed_at-p.result in
    let made = made_held a.keyboard.layout.bytes.now a.keyboard.state.now r.vkey r.lparam c.from_message-n.result c.from_message-n.ensures.0 (c.press_mark-mark.ensures _ _ (key_of _ _)) in
    let waits = press_waits _ _ _ _ p b _ _ c.pressed_at-p.ensures refl in
    (p.stands.area, c.from_message-n.ensures.1, rw made (press_in_range _ _ _ a.keyboard.state.now _ _ p b a.keyboard.layout.bytewise a.keyboard.layout.whole _ _ waits))

pub remove_pending-requires : goal.remove_pending-requires
remove_pending-requires c =
    let a = c.args in
    let b : (i : ℕ) → get_or a.session.now i 0 < 256 = λ i. search rules in
    let p = c.requires in
    let r = c.pressed_at-p.result in
    let made = made_held a.keyboard.layout.bytes.now a.keyboard.state.now r.vkey r.lparam c.from_message-n.result c.from_message-n.ensures.0 (c.press_mark-mark.ensures _ _ (key_of _ _)) in
    let waits = press_waits _ _ _ _ p b _ _ c.pressed_at-p.ensures refl in
    let fits = press_in_range _ _ _ a.keyboard.state.now _ _ p b a.keyboard.layout.bytewise a.keyboard.layout.whole _ _ waits in
    (same_place _ _ _ _ (held-area _ _ (own_area _ b p.stands.area) (rw made (new_within _ _ _)) (rw made fits) c.set_held.ensures) p.stands, p.answers)

pub returns-then-holds : goal.returns-then-holds
returns-then-holds c =
    let a = c.args in
    let b : (i : ℕ) → get_or a.session.now i 0 < 256 = λ i. search rules in
    let p = c.requires in
    let r = c.pressed_at-p.result in
    let made = made_held a.keyboard.layout.bytes.now a.keyboard.state.now r.vkey r.lparam c.from_message-n.result c.from_message-n.ensures.0 (c.press_mark-mark.ensures _ _ (key_of _ _)) in
    let waits = press_waits _ _ _ _ p b _ _ c.pressed_at-p.ensures refl in
    let fits = press_in_range _ _ _ a.keyboard.state.now _ _ p b a.keyboard.layout.bytewise a.keyboard.layout.whole _ _ waits in
    let area = held-area _ _ (own_area _ b p.stands.area) (rw made (new_within _ _ _)) (rw made fits) c.set_held.ensures in
    λ v. finished _ _ v _ _ _ _ (press-held _ _ v _ _ _ _ waits _ made (sym c.holds.ensures ∙ c.if-holds.true)) _ area.back c.remove_pending.ensures

pub remove_pending-requires-then-is_fake : goal.remove_pending-requires-then-is_fake
remove_pending-requires-then-is_fake c =
    let b : (i : ℕ) → get_or c.args.session.now i 0 < 256 = λ i. search rules in
    let p = c.requires in
    (same_place _ None _ _ (forgotten _ (own_area _ b p.stands.area) (forgot_plainly b p.stands.area c.forget_held.ensures)) p.stands, p.answers)

pub returns-then-is_fake : goal.returns-then-is_fake
returns-then-is_fake c =
    let a = c.args in
    let b : (i : ℕ) → get_or a.session.now i 0 < 256 = λ i. search rules in
    let p = c.requires in
    let r = c.pressed_at-p.result in
    let made = made_held a.keyboard.layout.bytes.now a.keyboard.state.now r.vkey r.lparam c.from_message-n.result c.from_message-n.ensures.0 (c.press_mark-mark.ensures _ _ (key_of _ _)) in
    let waits = press_waits _ _ _ _ p b _ _ c.pressed_at-p.ensures refl in
    let area = forgotten _ (own_area _ b p.stands.area) (forgot_plainly b p.stands.area c.forget_held.ensures) in
    let passes = sym c.holds.ensures ∙ c.if-holds.false in
    let fake = sym (c.is_fake.ensures _ _ (key_of _ _)) ∙ c.if-is_fake.true in
    λ v. finished _ _ v _ _ _ _ (press-fake _ _ v _ _ _ _ waits _ made passes fake) _ area.back c.remove_pending-then-is_fake.ensures

pub put_event-requires : goal.put_event-requires
put_event-requires c =
    let b : (i : ℕ) → get_or c.args.session.now i 0 < 256 = λ i. search rules in
    let p = c.requires in
    let area = forgotten _ (own_area _ b p.stands.area) (forgot_plainly b p.stands.area c.forget_held.ensures) in
    (area.area.size, p.answers, few case.Press _ _ _ _ p b, (c.press_event-e.ensures _ c.from_message-n.ensures.1 0).1)

pub complete_pending-requires : goal.complete_pending-requires
complete_pending-requires c =
    let b : (i : ℕ) → get_or c.args.session.now i 0 < 256 = λ i. search rules in
    let p = c.requires in
    let area = forgotten _ (own_area _ b p.stands.area) (forgot_plainly b p.stands.area c.forget_held.ensures) in
    ready _ (λ i. search rules) _ _ (same_place _ None _ _ area p.stands) c.put_event.ensures p.answers

pub returns : goal.returns
returns c =
    let a = c.args in
    let b : (i : ℕ) → get_or a.session.now i 0 < 256 = λ i. search rules in
    let p = c.requires in
    let r = c.pressed_at-p.result in
    let made = made_held a.keyboard.layout.bytes.now a.keyboard.state.now r.vkey r.lparam c.from_message-n.result c.from_message-n.ensures.0 (c.press_mark-mark.ensures _ _ (key_of _ _)) in
    let waits = press_waits _ _ _ _ p b _ _ c.pressed_at-p.ensures refl in
    let fits = press_in_range _ _ _ a.keyboard.state.now _ _ p b a.keyboard.layout.bytewise a.keyboard.layout.whole _ _ waits in
    let area = forgotten _ (own_area _ b p.stands.area) (forgot_plainly b p.stands.area c.forget_held.ensures) in
    let passes = sym c.holds.ensures ∙ c.if-holds.false in
    let real = sym (c.is_fake.ensures _ _ (key_of _ _)) ∙ c.if-is_fake.false in
    let e = (c.press_event-e.ensures _ c.from_message-n.ensures.1 _).0 in
    λ v. finished _ _ v _ _ _ _ (press_done _ _ v _ _ _ _ waits _ made passes real e) _ area.back
    (c.complete_pending.ensures _ _ _ (λ i. search rules) (same_place _ None _ _ area p.stands) (ap event_fits e ∙ press_fits _ (rw made fits)) p.answers c.put_event.ensures)
