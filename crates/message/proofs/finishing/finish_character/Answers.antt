-- The last character completes the press that is held then; without one, or with more to come, nothing is completed.
-- Assumes nothing.
use Rattle.std.specs.Prelude.{None}
use Rattle.std.proofs.Common.{◌≡◌, ℕ, ◌<◌, refl, sym, ◌∙◌, arith, rules}
use Rattle.std.proofs.lemmas.Grind.{common_steps}
use mathlib.Core.Bool.{Bool, true, not, ◌&&◌}
use lib.ListN.{get_or}
use Rattle.session.specs.Area.{decode}
use Rattle.session.specs.Calls.{more_coming}
use Rattle.session.specs.Questions.{is_held}
use Rattle.session.proofs.Fits.{char_fits}
use Rattle.record.specs.declared.read.Pending.TheVariants as case
use Rattle.queue.proofs.Areas.{own_area}
use Rattle.queue.proofs.HeldPress.{held_there, held_passes, held_fits_lem, forgotten, unheld, unheld_bytes, unheld_stands}
use Rattle.queue.proofs.Standing.{ready}
use Rattle.event.proofs.focus.Keyboard.{keyboard_at_ok}
use Rattle.message.proofs.finishing.WaitingEntry.{few, character_waits}
use Rattle.message.proofs.finishing.FinishEffect.{held_and_last, char_dropped, char_done, same_place, finished}
use Rattle.message.proofs.finishing.finish_character.Goals as goal

-- what the test says of the press that is held
asked_as : {o v a r : Bool} (m : Bool) → a ≡ o → r ≡ (a && m) → r ≡ v → (o && m) ≡ v
asked_as m e q h = rw (← e) (sym q ∙ h)

pub put_last-requires : goal.put_last-requires
put_last-requires c =
    let p = c.requires in
    let b : (i : ℕ) → get_or c.args.session.now i 0 < 256 = λ i. search rules in
    let r = p.stands.area in
    let ok : is_held (decode c.args.session.now).held ≡ true = grind (arith, common_steps) in
    record { session = r.size; answers = p.answers; few = few case.Character _ _ _ _ p b; ok = held_passes _ r ok }

pub complete_pending-requires : goal.complete_pending-requires
complete_pending-requires c =
    let x = c.args.session.now in
    let p = c.requires in
    let b : (i : ℕ) → get_or x i 0 < 256 = λ i. search rules in
    let r = p.stands.area in
    let stands = same_place x None _ _ (forgotten _ (own_area x b r) refl) p.stands in
    ready _ (unheld_bytes x b r) _ _ stands (unheld_stands x b r _ _ c.put_last.ensures c.forget_held.ensures) p.answers

pub returns-then-completes : goal.returns-then-completes
returns-then-completes c =
    let x = c.args.session.now in
    let p = c.requires in
    let b : (i : ℕ) → get_or x i 0 < 256 = λ i. search rules in
    let r = p.stands.area in
    let last : (is_held (decode x).held && not (more_coming c.args.peeked)) ≡ true =
    grind (arith, common_steps) in
    let both = held_and_last (decode x).held (more_coming c.args.peeked) last in
    let none = forgotten _ (own_area x b r) refl in
    let stands = same_place x None _ _ none p.stands in
    let f = held_fits_lem x r both.0 b in
    let board = keyboard_at_ok _ c.args.keyboard.state.now c.args.keyboard.layout.bytewise c.args.keyboard.layout.whole in
    finished _ _ _ _ _ _ _ (char_done _ _ _ _ _ (character_waits _ _ _ _ p) _ (held_there x r both.0) both.1 refl) _ none.back
    (c.complete_pending.ensures (unheld x b r) _ _ (unheld_bytes x b r) stands (char_fits _ _ _ board f.1 f.0) p.answers
    (unheld_stands x b r _ _ c.put_last.ensures c.forget_held.ensures))

pub returns : goal.returns
returns c =
    finished _ _ _ _ _ _ _
    (char_dropped _ _ _ _ _ (character_waits _ _ _ _ c.requires) (asked_as _ c.header_at-head.ensures.1 c.completes.ensures c.if-completes.false)) _ refl
    c.remove_pending.ensures
