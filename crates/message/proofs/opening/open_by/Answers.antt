-- Each sort: what it counts on, and what it gives.
-- Assumes nothing.
use Rattle.std.proofs.Common.{refl, arith}
use Rattle.session.specs.Calls.{message_effect}
use Rattle.session.specs.Answers.{open_said}
use Rattle.queue.proofs.Areas.{own_area}
use Rattle.questions.specs.Sorts.{as_sort}
use Rattle.message.proofs.opening.RoomPassed.{press_room, release_room, dead-char_room, dead-char-held, may_char, focus_fits}
use Rattle.message.proofs.opening.open_by.Goals as goal

pub open_press-requires : goal.open_press-requires
open_press-requires c =
    let p = c.requires in (press_room _ p.0 _ _ _ p.2 c.in-KeyDown.is, p.1)

pub open_release-requires : goal.open_release-requires
open_release-requires c =
    let p = c.requires in (release_room _ p.0 _ _ _ p.2 c.in-KeyUp.is, p.1)

pub open_char-requires : goal.open_char-requires
open_char-requires c =
    let p = c.requires in (may_char _ p.0 _ _ _ p.2 c.in-Char.is, p.1)

pub answer_dead_char-requires : goal.answer_dead_char-requires
answer_dead_char-requires c =
    let p = c.requires in
    let e = c.in-DeadChar.is in
    (dead-char_room _ p.0 _ _ _ p.2 e, dead-char-held _ p.0 _ _ _ p.2 e, p.1)

pub answer_focus-requires : goal.answer_focus-requires
answer_focus-requires c =
    let p = c.requires in (p.0, p.1, focus_fits _ p.0 _ _ _ p.2 _ c.in-Focus.is)

pub returns-in-KeyDown : goal.returns-in-KeyDown
unfolding as_sort message_effect
returns-in-KeyDown c = rw c.in-KeyDown.is c.open_press.ensures

pub returns-in-KeyUp : goal.returns-in-KeyUp
unfolding as_sort message_effect
returns-in-KeyUp c = rw c.in-KeyUp.is c.open_release.ensures

pub returns-in-Char : goal.returns-in-Char
unfolding as_sort message_effect
returns-in-Char c = rw c.in-Char.is c.open_char.ensures

pub returns-in-DeadChar : goal.returns-in-DeadChar
unfolding as_sort message_effect
returns-in-DeadChar c = rw c.in-DeadChar.is c.answer_dead_char.ensures

pub returns-in-Focus : goal.returns-in-Focus
unfolding as_sort message_effect
returns-in-Focus c = rw c.in-Focus.is c.answer_focus.ensures

pub returns-in-Ignored : goal.returns-in-Ignored
unfolding as_sort message_effect open_said
returns-in-Ignored c =
    let p = c.open_none.ensures in
    let area = own_area c.args.session.now (λ i. omega (arith, c.type_inv.session i)) c.requires.0 in
    rw (c.in-Ignored.is, p.0) (record { said = refl; session = area.exact; answers = p.1 })
