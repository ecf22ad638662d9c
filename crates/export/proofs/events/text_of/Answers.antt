use Rattle.std.proofs.Common.{refl, arith}
use Rattle.export.proofs.events.Reading.{text_found}
use Rattle.export.proofs.events.text_of.Goals as goal

pub bounds-event-at : goal.bounds-event-at
bounds-event-at c =
    let t = text_found c.args.answers.now c.args.i c.args.which c.in_ok-event.event.now c.text_place-at.result _ c.in_ok-event.ensures (omega arith) c.text_place-at.ensures refl in omega (arith, t.within)

pub overflow_add-result : goal.overflow_add-result
overflow_add-result c =
    let t = text_found c.args.answers.now c.args.i c.args.which c.in_ok-event.event.now c.text_place-at.result c.from-n.result c.in_ok-event.ensures (omega arith) c.text_place-at.ensures c.from-n.ensures in omega (arith, t.in_event)

pub overflow_add-result-2 : goal.overflow_add-result-2
overflow_add-result-2 c =
    let t = text_found c.args.answers.now c.args.i c.args.which c.in_ok-event.event.now c.text_place-at.result c.from-n.result c.in_ok-event.ensures (omega arith) c.text_place-at.ensures c.from-n.ensures in omega (arith, t.in_event)

pub overflow_add-result-3 : goal.overflow_add-result-3
overflow_add-result-3 c =
    let t = text_found c.args.answers.now c.args.i c.args.which c.in_ok-event.event.now c.text_place-at.result c.from-n.result c.in_ok-event.ensures (omega arith) c.text_place-at.ensures c.from-n.ensures in omega (arith, t.in_event)

pub slice_bounds-result-end : goal.slice_bounds-result-end
slice_bounds-result-end c =
    let t = text_found c.args.answers.now c.args.i c.args.which c.in_ok-event.event.now c.text_place-at.result c.from-n.result c.in_ok-event.ensures (omega arith) c.text_place-at.ensures c.from-n.ensures in omega (arith, t.within)

pub returns-clause-bytes : goal.returns-clause-bytes
returns-clause-bytes c =
    let t = text_found c.args.answers.now c.args.i c.args.which c.in_ok-event.event.now c.text_place-at.result c.from-n.result c.in_ok-event.ensures (omega arith) c.text_place-at.ensures c.from-n.ensures in t.is

pub returns-clause-size : goal.returns-clause-size
returns-clause-size c =
    let t = text_found c.args.answers.now c.args.i c.args.which c.in_ok-event.event.now c.text_place-at.result c.from-n.result c.in_ok-event.ensures (omega arith) c.text_place-at.ensures c.from-n.ensures in t.short
