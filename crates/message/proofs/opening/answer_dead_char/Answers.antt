-- The held press is completed as it stands, and then none is held.
-- Assumes nothing.
use Rattle.std.specs.Prelude.{None}
use Rattle.std.proofs.Common.{◌≡◌, ℕ, ◌<◌, length, refl, sym, ap, ◌∙◌, arith, rules}
use native.Mathlib.Nat.{add-zero}
use lib.ListN.{get_or}
use Rattle.session.specs.Session.{Session}
use Rattle.session.specs.Area.{decode}
use Rattle.session.proofs.Fits.{dead_fits}
use Rattle.queue.specs.Changed.{holding}
use Rattle.queue.proofs.HeldPress.{held_there, held_passes, held_fits_lem, forgotten, unheld, unheld_bytes, unheld_stands}
use Rattle.queue.proofs.Areas.{own_area}
use Rattle.message.proofs.opening.AnsweredWhole.{dead_room, dead-out, dead_waits}
use Rattle.message.proofs.opening.answer_dead_char.Goals as goal

pub put_dead_event-requires : goal.put_dead_event-requires
put_dead_event-requires c =
    let r = c.requires.0.area in
    record {
      session = r.size;
      answers = c.requires.2;
      few = omega (arith, c.header_at-h.ensures.2, c.requires.0.entry);
      ok = held_passes _ r c.requires.1;
    }

pub returns-then-h-eq0 : goal.returns-then-h-eq0
returns-then-h-eq0 c =
    let x = c.args.session.now in
    let b : (i : ℕ) → get_or x i 0 < 256 = λ i. search rules in
    let r = c.requires.0.area in
    let f = held_fits_lem x r c.requires.1 b in
    let n = c.if-h-eq0.true in
    let s = (unheld_stands x b r _ _ c.put_dead_event.ensures c.forget_held.ensures).first n in
    dead-out x b r _ c.header_at-h.ensures.2 _ (held_there x r c.requires.1) _ refl s.0 n
    (c.one_event.ensures _ _ (dead_fits _ f.1 f.0) c.requires.2 s.1)

pub returns : goal.returns
returns c =
    let x = c.args.session.now in
    let b : (i : ℕ) → get_or x i 0 < 256 = λ i. search rules in
    let p = c.requires.0 in
    let r = p.area in
    let f = held_fits_lem x r c.requires.1 b in
    let h = held_there x r c.requires.1 in
    let n = c.if-h-eq0.false in
    let stood = ((unheld_stands x b r _ _ c.put_dead_event.ensures c.forget_held.ensures).later (λ i. omega (arith, n))).0 in
    let back : decode (unheld x b r) ≡ holding (decode x) None = (forgotten _ (own_area x b r) refl).back in
    let handed = c.header_at-h.ensures.0 ∙ ap (λ (t : Session). t.handed) (sym back) in
    let count = c.header_at-h.ensures.2 ∙ ap (λ (t : Session). length t.entries) (sym back) in
    let room = dead_room x b r _ c.header_at-h.ensures.2 _ h _ refl refl p.entry p.token in
    dead_waits x b r _ c.header_at-h.ensures.2 _ h _ refl refl (λ i. omega (arith, n))
    (c.add_complete.ensures _ _ (unheld_bytes x b r) room (dead_fits _ f.1 f.0) handed count (stood ∙ rw add-zero refl)) c.no_events.ensures
