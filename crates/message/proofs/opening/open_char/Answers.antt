-- A character opens with the held press that its units went into.
-- Assumes nothing.
use Rattle.std.proofs.Common.{ℕ, ◌<◌, refl, rules}
use lib.ListN.{get_or}
use Rattle.session.specs.Area.{decode}
use Rattle.queue.proofs.HeldPress.{held_there, held_fits_lem, none-held, one-held}
use Rattle.message.proofs.opening.CharacterOpened.{char_room, char-opened, char_unheld}
use Rattle.message.proofs.opening.open_char.Goals as goal

pub returns-then-not-h : goal.returns-then-not-h
returns-then-not-h c =
    char_unheld c.args.session.now (λ i. search rules) c.requires.0.area _ (none-held _ _ c.header_at-h.ensures.1 c.if-not-h.true) c.open_none.ensures

pub add_units-requires : goal.add_units-requires
add_units-requires c =
    let e = one-held (decode c.args.session.now).held _ c.header_at-h.ensures.1 c.if-not-h.false in
    (c.requires.0.area, e, c.requires.0.units _ (held_there _ c.requires.0.area e))

pub add_character-token-requires : goal.add_character-token-requires
add_character-token-requires c =
    let x = c.args.session.now in
    let p = c.requires.0 in
    let e = one-held (decode x).held _ c.header_at-h.ensures.1 c.if-not-h.false in
    let h = held_there x p.area e in
    let b : (i : ℕ) → get_or x i 0 < 256 = λ i. search rules in
    char_room x b p.area c.args.message.wparam _ _ h refl (held_fits_lem x p.area e b).1 (p.units _ h) c.add_units.ensures (p.entry e) (p.token e)

pub returns : goal.returns
returns c =
    let x = c.args.session.now in
    let p = c.requires.0 in
    let e = one-held (decode x).held _ c.header_at-h.ensures.1 c.if-not-h.false in
    let h = held_there x p.area e in
    let b : (i : ℕ) → get_or x i 0 < 256 = λ i. search rules in
    char-opened x b p.area c.args.message.wparam _ _ h refl (held_fits_lem x p.area e b).1 (p.units _ h) c.add_units.ensures c.args.message refl
    c.add_character-token.ensures c.no_events.ensures
