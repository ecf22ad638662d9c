-- The lookups in their order, and what is said where none of them finds a key.
-- Assumes nothing.
use Rattle.keys.specs.Text.{full}
use Rattle.lookup.specs.Layout.{bare}
use Rattle.lookup.proofs.keyboard_layout.Keys.{by_name, by_list, list_room, by_none}
use Rattle.lookup.proofs.block.Layout.get_key.Goals as goal

pub returns-in-Some : goal.returns-in-Some
unfolding bare full
returns-in-Some c =
    let a = c.args in
    rw c.bare.ensures (by_name a.self.bytes.now a.self.whole a.mods a.num_lock_on a.vkey a.scancode a.code _ c.in-Some.ensures)

pub found_at-requires : goal.found_at-requires
found_at-requires c =
    let a = c.args in
    list_room a.self.bytes.now a.self.whole a.mods a.num_lock_on a.vkey a.scancode a.code _ (rw c.code_key-key.ensures at c.in-Some-place_for.ensures)

pub returns-in-Some-place_for : goal.returns-in-Some-place_for
returns-in-Some-place_for c =
    let a = c.args in
    rw c.found_at.ensures
    (by_list a.self.bytes.now a.self.whole a.mods a.num_lock_on a.vkey a.scancode a.code c.in_default.ensures _ (rw c.code_key-key.ensures at c.in-Some-place_for.ensures))

pub returns-in-None : goal.returns-in-None
unfolding bare full
returns-in-None c =
    let a = c.args in
    rw c.bare-in-None.ensures
    (by_none a.self.bytes.now a.self.whole a.mods a.num_lock_on a.vkey a.scancode a.code c.in_default.ensures (rw c.code_key-key.ensures at c.in-None.ensures))
