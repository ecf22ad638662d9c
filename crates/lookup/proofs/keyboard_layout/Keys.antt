-- The four ways that a key is found, in the order in which get_key asks.
-- Assumes nothing.
use Rattle.std.specs.Prelude.{Some, None}
use mathlib.Core.Path.{◌≡◌, refl, sym, ◌∙◌}
use mathlib.Core.Bool.{Bool, true, false}
use mathlib.Core.List.{List}
use Rattle.std.proofs.Common.{Option, Some, None}
use Rattle.std.specs.Option.{option_or}
use Rattle.area.proofs.Pick.{chosen}
use Prim.Native.Nat.{ℕ, ◌+◌, ◌≤◌, ◌<◌}
use native.Mathlib.Omega.{arith}
use lib.Dec.{eqb}
use lib.ListN.{length, drop}
use Rattle.area.specs.Pick.{pick}
use Rattle.keys.specs.Text.{FullKey, named, unidentified}
use Rattle.keys.specs.declared.NativeKeyCode.TheVariants.{Windows}
use Rattle.keys.specs.declared.key_code.KeyCode.{KeyCode}
use Rattle.keys.specs.CodeKey.{code_key}
use Rattle.lookup.specs.Sizes.{BLOCK_MOST, LOCK_LISTS, LISTS, ENTRY_HEAD}
use Rattle.lookup.specs.Maps.{find, find_code, list_for}
use Rattle.lookup.specs.Block.{item_of, list_at, nonzero, place_in_list, place_for, block_ok, maps_of}
use Rattle.lookup.proofs.block.Passed.{Block, passed}
use Rattle.lookup.proofs.block.Find.{Looked, looked_in, value_at}
use Rattle.lookup.proofs.block.Read.{num-lock-list, code_list}
use Rattle.lookup.specs.Modifiers.{bits_of}
use Rattle.lookup.proofs.keyboard_layout.Sets.{bits_below}
use Rattle.lookup.specs.Layout.{non_char_key, as_named, get_key, key_in, found_at}
use Rattle.lookup.specs.declared.keyboard_layout.WindowsModifiers.{WindowsModifiers}

-- an entry's key is its item's value
found-value : (x : List ℕ) (p : ℕ) → key_in x (found_at x p) ≡ (item_of (drop p x)).value
unfolding found_at
found-value x p = sym (value_at p x)

-- a named key, and none
module _ (k : ℕ) where
  named_some : (n : ℕ) → Some n ≡ nonzero k → Some (named n) ≡ as_named k
  named_some n e = go (eqb k 0) e
    where
      go : (b : Bool) → Some n ≡ pick b None (Some k) → Some (named n) ≡ pick b None (Some (named k))
      go true e = absurd (cc)
      go false e = cc

  named_none : None ≡ nonzero k → as_named k ≡ None
  named_none e = go (eqb k 0) e
    where
      go : (b : Bool) → None ≡ pick b None (Some k) → pick b None (Some (named k)) ≡ None
      go true e = refl
      go false e = absurd (cc)

-- ---- the answer

module _ (x : List ℕ) (e : block_ok x ≡ true) (m : WindowsModifiers) (on : Bool) (vkey scancode : ℕ) (code : KeyCode) where
  abbrev answer : FullKey
  answer = get_key (maps_of x) (bits_of m) on vkey scancode code

  pub by_name : (n : ℕ) → Some n ≡ nonzero (non_char_key (maps_of x) vkey) → named n ≡ answer
  unfolding get_key
  by_name n q = rw (← named_some _ n q)

  b : Block x
  b = passed x e

  -- the places in the Num Lock list and in the list of the modifiers
  abbrev lock : Option ℕ
  lock = place_in_list x (pick on 0 1) vkey

  abbrev coded : Option ℕ
  coded = place_in_list x (LOCK_LISTS + bits_of m) (code_key code)

  lock_below : pick on 0 1 < LISTS
  lock_below = chosen (λ i. i < LISTS) on (omega arith) (omega arith)

  in_lock : Looked x vkey (list_at x (pick on 0 1)) lock
  in_lock = looked_in x (pick on 0 1) vkey b lock_below

  in_coded : Looked x (code_key code) (list_at x (LOCK_LISTS + bits_of m)) coded
  in_coded = let h = bits_below m in looked_in x (LOCK_LISTS + bits_of m) (code_key code) b (omega arith)

  by_number : find_code code (list_for (bits_of m) (maps_of x).keys) ≡ find (code_key code) (list_at x (LOCK_LISTS + bits_of m))
  by_number = code_list x b (bits_of m) (bits_below m) code

  pub list_room : (p : ℕ) → Some p ≡ place_for x (bits_of m) on vkey (code_key code) → (p + ENTRY_HEAD ≤ length x) × (length x ≤ BLOCK_MOST)
  list_room p q = (go lock refl q, b.most)
    where
      go : (o : Option ℕ) → lock ≡ o → Some p ≡ option_or o coded → p + ENTRY_HEAD ≤ length x
      go (Some _) h k = let r = in_lock.room p (h ∙ sym k) in omega arith
      go None h k = let r = in_coded.room p (sym k) in omega arith

  module _ (z : None ≡ nonzero (non_char_key (maps_of x) vkey)) where
    none_named : as_named (non_char_key (maps_of x) vkey) ≡ None
    none_named = named_none _ z

    by_lock : (p : ℕ) → lock ≡ Some p → key_in x (found_at x p) ≡ answer
    unfolding get_key
    by_lock p q = rw (none_named, num-lock-list x on, in_lock.something p q) (found-value x p)

    by_code : (p : ℕ) → lock ≡ None → coded ≡ Some p → key_in x (found_at x p) ≡ answer
    unfolding get_key
    by_code p y q = rw (none_named, num-lock-list x on, in_lock.nothing y, by_number, in_coded.something p q) (found-value x p)

    pub by_list : (p : ℕ) → Some p ≡ place_for x (bits_of m) on vkey (code_key code) → key_in x (found_at x p) ≡ answer
    by_list p q = go lock refl q
      where
        go : (o : Option ℕ) → lock ≡ o → Some p ≡ option_or o coded → key_in x (found_at x p) ≡ answer
        go (Some _) h k = by_lock p (h ∙ sym k)
        go None h k = by_code p h (sym k)

    pub by_none : None ≡ place_for x (bits_of m) on vkey (code_key code) → unidentified (Windows scancode) ≡ answer
    unfolding get_key
    by_none q = go lock refl q
      where
        go : (o : Option ℕ) → lock ≡ o → None ≡ option_or o coded → unidentified (Windows scancode) ≡ answer
        go (Some _) h k = absurd (cc)
        go None h k = rw (none_named, num-lock-list x on, in_lock.nothing h, by_number, in_coded.nothing (sym k))
