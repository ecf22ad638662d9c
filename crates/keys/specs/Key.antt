-- A key as three numbers: its place in tao's Key, and what an unidentified or dead key holds.
-- Assumes nothing.
use Rattle.std.specs.Prelude.{ℕ, Bool, true, false, [], ◌∷◌, eqb, ltb}
use Rattle.area.specs.Pick.{pick}
use Rattle.area.specs.Look.{assoc}
use Rattle.text.specs.Unicode.{scalar}
use Rattle.keys.specs.Places.{first_named, key_cases}
use Rattle.keys.specs.Native.{native_kind, native_value, native_fits, native_ok, native_at}
use Rattle.keys.specs.declared.Key.{Key}
use Rattle.keys.specs.declared.Key.TheVariants.{Named, Character, Unidentified, Dead, DeadChar}

-- a place of tao's Key whose case holds nothing
unfoldable pub named_ok : ℕ → Bool
named_ok n = pick (ltb n first_named) false (ltb n key_cases)

-- the place of the case in tao's Key
unfoldable pub key_number : Key → ℕ
key_number (Named n) = n
key_number Character = 0
key_number (Unidentified c) = 1
key_number Dead = 2
key_number (DeadChar c) = 2

-- what kind of native code it holds, and of a dead key whether it has a character
unfoldable pub key_aux : Key → ℕ
key_aux (Named n) = 0
key_aux Character = 0
key_aux (Unidentified c) = native_kind c
key_aux Dead = 0
key_aux (DeadChar c) = 1

-- the native code's value, or a dead key's character
unfoldable pub key_value : Key → ℕ
key_value (Named n) = 0
key_value Character = 0
key_value (Unidentified c) = native_value c
key_value Dead = 0
key_value (DeadChar c) = c

-- the key is one of tao's: its place is one of a case without a value, its native code and its character are of their Rust types
unfoldable pub key_fits : Key → Bool
key_fits (Named n) = named_ok n
key_fits Character = true
key_fits (Unidentified c) = native_fits c
key_fits Dead = true
key_fits (DeadChar c) = scalar c

-- both are 0
unfoldable pub none_held : ℕ → ℕ → Bool
none_held aux v = pick (eqb aux 0) (eqb v 0) false

-- a dead key without a character, or with one, which is a scalar value
unfoldable pub dead_ok : ℕ → ℕ → Bool
dead_ok aux v = assoc ((0, eqb v 0) ∷ (1, scalar v) ∷ []) false aux

-- some key of tao's has these three numbers
unfoldable pub key_ok : ℕ → ℕ → ℕ → Bool
key_ok n aux v =
    assoc ((0, none_held aux v) ∷ (1, native_ok aux v) ∷ (2, dead_ok aux v) ∷ []) (pick (named_ok n) (none_held aux v) false) n

-- a dead key by its two numbers
unfoldable pub dead_at : ℕ → ℕ → Key
dead_at aux v = assoc ((0, Dead) ∷ []) (DeadChar v) aux

-- the key of three numbers
unfoldable pub key_at : ℕ → ℕ → ℕ → Key
key_at n aux v = assoc ((0, Character) ∷ (1, Unidentified (native_at aux v)) ∷ (2, dead_at aux v) ∷ []) (Named n) n
