-- A key and the text beside it against the key with its text inside.
-- Assumes nothing.
use mathlib.Core.Path.{◌≡◌, refl}
use mathlib.Core.List.{List, []}
use Prim.Native.Nat.{ℕ}
use Rattle.keys.specs.Key.{key_number}
use Rattle.keys.specs.Text.{FullKey, named, character, unidentified, dead, dead_char, full, bare_of, text_in}
use Rattle.keys.specs.declared.Key.{Key}
use Rattle.keys.specs.declared.Key.TheVariants.{Named, Character, Unidentified, Dead, DeadChar}

pub full_bare : (f : FullKey) → full (bare_of f) (text_in f) ≡ f
unfolding full bare_of text_in
full_bare (named n) = refl
full_bare (character t) = refl
full_bare (unidentified c) = refl
full_bare dead = refl
full_bare (dead_char c) = refl

pub bare_full : (k : Key) (t : List ℕ) → bare_of (full k t) ≡ k
unfolding full bare_of
bare_full (Named n) t = refl
bare_full Character t = refl
bare_full (Unidentified c) t = refl
bare_full Dead t = refl
bare_full (DeadChar c) t = refl

pub text-character : (t : List ℕ) → text_in (full Character t) ≡ t
unfolding full text_in
text-character t = refl

pub text_empty : (k : Key) → text_in (full k []) ≡ []
unfolding full text_in
text_empty (Named n) = refl
text_empty Character = refl
text_empty (Unidentified c) = refl
text_empty Dead = refl
text_empty (DeadChar c) = refl

-- only a key at place 0 has a text
pub text_none : (f : FullKey) → (key_number (bare_of f) ≡ 0 → ⊥) → text_in f ≡ []
unfolding bare_of text_in key_number
text_none (named n) h = refl
text_none (character t) h = absurd (h refl)
text_none (unidentified c) h = refl
text_none dead h = refl
text_none (dead_char c) h = refl
