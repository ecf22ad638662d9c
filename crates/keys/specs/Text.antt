-- A key with its text inside, as in tao's Key, and the text that it gives.
-- Assumes nothing.
use Rattle.std.specs.Prelude.{ℕ, List, [], ◌∷◌, Option, Some, None}
use Rattle.area.specs.Look.{assoc}
use Rattle.keys.specs.Places.{enter, tab, space, backspace, escape}
use Rattle.keys.specs.declared.NativeKeyCode.{NativeKeyCode}
use Rattle.keys.specs.declared.Key.{Key}
use Rattle.keys.specs.declared.Key.TheVariants.{Named, Character, Unidentified, Dead, DeadChar}
use Rattle.keys.specs.declared.KeyText.{KeyText}
use Rattle.keys.specs.declared.KeyText.TheVariants.{Nothing, Own, Byte}

-- tao's Key: a character holds its text, in UTF-8
pub data FullKey : Type 0 where
  named : ℕ → FullKey
  character : List ℕ → FullKey
  unidentified : NativeKeyCode → FullKey
  dead : FullKey
  dead_char : ℕ → FullKey

-- the key with the text that stands beside it, which only a character has
unfoldable pub full : Key → List ℕ → FullKey
full (Named n) t = named n
full Character t = character t
full (Unidentified c) t = unidentified c
full Dead t = dead
full (DeadChar c) t = dead_char c

-- the key alone
unfoldable pub bare_of : FullKey → Key
bare_of (named n) = Named n
bare_of (character t) = Character
bare_of (unidentified c) = Unidentified c
bare_of dead = Dead
bare_of (dead_char c) = DeadChar c

-- a character's text
unfoldable pub text_in : FullKey → List ℕ
text_in (named n) = []
text_in (character t) = t
text_in (unidentified c) = []
text_in dead = []
text_in (dead_char c) = []

-- SCOPE 5.5, tao's Key::to_text: a character gives its text, and five control keys give one byte
unfoldable pub to_text : FullKey → Option (List ℕ)
to_text (named n) =
    assoc
    ((enter, Some (0x0D ∷ [])) ∷ (backspace, Some (0x08 ∷ [])) ∷ (tab, Some (0x09 ∷ [])) ∷ (space, Some (0x20 ∷ [])) ∷ (escape, Some (0x1B ∷ [])) ∷ [])
    None
    n
to_text (character t) = Some t
to_text (unidentified c) = None
to_text dead = None
to_text (dead_char c) = None

-- the text that an answer of to_text stands for, where a character's own is t
unfoldable pub text_from : List ℕ → KeyText → Option (List ℕ)
text_from t Nothing = None
text_from t Own = Some t
text_from t (Byte b) = Some (b ∷ [])
