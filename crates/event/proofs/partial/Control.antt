-- Which codes are the keys that Control forces; a character is one by its case alone.
-- Assumes nothing.
use Rattle.std.specs.Prelude.{None}
use mathlib.Core.Path.{◌≡◌, refl, sym, ap, ◌∙◌}
use mathlib.Core.Bool.{true}
use mathlib.Core.List.{[]}
use borrow.Author.Tests.{ne_eqb}
use Rattle.area.specs.Look.{assoc}
use Rattle.keys.specs.Text.{FullKey, named, character, unidentified, dead, dead_char, full, bare_of}
use Rattle.keys.specs.declared.key_code.KeyCode.{KeyCode}
use Rattle.keys.specs.declared.key_code.KeyCode.TheVariants.{NumLock, Pause}
use Rattle.keys.specs.Number.{code_number, code_native, codes, code_at}
use Rattle.keys.proofs.key_code.Codes.{code_back}
use Rattle.session.specs.Builder.{code_as_key, is_character}

-- ---- forced_key

at_85 : (c : KeyCode) → code_number c ≡ 85 → c ≡ NumLock
unfolding code_at codes assoc
at_85 c e = sym (code_back c) ∙ ap (λ n. code_at n (code_native c)) e

at_121 : (c : KeyCode) → code_number c ≡ 121 → c ≡ Pause
unfolding code_at codes assoc
at_121 c e = sym (code_back c) ∙ ap (λ n. code_at n (code_native c)) e

pub not_forced : (c : KeyCode) → (c ≡ NumLock → ⊥) → (c ≡ Pause → ⊥) → code_as_key true c ≡ None
unfolding code_as_key assoc code_number
not_forced c n p =
    rw (ne_eqb (code_number c) 85 (λ e. n (at_85 c e)), ne_eqb (code_number c) 121 (λ e. p (at_121 c e))) refl

-- ---- press_mark

pub bare_character : (k : FullKey) → is_character (full (bare_of k) []) ≡ is_character k
unfolding is_character full bare_of
bare_character (named n) = refl
bare_character (character t) = refl
bare_character (unidentified c) = refl
bare_character dead = refl
bare_character (dead_char c) = refl
