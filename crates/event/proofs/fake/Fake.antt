-- Control is told by its case alone: it has no text.
-- Assumes nothing.
use mathlib.Core.Path.{◌≡◌, refl}
use mathlib.Core.List.{[]}
use Rattle.keys.specs.Text.{FullKey, named, character, unidentified, dead, dead_char, full, bare_of}
use Rattle.session.specs.Builder.{is_control}

pub bare_control : (k : FullKey) → is_control (full (bare_of k) []) ≡ is_control k
unfolding is_control full bare_of
bare_control (named n) = refl
bare_control (character t) = refl
bare_control (unidentified c) = refl
bare_control dead = refl
bare_control (dead_char c) = refl
