-- The lines of a trace as they are written, and that what is read (Form) is exactly that: `M,kind,wparam,lparam`, `F,present,kind,lparam`, `S,vk,byte`,
-- `R,n`, each ended by LF, numbers in lower-case hexadecimal without leading zeros.
-- Assumes nothing.
use Rattle.std.specs.Prelude.{ℕ, ◌+◌, ◌≤◌, ◌<◌, ◌≡◌, List, [], ◌∷◌, ◌++◌, length, drop, Option, Some, IfSome}
use Rattle.trace.specs.Numeral.{numeral}
use Rattle.trace.specs.declared.form.Line.{Line}
use Rattle.trace.specs.declared.form.Line.TheVariants.{Message, Finish, Key, Again}
use Rattle.trace.specs.Form.{comma, lf, bits8, bits32, bits64, line_at}

-- a line, with its LF
unfoldable pub shown : Line → List ℕ
shown (Message kind wparam lparam) =
    77 ∷ comma ∷ numeral 16 kind ++ (comma ∷ numeral 16 wparam ++ (comma ∷ numeral 16 lparam ++ (lf ∷ [])))
shown (Finish present kind lparam) =
    70 ∷ comma ∷ numeral 16 present ++ (comma ∷ numeral 16 kind ++ (comma ∷ numeral 16 lparam ++ (lf ∷ [])))
shown (Key vk byte) = 83 ∷ comma ∷ numeral 16 vk ++ (comma ∷ numeral 16 byte ++ (lf ∷ []))
shown (Again n) = 82 ∷ comma ∷ numeral 16 n ++ (lf ∷ [])

-- its numbers are in their ranges
unfoldable pub Ranged : Line → Type 0
Ranged (Message kind wparam lparam) = (kind ≤ bits32) × (wparam ≤ bits64) × (lparam ≤ bits64)
Ranged (Finish present kind lparam) = (present ≤ 1) × (kind ≤ bits32) × (lparam ≤ bits64)
Ranged (Key vk byte) = (vk ≤ bits8) × (byte ≤ bits8)
Ranged (Again n) = (n ≤ 0x64) × (0 < n)

-- the bytes from a place on begin with the line, and `next` is the place behind it
pub record Stands (x : List ℕ) (at : ℕ) (l : Line) (next : ℕ) : Type 0 where
  pub ranged : Ranged l
  pub place : next ≡ at + length (shown l)
  pub text : drop at x ≡ shown l ++ drop next x

-- a line stands there, where one was read
abbrev pub IfLine : List ℕ → ℕ → Option (Line × ℕ) → Type 0
IfLine x at o = IfSome o (λ r. Stands x at r.0 r.1)

-- over any bytes and at any place, what is read stands there, and what stands there is read
pub record Exact : Type 0 where
  pub sound : (x : List ℕ) (at : ℕ) → IfLine x at (line_at x at)
  pub complete : (x : List ℕ) (at : ℕ) (l : Line) (next : ℕ) → Stands x at l next → line_at x at ≡ Some (l, next)
