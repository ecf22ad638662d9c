-- The forms of a trace's lines, over its bytes. A place past the end reads as 0, which no form has.
-- Assumes nothing.
use Rattle.std.specs.Prelude.{ℕ, ◌+◌, ◌-◌, ◌*◌, List, [], ◌∷◌, Option, Some, None, ltb, leb, eqb, drop, get_or}
use Rattle.area.specs.Pick.{pick}
use Rattle.trace.specs.declared.form.Line.{Line}
use Rattle.trace.specs.declared.form.Line.TheVariants.{Message, Finish, Key, Again}

-- what follows a value, if there is one
infixl 10 ◌>>=◌
abbrev pub ◌>>=◌ : {A B : Type 0} → Option A → (A → Option B) → Option B
None >>= f = None
Some x >>= f = f x

-- the value of a lower-case hexadecimal digit
unfoldable pub digit_of : ℕ → Option ℕ
digit_of b = pick (ltb b 48) None (pick (ltb b 58) (Some (b - 48)) (pick (ltb b 97) None (pick (ltb b 103) (Some (b - 87)) None)))

-- a number, with the place behind it
abbrev pub Number : Type 0
Number = Option (ℕ × ℕ)

-- what follows a digit, or what was there before
abbrev pub on_digit : Option ℕ → Number → (ℕ → Number) → Number
on_digit None before f = before
on_digit (Some d) before f = f d

-- the digits at the head of l, which stands at `at`, behind digits of the value v; no number above top
unfoldable pub digits_from : ℕ → ℕ → ℕ → List ℕ → Number
digits_from top v at [] = Some (v, at)
digits_from top v at (b ∷ bs) =
    on_digit (digit_of b) (Some (v, at)) (λ d. pick (leb (v * 16 + d) top) (digits_from top (v * 16 + d) (at + 1) bs) None)

-- the number at a place: 0 is one digit, and no other number begins with it
unfoldable pub number_at : List ℕ → ℕ → ℕ → Number
number_at x top at = digit_of (get_or x at 0) >>= (λ d. pick (eqb d 0) (Some (0, at + 1)) (digits_from top 0 at (drop at x)))

-- a number and the byte that ends it
unfoldable pub field_at : List ℕ → ℕ → ℕ → ℕ → Number
field_at x top sep at = number_at x top at >>= (λ r. pick (eqb (get_or x r.1 0) sep) (Some (r.0, r.1 + 1)) None)

abbrev pub comma : ℕ
comma = 44

abbrev pub lf : ℕ
lf = 10

abbrev pub bits8 : ℕ
bits8 = 0xff

abbrev pub bits32 : ℕ
bits32 = 0xffffffff

abbrev pub bits64 : ℕ
bits64 = 0xffffffffffffffff

-- behind `M,`: kind, wparam, lparam
unfoldable pub message_at : List ℕ → ℕ → Option (Line × ℕ)
message_at x at = do
  kind ← field_at x bits32 comma at
  wparam ← field_at x bits64 comma kind.1
  lparam ← field_at x bits64 lf wparam.1
  Some (Message kind.0 wparam.0 lparam.0, lparam.1)

-- behind `F,`: present, kind, lparam
unfoldable pub finish_at : List ℕ → ℕ → Option (Line × ℕ)
finish_at x at = do
  present ← field_at x 1 comma at
  kind ← field_at x bits32 comma present.1
  lparam ← field_at x bits64 lf kind.1
  Some (Finish present.0 kind.0 lparam.0, lparam.1)

-- behind `S,`: vk, byte
unfoldable pub key_at : List ℕ → ℕ → Option (Line × ℕ)
key_at x at = do
  vk ← field_at x bits8 comma at
  byte ← field_at x bits8 lf vk.1
  Some (Key vk.0 byte.0, byte.1)

-- behind `R,`: n from 1 to 64
unfoldable pub again_at : List ℕ → ℕ → Option (Line × ℕ)
again_at x at = do
  n ← field_at x 0x64 lf at
  pick (eqb n.0 0) None (Some (Again n.0, n.1))

-- the line at a place
unfoldable pub line_at : List ℕ → ℕ → Option (Line × ℕ)
line_at x at =
    pick (eqb (get_or x (at + 1) 0) comma)
    (pick (eqb (get_or x at 0) 77) (message_at x (at + 2))
    (pick (eqb (get_or x at 0) 70) (finish_at x (at + 2))
    (pick (eqb (get_or x at 0) 83) (key_at x (at + 2))
    (pick (eqb (get_or x at 0) 82) (again_at x (at + 2)) None))))
    None
