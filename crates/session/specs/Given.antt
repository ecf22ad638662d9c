-- What a call is given beside the two areas. All of it is arbitrary, its sizes too.
-- Assumes nothing.
use Rattle.std.specs.Prelude.{ℕ, List, Option}
use Rattle.session.specs.declared.Message.{Message}

-- SCOPE 2.2: each half also takes the key state, 256 bytes, a layout block and a break table
pub record Inputs : Type 0 where
  pub key_state : List ℕ
  pub block : List ℕ
  pub table : List ℕ

-- SCOPE 2.2: an open takes a message, a finish the token of an open message and the peeked message or its absence
pub data Given : Type 0 where
  brought : Inputs → Message → Given
  finished : Inputs → ℕ → Option Message → Given

abbrev pub inputs_of : Given → Inputs
inputs_of (brought i m) = i
inputs_of (finished i t p) = i

-- message kinds, by Microsoft's names
abbrev pub WM_SETFOCUS : ℕ
WM_SETFOCUS = 0x7

abbrev pub WM_KILLFOCUS : ℕ
WM_KILLFOCUS = 0x8

abbrev pub WM_KEYDOWN : ℕ
WM_KEYDOWN = 0x100

abbrev pub WM_KEYUP : ℕ
WM_KEYUP = 0x101

abbrev pub WM_CHAR : ℕ
WM_CHAR = 0x102

abbrev pub WM_DEADCHAR : ℕ
WM_DEADCHAR = 0x103

abbrev pub WM_SYSKEYDOWN : ℕ
WM_SYSKEYDOWN = 0x104

abbrev pub WM_SYSKEYUP : ℕ
WM_SYSKEYUP = 0x105

abbrev pub WM_SYSCHAR : ℕ
WM_SYSCHAR = 0x106

abbrev pub WM_SYSDEADCHAR : ℕ
WM_SYSDEADCHAR = 0x107

abbrev pub WM_QUIT : ℕ
WM_QUIT = 0x12

abbrev pub VK_F4 : ℕ
VK_F4 = 0x73
