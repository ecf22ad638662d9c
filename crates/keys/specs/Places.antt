-- Places of cases in tao's Key, counted from 0: Character is at 0, Unidentified at 1, Dead at 2, and the keys without a value follow.
-- Assumes nothing.
use Rattle.std.specs.Prelude.{ℕ}

-- the first case without a value
abbrev pub first_named : ℕ
first_named = 3

-- how many cases there are
abbrev pub key_cases : ℕ
key_cases = 308

abbrev pub control : ℕ
control = 6

abbrev pub num_lock : ℕ
num_lock = 9

abbrev pub enter : ℕ
enter = 16

abbrev pub tab : ℕ
tab = 17

abbrev pub space : ℕ
space = 18

abbrev pub backspace : ℕ
backspace = 27

abbrev pub escape : ℕ
escape = 44

abbrev pub pause : ℕ
pause = 48
