-- The sizes of a layout block and the places of its parts, each named once. src/block.rt has the same for the code.
-- Assumes nothing.
use Rattle.std.specs.Prelude.{ℕ}

-- SCOPE 6.3: its own limit, in bytes
abbrev pub BLOCK_MOST : ℕ
BLOCK_MOST = 65536

-- ---- the lists

-- Num Lock on, Num Lock off
abbrev pub LOCK_LISTS : ℕ
LOCK_LISTS = 2

-- a list for each set of modifiers
abbrev pub MODIFIER_SETS : ℕ
MODIFIER_SETS = 16

abbrev pub LISTS : ℕ
LISTS = 18

-- ---- the tables' cells, numbers of two bytes

-- the virtual keys 00 to FF: their non-character keys are the first cells, and their scan codes stand behind these
abbrev pub VKEYS : ℕ
VKEYS = 256

abbrev pub SCANS_FROM : ℕ
SCANS_FROM = 256

-- the scan codes of three pages of 256, with their virtual keys
abbrev pub PAGES : ℕ
PAGES = 768

abbrev pub PAGES_FROM : ℕ
PAGES_FROM = 512

abbrev pub CELLS : ℕ
CELLS = 1280

-- ---- where the parts begin: each list's number of entries, each list's bytes, the cells, the lists

abbrev pub COUNTS_AT : ℕ
COUNTS_AT = 2

abbrev pub SIZES_AT : ℕ
SIZES_AT = 38

abbrev pub CELLS_AT : ℕ
CELLS_AT = 74

abbrev pub HEAD : ℕ
HEAD = 2634

-- ---- an entry

-- its bytes before its text
abbrev pub ENTRY_HEAD : ℕ
ENTRY_HEAD = 16

-- the most bytes of a text
abbrev pub ENTRY_TEXT_MOST : ℕ
ENTRY_TEXT_MOST = 24
