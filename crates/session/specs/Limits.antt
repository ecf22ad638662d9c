-- Limits and sizes, each named once. src/lib.rt has the same for the code.
-- Assumes nothing.
use Rattle.std.specs.Prelude.{ℕ}
use Rattle.lookup.specs.Sizes.{ENTRY_TEXT_MOST}

-- ---- the limits of SCOPE 6.1 to 6.9

-- bytes of the session area and of the answer area
abbrev pub AREA : ℕ
AREA = 65536

-- key-state bytes
abbrev pub KEYS : ℕ
KEYS = 256

-- messages open together
abbrev pub OPEN_MOST : ℕ
OPEN_MOST = 8

-- entries of the queue
abbrev pub ENTRIES_MOST : ℕ
ENTRIES_MOST = 256

-- tokens since the queue was empty
abbrev pub TOKENS_MOST : ℕ
TOKENS_MOST = 4096

-- UTF-16 units of one press
abbrev pub UNITS_MOST : ℕ
UNITS_MOST = 16

-- bytes of a text: of the units of one press, and of a key of a layout
abbrev pub TEXT_MOST : ℕ
TEXT_MOST = 48

abbrev pub KEY_TEXT_MOST : ℕ
KEY_TEXT_MOST = ENTRY_TEXT_MOST

-- the numbers of 16 bits: scan codes, virtual keys, units, tokens in the areas
abbrev pub WORD : ℕ
WORD = 65536

-- ---- sizes of docs/AREAS.md, in bytes

-- what is kept of a press or a release
abbrev pub INFO_SIZE : ℕ
INFO_SIZE = 68

-- what an unresolved entry holds behind its first mark
abbrev pub WAIT_SIZE : ℕ
WAIT_SIZE = 69

-- a held press; the same with the mark that there is one
abbrev pub HELD_SIZE : ℕ
HELD_SIZE = 104

abbrev pub HELD_FIELD_SIZE : ℕ
HELD_FIELD_SIZE = 105

-- an event in an entry
abbrev pub EVENT_SIZE : ℕ
EVENT_SIZE = 196

-- an entry: token, mark, and what it holds
abbrev pub ENTRY_SIZE : ℕ
ENTRY_SIZE = 199

-- where the event of a completed entry begins in it
abbrev pub ENTRY_EVENT_AT : ℕ
ENTRY_EVENT_AT = 3

-- an event in the answer area
abbrev pub ANSWER_EVENT_SIZE : ℕ
ANSWER_EVENT_SIZE = 196

-- ---- places in the session area: the mark of the held press, the press itself, the number of entries, the first entry

abbrev pub HELD_FIELD_AT : ℕ
HELD_FIELD_AT = 2

abbrev pub HELD_AT : ℕ
HELD_AT = 3

abbrev pub COUNT_AT : ℕ
COUNT_AT = 107

abbrev pub ENTRIES_AT : ℕ
ENTRIES_AT = 109

-- ---- the first event in the answer area

abbrev pub ANSWER_EVENTS_AT : ℕ
ANSWER_EVENTS_AT = 2
