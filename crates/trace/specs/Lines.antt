-- The lines that a replay prints: an event's and a refusal's, each with its LF.
-- Assumes nothing.
use Rattle.std.specs.Prelude.{ℕ, ◌+◌, ◌*◌, ◌/◌, ◌%◌, List, [], ◌∷◌, ◌++◌}
use Rattle.session.specs.Limits.{TEXT_MOST}
use Rattle.trace.specs.Numeral.{glyph, numeral}
use Rattle.trace.specs.Form.{comma, lf}

-- ---- the most bytes that a part takes: room that is asked for, not the width

-- a separator and twenty digits
abbrev pub FIELD_MOST : ℕ
FIELD_MOST = 21

abbrev pub HEAD_MOST : ℕ
HEAD_MOST = 1 + 2 * FIELD_MOST

abbrev pub MARKS_MOST : ℕ
MARKS_MOST = 3 * FIELD_MOST

-- a separator, two digits a byte, LF
abbrev pub TEXT_PART_MOST : ℕ
TEXT_PART_MOST = 2 + 2 * TEXT_MOST

abbrev pub EVENT_LINE_MOST : ℕ
EVENT_LINE_MOST = HEAD_MOST + MARKS_MOST + TEXT_PART_MOST

abbrev pub REFUSAL_LINE_MOST : ℕ
REFUSAL_LINE_MOST = 2 + 2 * FIELD_MOST

-- ---- the lines

-- two digits a byte
unfoldable pub pairs : List ℕ → List ℕ
pairs [] = []
pairs (b ∷ bs) = glyph (b / 16) ∷ glyph (b % 16) ∷ pairs bs

-- a separator and a number
abbrev pub field : ℕ → ℕ → List ℕ
field base v = comma ∷ numeral base v

-- `E`, key and location
unfoldable pub event_head : ℕ → ℕ → List ℕ
event_head key location = (69 ∷ []) ++ (field 16 key ++ field 16 location)

-- state, repeat and synthetic
unfoldable pub event_marks : ℕ → ℕ → ℕ → List ℕ
event_marks state repeat synthetic = field 16 state ++ (field 16 repeat ++ field 16 synthetic)

-- the text and the line's end
unfoldable pub event_text : List ℕ → List ℕ
event_text text = (comma ∷ []) ++ (pairs text ++ (lf ∷ []))

-- `E,key,location,state,repeat,synthetic,text`
unfoldable pub event_line : ℕ → ℕ → ℕ → ℕ → ℕ → List ℕ → List ℕ
event_line key location state repeat synthetic text = event_head key location ++ (event_marks state repeat synthetic ++ event_text text)

-- `X,line,number`, both decimal
unfoldable pub refusal_line : ℕ → ℕ → List ℕ
refusal_line line number = (88 ∷ []) ++ (field 10 line ++ (field 10 number ++ (lf ∷ [])))
