-- What the code's sort of a message stands for.
-- Assumes nothing.
use Rattle.session.specs.Calls.{Sort, key_down, key_up, char, dead_char, ignored, focus}
use Rattle.questions.specs.declared.sorts.MessageSort.{MessageSort}
use Rattle.questions.specs.declared.sorts.MessageSort.TheVariants as m

unfoldable pub as_sort : MessageSort → Sort
as_sort m.KeyDown = key_down
as_sort m.KeyUp = key_up
as_sort m.Char = char
as_sort m.DeadChar = dead_char
as_sort (m.Focus st) = focus st
as_sort m.Ignored = ignored
