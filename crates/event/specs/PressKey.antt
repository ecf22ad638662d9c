-- The logical key of a press that no character message follows (SCOPE 3.6).
-- Assumes nothing.
use Rattle.std.specs.Prelude.{Bool, true, false}
use Rattle.keys.specs.declared.Key.TheVariants.{Unidentified}
use Rattle.keys.specs.declared.NativeKeyCode.TheVariants.{Windows}
use Rattle.lookup.specs.declared.keyboard_layout.LayoutKey.{LayoutKey}
use Rattle.session.specs.declared.PartialKeyEventInfo.{PartialKeyEventInfo}

-- by the mark
abbrev pub press_key : PartialKeyEventInfo → Bool → LayoutKey
press_key n false = n.logical_key
press_key n true = record { key = Unidentified (Windows n.scancode); start = 0; len = 0 }
