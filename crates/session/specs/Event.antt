-- A key event and what is kept of one before it is complete: tao's KeyEvent (event.rs) and PartialKeyEventInfo (keyboard.rs).
-- Assumes nothing.
use Rattle.std.specs.Prelude.{ℕ, Bool, List, Option}
use Rattle.keys.specs.Text.{FullKey}
use Rattle.keys.specs.declared.KeyLocation.{KeyLocation}
use Rattle.keys.specs.declared.key_code.KeyCode.{KeyCode}
use Rattle.session.specs.declared.ElementState.{ElementState}

-- KeyEvent, with KeyEventExtra's two fields (the last two) and MessageAsKeyEvent's is_synthetic. Texts are bytes of UTF-8.
pub record Event : Type 0 where
  pub physical_key : KeyCode
  pub logical_key : FullKey
  pub text : Option (List ℕ)
  pub location : KeyLocation
  pub state : ElementState
  pub repeat : Bool
  pub synthetic : Bool
  pub text_with_all_modifiers : Option (List ℕ)
  pub key_without_modifiers : FullKey

-- What PartialKeyEventInfo holds for presses and releases alike. The key code is the scan code's, so it is not kept beside it.
pub record Info : Type 0 where
  pub scancode : ℕ
  pub repeat : Bool
  pub location : KeyLocation
  pub logical_key : FullKey
  pub key_without_modifiers : FullKey

-- A held press. The mark is tao's PartialLogicalKey::TextOr: a typed text may become the logical key.
pub record Held : Type 0 where
  pub info : Info
  pub vkey : ℕ
  pub mark : Bool
  pub units : List ℕ
