-- Worked examples with tao 0.37.2's own answers, written by oracle/expected (oracle/README.md, not to be edited). Tokens are counted from
-- tao's last empty queue. Calls that SCOPE 6 refuses were not given to tao: it panics there (5) or has no such limit or test (6 to 11).
-- A finish with WM_QUIT peeked was given to it as one with nothing peeked (SCOPE 3.17).
-- Assumes nothing.
use Rattle.std.specs.Prelude.{ℕ, true, false, List, [], ◌∷◌, Some, None}
use Rattle.keys.specs.Text.{named, character, unidentified, dead, dead_char}
use Rattle.keys.specs.declared.KeyLocation.TheVariants as at
use Rattle.keys.specs.declared.NativeKeyCode.TheVariants as native
use Rattle.keys.specs.declared.key_code.KeyCode.TheVariants as code
use Rattle.lookup.specs.LParam.{key_lparam}
use Rattle.lookup.specs.Maps.{Maps}
use Rattle.session.specs.Session.{press, waiting, fresh_session}
use Rattle.session.specs.Builder.{Keyboard}
use Rattle.session.specs.Calls.{numbered}
use Rattle.session.specs.Answers.{zero_result}
use Rattle.examples.specs.Examples.{Example, bring, finish, refused, answered, lent, cells, times, message, key_event}
use Rattle.session.specs.declared.ElementState.TheVariants.{Pressed, Released}
use Rattle.session.specs.declared.ProcResult.TheVariants.{DefWindowProc, Value}

-- ---- keys by their names in tao's Key

abbrev pub key-Alt : ℕ
key-Alt = 3

abbrev pub key-AltGraph : ℕ
key-AltGraph = 4

abbrev pub key-CapsLock : ℕ
key-CapsLock = 5

abbrev pub key-Control : ℕ
key-Control = 6

abbrev pub key-NumLock : ℕ
key-NumLock = 9

abbrev pub key-Shift : ℕ
key-Shift = 11

abbrev pub key-Enter : ℕ
key-Enter = 16

abbrev pub key-Insert : ℕ
key-Insert = 35

abbrev pub key-Pause : ℕ
key-Pause = 48

abbrev pub key-MediaPlayPause : ℕ
key-MediaPlayPause = 107

abbrev pub key-F4 : ℕ
key-F4 = 276

-- ---- keyboards: layouts with few keys, and what is down or toggled

abbrev pub us_layout : Maps
us_layout =
    record {
      has_alt_graph = false;
      non_char_keys = cells 256 ((0x0D, key-Enter) ∷ (0x11, key-Control) ∷ (0x12, key-Alt) ∷ (0x14, key-CapsLock) ∷ (0x73, key-F4) ∷ (0xA0, key-Shift) ∷ (0xA2, key-Control) ∷ (0xA5, key-Alt) ∷ []);
      scan_codes = cells 256 ((0x03, 0xE046) ∷ (0x0D, 0x1C) ∷ (0x11, 0x1D) ∷ (0x12, 0x38) ∷ (0x14, 0x3A) ∷ (0x31, 0x02) ∷ (0x45, 0x12) ∷ (0x60, 0x52) ∷ (0x73, 0x3E) ∷ (0xA0, 0x2A) ∷ (0xA2, 0x1D) ∷ (0xA5, 0xE038) ∷ []);
      virtual_keys = cells 768 ((0x02, 0x31) ∷ (0x12, 0x45) ∷ (0x1C, 0x0D) ∷ (0x1D, 0xA2) ∷ (0x2A, 0xA0) ∷ (0x38, 0x12) ∷ (0x3A, 0x14) ∷ (0x3E, 0x73) ∷ (0x52, 0x60) ∷ (0x138, 0xA5) ∷ (0x146, 0x03) ∷ []);
      num_lock_on = record { key = 0x60; value = character (0x30 ∷ []) } ∷ [];
      num_lock_off = record { key = 0x60; value = named key-Insert } ∷ [];
      keys = (record { code = code.Digit1; value = character (0x31 ∷ []) } ∷ record { code = code.KeyE; value = character (0x65 ∷ []) } ∷ []) ∷ (record { code = code.Digit1; value = character (0x21 ∷ []) } ∷ record { code = code.KeyE; value = character (0x45 ∷ []) } ∷ []) ∷ [] ∷ [] ∷ [] ∷ [] ∷ [] ∷ [] ∷ (record { code = code.Digit1; value = character (0x31 ∷ []) } ∷ record { code = code.KeyE; value = character (0x45 ∷ []) } ∷ []) ∷ [] ∷ [] ∷ [] ∷ [] ∷ [] ∷ [] ∷ [] ∷ [];
    }

abbrev pub us : Keyboard
us = record { layout = us_layout; key_state = cells 256 [] }

abbrev pub us_control : Keyboard
us_control = record { layout = us_layout; key_state = cells 256 ((0xA2, 0x80) ∷ []) }

abbrev pub us_shift : Keyboard
us_shift = record { layout = us_layout; key_state = cells 256 ((0x10, 0x80) ∷ (0x31, 0x80) ∷ (0xA0, 0x80) ∷ []) }

abbrev pub us_busy : Keyboard
us_busy = record { layout = us_layout; key_state = cells 256 ((0x07, 0x80) ∷ (0x10, 0x80) ∷ (0x14, 0x81) ∷ (0x31, 0x80) ∷ (0x45, 0x80) ∷ (0xA0, 0x80) ∷ (0xA2, 0x80) ∷ []) }

abbrev pub us_num_lock : Keyboard
us_num_lock = record { layout = us_layout; key_state = cells 256 ((0x60, 0x80) ∷ (0x90, 0x01) ∷ []) }

abbrev pub us_cancel : Keyboard
us_cancel = record { layout = us_layout; key_state = cells 256 ((0x03, 0x80) ∷ (0x11, 0x80) ∷ (0xA2, 0x80) ∷ []) }

abbrev pub german_layout : Maps
german_layout =
    record {
      has_alt_graph = true;
      non_char_keys = cells 256 ((0x0D, key-Enter) ∷ (0x11, key-Control) ∷ (0x12, key-Alt) ∷ (0x14, key-CapsLock) ∷ (0x73, key-F4) ∷ (0xA0, key-Shift) ∷ (0xA2, key-Control) ∷ (0xA5, key-Alt) ∷ []);
      scan_codes = cells 256 ((0x03, 0xE046) ∷ (0x0D, 0x1C) ∷ (0x11, 0x1D) ∷ (0x12, 0x38) ∷ (0x14, 0x3A) ∷ (0x31, 0x02) ∷ (0x45, 0x12) ∷ (0x60, 0x52) ∷ (0x73, 0x3E) ∷ (0xA0, 0x2A) ∷ (0xA2, 0x1D) ∷ (0xA5, 0xE038) ∷ (0xDD, 0x0D) ∷ (0xDE, 0x28) ∷ []);
      virtual_keys = cells 768 ((0x02, 0x31) ∷ (0x0D, 0xDD) ∷ (0x12, 0x45) ∷ (0x1C, 0x0D) ∷ (0x1D, 0xA2) ∷ (0x28, 0xDE) ∷ (0x2A, 0xA0) ∷ (0x38, 0x12) ∷ (0x3A, 0x14) ∷ (0x3E, 0x73) ∷ (0x52, 0x60) ∷ (0x138, 0xA5) ∷ (0x146, 0x03) ∷ []);
      num_lock_on = record { key = 0x60; value = character (0x30 ∷ []) } ∷ [];
      num_lock_off = record { key = 0x60; value = named key-Insert } ∷ [];
      keys = (record { code = code.Digit1; value = character (0x31 ∷ []) } ∷ record { code = code.Equal; value = dead_char 0xB4 } ∷ record { code = code.KeyE; value = character (0x65 ∷ []) } ∷ record { code = code.Quote; value = dead } ∷ record { code = code.AltRight; value = named key-AltGraph } ∷ []) ∷ (record { code = code.Digit1; value = character (0x21 ∷ []) } ∷ record { code = code.KeyE; value = character (0x45 ∷ []) } ∷ []) ∷ [] ∷ [] ∷ [] ∷ [] ∷ (record { code = code.KeyE; value = character (0xE2 ∷ 0x82 ∷ 0xAC ∷ []) } ∷ record { code = code.AltRight; value = named key-AltGraph } ∷ []) ∷ [] ∷ (record { code = code.Digit1; value = character (0x31 ∷ []) } ∷ record { code = code.KeyE; value = character (0x45 ∷ []) } ∷ []) ∷ [] ∷ [] ∷ [] ∷ [] ∷ [] ∷ [] ∷ [] ∷ [];
    }

abbrev pub german : Keyboard
german = record { layout = german_layout; key_state = cells 256 [] }

abbrev pub german_alt_gr : Keyboard
german_alt_gr = record { layout = german_layout; key_state = cells 256 ((0xA2, 0x80) ∷ (0xA5, 0x80) ∷ []) }

abbrev pub german_typing : Keyboard
german_typing = record { layout = german_layout; key_state = cells 256 ((0xDD, 0x80) ∷ (0xDE, 0x80) ∷ []) }

abbrev pub odd_layout : Maps
odd_layout =
    record {
      has_alt_graph = false;
      non_char_keys = cells 256 ((0x0D, key-Enter) ∷ (0x12, key-Alt) ∷ (0xB3, key-MediaPlayPause) ∷ []);
      scan_codes = cells 256 ((0x0D, 0xE11C) ∷ (0x12, 0x38) ∷ (0x31, 0x02) ∷ (0xB3, 0xE022) ∷ []);
      virtual_keys = cells 768 ((0x02, 0x31) ∷ (0x38, 0x12) ∷ (0x122, 0xB3) ∷ (0x21C, 0x0D) ∷ []);
      num_lock_on = [];
      num_lock_off = record { key = 0x12; value = character (0x6D ∷ []) } ∷ record { key = 0x31; value = unidentified (native.Windows 0x7F) } ∷ [];
      keys = (record { code = code.Unidentified (native.Windows 0x7F); value = character (0xC3 ∷ 0x9F ∷ []) } ∷ record { code = code.Digit1; value = character (0x31 ∷ []) } ∷ []) ∷ [] ∷ [] ∷ [] ∷ [] ∷ [] ∷ [] ∷ [] ∷ [] ∷ [] ∷ [] ∷ [] ∷ [] ∷ [] ∷ [] ∷ [] ∷ [];
    }

abbrev pub odd : Keyboard
odd = record { layout = odd_layout; key_state = cells 256 [] }

abbrev pub moved_layout : Maps
moved_layout =
    record {
      has_alt_graph = false;
      non_char_keys = cells 256 ((0xB3, key-MediaPlayPause) ∷ []);
      scan_codes = cells 256 ((0xB3, 0xE024) ∷ []);
      virtual_keys = cells 768 ((0x124, 0x60) ∷ []);
      num_lock_on = [];
      num_lock_off = [];
      keys = [] ∷ [] ∷ [] ∷ [] ∷ [] ∷ [] ∷ [] ∷ [] ∷ [] ∷ [] ∷ [] ∷ [] ∷ [] ∷ [] ∷ [] ∷ [] ∷ [];
    }

abbrev pub moved : Keyboard
moved = record { layout = moved_layout; key_state = cells 256 [] }

-- ---- break tables, as their bytes (docs/AREAS.md)

-- most calls bring this one: LF and CR, 0300 to 036F, 094D and 1F3FB to 1F3FF (Extend), 0600 to 0605 (Prepend), 0903 (SpacingMark),
-- the parts of Hangul syllables (L, V, T) and AC00 (LV), 200D (ZWJ), 1F1E6 to 1F1FF (regional indicators), 1F466 to 1F469 (pictographs)
abbrev pub table : List ℕ
table =
    0x00 ∷ 0x00 ∷ 0x00 ∷ 0x00 ∷ 0x0E ∷ 0x00 ∷ 0x00 ∷ 0x00 ∷ 0x0A ∷ 0x00 ∷ 0x00 ∷ 0x00 ∷ 0x0D ∷ 0x00 ∷ 0x00 ∷ 0x00 ∷
    0x00 ∷ 0x03 ∷ 0x00 ∷ 0x00 ∷ 0x00 ∷ 0x06 ∷ 0x00 ∷ 0x00 ∷ 0x03 ∷ 0x09 ∷ 0x00 ∷ 0x00 ∷ 0x4D ∷ 0x09 ∷ 0x00 ∷ 0x00 ∷
    0x00 ∷ 0x11 ∷ 0x00 ∷ 0x00 ∷ 0x60 ∷ 0x11 ∷ 0x00 ∷ 0x00 ∷ 0xA8 ∷ 0x11 ∷ 0x00 ∷ 0x00 ∷ 0x0D ∷ 0x20 ∷ 0x00 ∷ 0x00 ∷
    0x00 ∷ 0xAC ∷ 0x00 ∷ 0x00 ∷ 0xE6 ∷ 0xF1 ∷ 0x01 ∷ 0x00 ∷ 0xFB ∷ 0xF3 ∷ 0x01 ∷ 0x00 ∷ 0x66 ∷ 0xF4 ∷ 0x01 ∷ 0x00 ∷
    0x0A ∷ 0x00 ∷ 0x00 ∷ 0x00 ∷ 0x0D ∷ 0x00 ∷ 0x00 ∷ 0x00 ∷ 0x6F ∷ 0x03 ∷ 0x00 ∷ 0x00 ∷ 0x05 ∷ 0x06 ∷ 0x00 ∷ 0x00 ∷
    0x03 ∷ 0x09 ∷ 0x00 ∷ 0x00 ∷ 0x4D ∷ 0x09 ∷ 0x00 ∷ 0x00 ∷ 0x5F ∷ 0x11 ∷ 0x00 ∷ 0x00 ∷ 0xA7 ∷ 0x11 ∷ 0x00 ∷ 0x00 ∷
    0xFF ∷ 0x11 ∷ 0x00 ∷ 0x00 ∷ 0x0D ∷ 0x20 ∷ 0x00 ∷ 0x00 ∷ 0x00 ∷ 0xAC ∷ 0x00 ∷ 0x00 ∷ 0xFF ∷ 0xF1 ∷ 0x01 ∷ 0x00 ∷
    0xFF ∷ 0xF3 ∷ 0x01 ∷ 0x00 ∷ 0x69 ∷ 0xF4 ∷ 0x01 ∷ 0x00 ∷ 0x02 ∷ 0x01 ∷ 0x04 ∷ 0x07 ∷ 0x08 ∷ 0x04 ∷ 0x09 ∷ 0x0A ∷
    0x0B ∷ 0x05 ∷ 0x0C ∷ 0x06 ∷ 0x04 ∷ 0x10 ∷ []

-- no ranges: every scalar value has class Other
abbrev pub no_ranges : List ℕ
no_ranges = 0x00 ∷ 0x00 ∷ 0x00 ∷ 0x00 ∷ 0x00 ∷ 0x00 ∷ 0x00 ∷ 0x00 ∷ []

-- no bytes at all, so no table
abbrev pub no_bytes : List ℕ
no_bytes = []

-- no table: both ranges have 0D
abbrev pub touching : List ℕ
touching =
    0x00 ∷ 0x00 ∷ 0x00 ∷ 0x00 ∷ 0x02 ∷ 0x00 ∷ 0x00 ∷ 0x00 ∷ 0x0A ∷ 0x00 ∷ 0x00 ∷ 0x00 ∷ 0x0D ∷ 0x00 ∷ 0x00 ∷ 0x00 ∷
    0x0D ∷ 0x00 ∷ 0x00 ∷ 0x00 ∷ 0x0D ∷ 0x00 ∷ 0x00 ∷ 0x00 ∷ 0x02 ∷ 0x01 ∷ []

-- no table: there is no such class
abbrev pub class_14 : List ℕ
class_14 =
    0x00 ∷ 0x00 ∷ 0x00 ∷ 0x00 ∷ 0x01 ∷ 0x00 ∷ 0x00 ∷ 0x00 ∷ 0x0D ∷ 0x00 ∷ 0x00 ∷ 0x00 ∷ 0x0D ∷ 0x00 ∷ 0x00 ∷ 0x00 ∷
    0x0E ∷ []

-- ---- the examples

-- a digit from the scanner: press, character, release
abbrev pub digit : Example
digit =
    record {
      start = fresh_session;
      calls =
          (bring us table (message 0x100 0x31 0x20001), answered (Some 0) (Value zero_result) []) ∷
          (finish us table 0 (Some (message 0x102 0x31 0x20001)), answered None lent []) ∷
          (bring us table (message 0x102 0x31 0x20001), answered (Some 0) (Value zero_result) []) ∷
          (finish us table 0 None, answered None lent (key_event code.Digit1 (character (0x31 ∷ [])) (Some (0x31 ∷ [])) at.Standard Pressed false false (Some (0x31 ∷ [])) (character (0x31 ∷ [])) ∷ [])) ∷
          (bring us table (message 0x101 0x31 0xC0020001), answered (Some 0) (Value zero_result) []) ∷
          (finish us table 0 None, answered None lent (key_event code.Digit1 (character (0x31 ∷ [])) None at.Standard Released false false None (character (0x31 ∷ [])) ∷ [])) ∷
          [];
    }

-- a surrogate pair in two character messages is one text
abbrev pub surrogate_pair : Example
surrogate_pair =
    record {
      start = fresh_session;
      calls =
          (bring us table (message 0x100 0x31 0x20001), answered (Some 0) (Value zero_result) []) ∷
          (finish us table 0 (Some (message 0x102 0x31 0x20001)), answered None lent []) ∷
          (bring us table (message 0x102 0xD83D 0x20001), answered (Some 0) (Value zero_result) []) ∷
          (finish us table 0 (Some (message 0x102 0x31 0x20001)), answered None lent []) ∷
          (bring us table (message 0x102 0xDE00 0x20001), answered (Some 0) (Value zero_result) []) ∷
          (finish us table 0 None, answered None lent (key_event code.Digit1 (character (0xF0 ∷ 0x9F ∷ 0x98 ∷ 0x80 ∷ [])) (Some (0xF0 ∷ 0x9F ∷ 0x98 ∷ 0x80 ∷ [])) at.Standard Pressed false false (Some (0xF0 ∷ 0x9F ∷ 0x98 ∷ 0x80 ∷ [])) (character (0x31 ∷ [])) ∷ [])) ∷
          [];
    }

-- a dead key, then a letter that it joins
abbrev pub dead_key_and_letter : Example
dead_key_and_letter =
    record {
      start = fresh_session;
      calls =
          (bring german table (message 0x100 0xDD 0xD0001), answered (Some 0) (Value zero_result) []) ∷
          (finish german table 0 (Some (message 0x103 0xB4 0xD0001)), answered None lent []) ∷
          (bring german table (message 0x103 0xB4 0xD0001), answered None (Value zero_result) (key_event code.Equal (dead_char 0xB4) None at.Standard Pressed false false None (character (0xC2 ∷ 0xB4 ∷ [])) ∷ [])) ∷
          (bring german table (message 0x101 0xDD 0xC00D0001), answered (Some 0) (Value zero_result) []) ∷
          (finish german table 0 None, answered None lent (key_event code.Equal (dead_char 0xB4) None at.Standard Released false false None (character (0xC2 ∷ 0xB4 ∷ [])) ∷ [])) ∷
          (bring german table (message 0x100 0x45 0x120001), answered (Some 0) (Value zero_result) []) ∷
          (finish german table 0 (Some (message 0x102 0x31 0x20001)), answered None lent []) ∷
          (bring german table (message 0x102 0xE9 0x20001), answered (Some 0) (Value zero_result) []) ∷
          (finish german table 0 None, answered None lent (key_event code.KeyE (character (0xC3 ∷ 0xA9 ∷ [])) (Some (0xC3 ∷ 0xA9 ∷ [])) at.Standard Pressed false false (Some (0xC3 ∷ 0xA9 ∷ [])) (character (0x65 ∷ [])) ∷ [])) ∷
          [];
    }

-- AltGr: the Control that Windows adds before it is fake, pressed and released
abbrev pub alt_gr : Example
alt_gr =
    record {
      start = fresh_session;
      calls =
          (bring german_alt_gr table (message 0x100 0x11 0x1D0001), answered (Some 0) (Value zero_result) []) ∷
          (finish german_alt_gr table 0 (Some (message 0x100 0x12 0x1380001)), answered None lent []) ∷
          (bring german_alt_gr table (message 0x100 0x12 0x1380001), answered (Some 0) (Value zero_result) []) ∷
          (finish german_alt_gr table 0 None, answered None lent (key_event code.AltRight (named key-AltGraph) None at.Right Pressed false false None (named key-AltGraph) ∷ [])) ∷
          (bring german_alt_gr table (message 0x105 0x11 0xE01D0001), answered (Some 0) (Value zero_result) []) ∷
          (finish german_alt_gr table 0 (Some (message 0x101 0x12 0xC1380001)), answered None lent []) ∷
          (bring german table (message 0x101 0x12 0xC1380001), answered (Some 0) (Value zero_result) []) ∷
          (finish german table 0 None, answered None lent (key_event code.AltRight (named key-AltGraph) None at.Right Released false false None (named key-AltGraph) ∷ [])) ∷
          [];
    }

-- focus lost and gained while a press peeks: all come out at its finish, the press first
abbrev pub focus_inside : Example
focus_inside =
    record {
      start = fresh_session;
      calls =
          (bring us table (message 0x100 0x31 0x20001), answered (Some 0) (Value zero_result) []) ∷
          (bring us_busy table (message 0x08 0x00 0x00), answered None lent []) ∷
          (bring us_busy table (message 0x07 0x00 0x00), answered None lent []) ∷
          (finish us table 0 None, answered None lent (key_event code.Digit1 (unidentified (native.Windows 0x02)) None at.Standard Pressed false false None (character (0x31 ∷ [])) ∷ key_event code.CapsLock (named key-CapsLock) None at.Standard Released false true None (named key-CapsLock) ∷ key_event code.ControlLeft (named key-Control) None at.Left Released false true None (named key-Control) ∷ key_event code.ShiftLeft (named key-Shift) None at.Left Released false true None (named key-Shift) ∷ key_event code.Digit1 (character (0x31 ∷ [])) None at.Standard Released false true None (character (0x31 ∷ [])) ∷ key_event code.KeyE (character (0x45 ∷ [])) None at.Standard Released false true None (character (0x65 ∷ [])) ∷ key_event code.CapsLock (named key-CapsLock) None at.Standard Pressed false true None (named key-CapsLock) ∷ key_event code.Digit1 (character (0x31 ∷ [])) (Some (0x31 ∷ [])) at.Standard Pressed false true (Some (0x31 ∷ [])) (character (0x31 ∷ [])) ∷ key_event code.KeyE (character (0x45 ∷ [])) (Some (0x45 ∷ [])) at.Standard Pressed false true (Some (0x45 ∷ [])) (character (0x65 ∷ [])) ∷ key_event code.ControlLeft (named key-Control) None at.Left Pressed false true None (named key-Control) ∷ key_event code.ShiftLeft (named key-Shift) None at.Left Pressed false true None (named key-Shift) ∷ [])) ∷
          [];
    }

-- a peeked WM_QUIT counts as nothing peeked: the press comes out, also the Control that an AltGr message would make fake; 10012 is another kind, so the press is held
abbrev pub quit_behind_press : Example
quit_behind_press =
    record {
      start = fresh_session;
      calls =
          (bring us table (message 0x100 0x31 0x20001), answered (Some 0) (Value zero_result) []) ∷
          (finish us table 0 (Some (message 0x12 0x00 0x00)), answered None lent (key_event code.Digit1 (unidentified (native.Windows 0x02)) None at.Standard Pressed false false None (character (0x31 ∷ [])) ∷ [])) ∷
          (bring german_alt_gr table (message 0x100 0x11 0x1D0001), answered (Some 0) (Value zero_result) []) ∷
          (finish german_alt_gr table 0 (Some (message 0x12 0x12 0x1380001)), answered None lent (key_event code.ControlLeft (named key-Control) None at.Left Pressed false false None (named key-Control) ∷ [])) ∷
          (bring us table (message 0x100 0x31 0x20001), answered (Some 0) (Value zero_result) []) ∷
          (finish us table 0 (Some (message 0x10012 0x00 0x00)), answered None lent []) ∷
          (bring us table (message 0x103 0xB4 0xD0001), answered None (Value zero_result) (key_event code.Digit1 (unidentified (native.Windows 0x02)) None at.Standard Pressed false false None (character (0x31 ∷ [])) ∷ [])) ∷
          [];
    }

-- a release with WM_QUIT peeked is written: its fake test sees nothing either; with 10012 it is fake
abbrev pub quit_behind_release : Example
quit_behind_release =
    record {
      start = fresh_session;
      calls =
          (bring german_alt_gr table (message 0x101 0x11 0xC01D0001), answered (Some 0) (Value zero_result) []) ∷
          (finish german_alt_gr table 0 (Some (message 0x12 0x12 0x1380001)), answered None lent (key_event code.ControlLeft (named key-Control) None at.Left Released false false None (named key-Control) ∷ [])) ∷
          (bring german_alt_gr table (message 0x101 0x11 0xC01D0001), answered (Some 0) (Value zero_result) []) ∷
          (finish german_alt_gr table 0 (Some (message 0x10012 0x12 0x1380001)), answered None lent []) ∷
          [];
    }

-- a character with WM_QUIT peeked is the last one, inside a press that is still open too
abbrev pub quit_behind_character : Example
quit_behind_character =
    record {
      start = fresh_session;
      calls =
          (bring us table (message 0x100 0x31 0x20001), answered (Some 0) (Value zero_result) []) ∷
          (finish us table 0 (Some (message 0x102 0x31 0x20001)), answered None lent []) ∷
          (bring us table (message 0x102 0x31 0x20001), answered (Some 0) (Value zero_result) []) ∷
          (finish us table 0 (Some (message 0x12 0x102 0x20001)), answered None lent (key_event code.Digit1 (character (0x31 ∷ [])) (Some (0x31 ∷ [])) at.Standard Pressed false false (Some (0x31 ∷ [])) (character (0x31 ∷ [])) ∷ [])) ∷
          (bring us table (message 0x100 0x0D 0x1C0001), answered (Some 0) (Value zero_result) []) ∷
          (bring us table (message 0x100 0x31 0x20001), answered (Some 1) (Value zero_result) []) ∷
          (finish us table 1 (Some (message 0x102 0x31 0x20001)), answered None lent []) ∷
          (bring us table (message 0x102 0x31 0x20001), answered (Some 2) (Value zero_result) []) ∷
          (finish us table 2 (Some (message 0x12 0x00 0x00)), answered None lent []) ∷
          (finish us table 0 (Some (message 0x12 0x00 0x00)), answered None lent (key_event code.Enter (named key-Enter) None at.Standard Pressed false false None (named key-Enter) ∷ key_event code.Digit1 (character (0x31 ∷ [])) (Some (0x31 ∷ [])) at.Standard Pressed false false (Some (0x31 ∷ [])) (character (0x31 ∷ [])) ∷ [])) ∷
          [];
    }

-- a typed character becomes the logical key only of a key whose layout answer is a character
abbrev pub enter : Example
enter =
    record {
      start = fresh_session;
      calls =
          (bring us table (message 0x100 0x0D 0x1C0001), answered (Some 0) (Value zero_result) []) ∷
          (finish us table 0 (Some (message 0x102 0x31 0x20001)), answered None lent []) ∷
          (bring us table (message 0x102 0x0D 0x20001), answered (Some 0) (Value zero_result) []) ∷
          (finish us table 0 None, answered None lent (key_event code.Enter (named key-Enter) (Some (0x0D ∷ [])) at.Standard Pressed false false (Some (0x0D ∷ [])) (named key-Enter) ∷ [])) ∷
          [];
    }

-- a dead key that text follows stays dead
abbrev pub dead_key_and_text : Example
dead_key_and_text =
    record {
      start = fresh_session;
      calls =
          (bring german table (message 0x100 0xDD 0xD0001), answered (Some 0) (Value zero_result) []) ∷
          (finish german table 0 (Some (message 0x102 0x31 0x20001)), answered None lent []) ∷
          (bring german table (message 0x102 0x27 0x20001), answered (Some 0) (Value zero_result) []) ∷
          (finish german table 0 None, answered None lent (key_event code.Equal (dead_char 0xB4) (Some (0x27 ∷ [])) at.Standard Pressed false false (Some (0x27 ∷ [])) (character (0xC2 ∷ 0xB4 ∷ [])) ∷ [])) ∷
          [];
    }

-- Control at the press's finish only: the layout's key stands, the text is the typed one
abbrev pub control_at_press : Example
control_at_press =
    record {
      start = fresh_session;
      calls =
          (bring us table (message 0x100 0x31 0x20001), answered (Some 0) (Value zero_result) []) ∷
          (finish us_control table 0 (Some (message 0x102 0x31 0x20001)), answered None lent []) ∷
          (bring us table (message 0x102 0x78 0x20001), answered (Some 0) (Value zero_result) []) ∷
          (finish us table 0 None, answered None lent (key_event code.Digit1 (character (0x31 ∷ [])) (Some (0x78 ∷ [])) at.Standard Pressed false false (Some (0x78 ∷ [])) (character (0x31 ∷ [])) ∷ [])) ∷
          [];
    }

-- Control at the last character's finish only: the text is the layout's
abbrev pub control_at_character : Example
control_at_character =
    record {
      start = fresh_session;
      calls =
          (bring us table (message 0x100 0x31 0x20001), answered (Some 0) (Value zero_result) []) ∷
          (finish us table 0 (Some (message 0x102 0x31 0x20001)), answered None lent []) ∷
          (bring us table (message 0x102 0x11 0x20001), answered (Some 0) (Value zero_result) []) ∷
          (finish us_control table 0 None, answered None lent (key_event code.Digit1 (character (0x31 ∷ [])) (Some (0x31 ∷ [])) at.Standard Pressed false false (Some (0x11 ∷ [])) (character (0x31 ∷ [])) ∷ [])) ∷
          [];
    }

-- 'unless Control was on' at a press is the bare Control bit, whatever Alt and the AltGr flag say
abbrev pub bare_control : Example
bare_control =
    record {
      start = fresh_session;
      calls =
          (bring german table (message 0x100 0x45 0x120001), answered (Some 0) (Value zero_result) []) ∷
          (finish german_alt_gr table 0 None, answered None lent (key_event code.KeyE (character (0xE2 ∷ 0x82 ∷ 0xAC ∷ [])) None at.Standard Pressed false false None (character (0x65 ∷ [])) ∷ [])) ∷
          [];
    }

-- Control with Alt does not count at the last character on an AltGr layout: the typed text stands
abbrev pub alt_gr_text : Example
alt_gr_text =
    record {
      start = fresh_session;
      calls =
          (bring german_alt_gr table (message 0x100 0x45 0x120001), answered (Some 0) (Value zero_result) []) ∷
          (finish german_alt_gr table 0 (Some (message 0x102 0x31 0x20001)), answered None lent []) ∷
          (bring german_alt_gr table (message 0x102 0xE9 0x20001), answered (Some 0) (Value zero_result) []) ∷
          (finish german_alt_gr table 0 None, answered None lent (key_event code.KeyE (character (0xE2 ∷ 0x82 ∷ 0xAC ∷ [])) (Some (0xC3 ∷ 0xA9 ∷ [])) at.Standard Pressed false false (Some (0xC3 ∷ 0xA9 ∷ [])) (character (0x65 ∷ [])) ∷ [])) ∷
          [];
    }

-- a unit without its pair is no text, so the key is unidentified with its scan code
abbrev pub unpaired : Example
unpaired =
    record {
      start = fresh_session;
      calls =
          (bring us table (message 0x100 0x31 0x20001), answered (Some 0) (Value zero_result) []) ∷
          (finish us table 0 (Some (message 0x102 0x31 0x20001)), answered None lent []) ∷
          (bring us table (message 0x102 0xD83D 0x20001), answered (Some 0) (Value zero_result) []) ∷
          (finish us table 0 None, answered None lent (key_event code.Digit1 (unidentified (native.Windows 0x02)) None at.Standard Pressed false false None (character (0x31 ∷ [])) ∷ [])) ∷
          [];
    }

-- a unit without its pair leaves no text at all, of the letter before it neither
abbrev pub unpaired_behind_letter : Example
unpaired_behind_letter =
    record {
      start = fresh_session;
      calls =
          (bring us table (message 0x100 0x31 0x20001), answered (Some 0) (Value zero_result) []) ∷
          (finish us table 0 (Some (message 0x102 0x31 0x20001)), answered None lent []) ∷
          (bring us table (message 0x102 0x61 0x20001), answered (Some 0) (Value zero_result) []) ∷
          (finish us table 0 (Some (message 0x102 0x31 0x20001)), answered None lent []) ∷
          (bring us table (message 0x102 0xD83D 0x20001), answered (Some 0) (Value zero_result) []) ∷
          (finish us table 0 None, answered None lent (key_event code.Digit1 (unidentified (native.Windows 0x02)) None at.Standard Pressed false false None (character (0x31 ∷ [])) ∷ [])) ∷
          [];
    }

-- a dead character behind typed units: they are only the text with all modifiers
abbrev pub dead_character_behind_text : Example
dead_character_behind_text =
    record {
      start = fresh_session;
      calls =
          (bring us table (message 0x100 0x31 0x20001), answered (Some 0) (Value zero_result) []) ∷
          (finish us table 0 (Some (message 0x102 0x31 0x20001)), answered None lent []) ∷
          (bring us table (message 0x102 0x61 0x20001), answered (Some 0) (Value zero_result) []) ∷
          (finish us table 0 (Some (message 0x102 0x31 0x20001)), answered None lent []) ∷
          (bring us table (message 0x103 0xB4 0xD0001), answered None (Value zero_result) (key_event code.Digit1 (unidentified (native.Windows 0x02)) None at.Standard Pressed false false (Some (0x61 ∷ [])) (character (0x31 ∷ [])) ∷ [])) ∷
          [];
    }

-- a dead key that has no character: without modifiers unidentified, with no native code
abbrev pub dead_without_character : Example
dead_without_character =
    record {
      start = fresh_session;
      calls =
          (bring german table (message 0x100 0xDE 0x280001), answered (Some 0) (Value zero_result) []) ∷
          (finish german table 0 None, answered None lent (key_event code.Quote dead None at.Standard Pressed false false None (unidentified native.Unidentified) ∷ [])) ∷
          [];
    }

-- a dead key without modifiers stays dead in a focus event
abbrev pub dead_at_focus : Example
dead_at_focus =
    record {
      start = fresh_session;
      calls =
          (bring german_typing table (message 0x07 0x00 0x00), answered None lent (key_event code.Equal (dead_char 0xB4) None at.Standard Pressed false true None (dead_char 0xB4) ∷ key_event code.Quote dead None at.Standard Pressed false true None dead ∷ [])) ∷
          [];
    }

-- a character key without text is unidentified with its scan code, found by the virtual key where it is 00
abbrev pub no_text : Example
no_text =
    record {
      start = fresh_session;
      calls =
          (bring us table (message 0x100 0x31 0x20001), answered (Some 0) (Value zero_result) []) ∷
          (finish us table 0 None, answered None lent (key_event code.Digit1 (unidentified (native.Windows 0x02)) None at.Standard Pressed false false None (character (0x31 ∷ [])) ∷ [])) ∷
          (bring us table (message 0x100 0x31 0x01), answered (Some 0) (Value zero_result) []) ∷
          (finish us table 0 None, answered None lent (key_event code.Digit1 (unidentified (native.Windows 0x02)) None at.Standard Pressed false false None (character (0x31 ∷ [])) ∷ [])) ∷
          [];
    }

-- an unidentified key in a list ends the search and keeps its own native code
abbrev pub listed_unidentified : Example
listed_unidentified =
    record {
      start = fresh_session;
      calls =
          (bring odd table (message 0x100 0x31 0x20001), answered (Some 0) (Value zero_result) []) ∷
          (finish odd table 0 None, answered None lent (key_event code.Digit1 (unidentified (native.Windows 0x7F)) None at.Standard Pressed false false None (unidentified (native.Windows 0x7F)) ∷ [])) ∷
          [];
    }

-- a release has no texts; its logical key is the layout's
abbrev pub release_key : Example
release_key =
    record {
      start = fresh_session;
      calls =
          (bring us_shift table (message 0x101 0x31 0xC0020001), answered (Some 0) (Value zero_result) []) ∷
          (finish us_shift table 0 None, answered None lent (key_event code.Digit1 (character (0x21 ∷ [])) None at.Standard Released false false None (character (0x31 ∷ [])) ∷ [])) ∷
          [];
    }

-- a focus event knows the Caps Lock toggle and not Shift; Caps Lock is first, keys without scan code are passed over
abbrev pub toggles_at_focus : Example
toggles_at_focus =
    record {
      start = fresh_session;
      calls =
          (bring us_shift table (message 0x07 0x00 0x00), answered None lent (key_event code.Digit1 (character (0x31 ∷ [])) (Some (0x31 ∷ [])) at.Standard Pressed false true (Some (0x31 ∷ [])) (character (0x31 ∷ [])) ∷ key_event code.ShiftLeft (named key-Shift) None at.Left Pressed false true None (named key-Shift) ∷ [])) ∷
          (bring us_busy table (message 0x07 0x00 0x00), answered None lent (key_event code.CapsLock (named key-CapsLock) None at.Standard Pressed false true None (named key-CapsLock) ∷ key_event code.Digit1 (character (0x31 ∷ [])) (Some (0x31 ∷ [])) at.Standard Pressed false true (Some (0x31 ∷ [])) (character (0x31 ∷ [])) ∷ key_event code.KeyE (character (0x45 ∷ [])) (Some (0x45 ∷ [])) at.Standard Pressed false true (Some (0x45 ∷ [])) (character (0x65 ∷ [])) ∷ key_event code.ControlLeft (named key-Control) None at.Left Pressed false true None (named key-Control) ∷ key_event code.ShiftLeft (named key-Shift) None at.Left Pressed false true None (named key-Shift) ∷ [])) ∷
          (bring us_busy table (message 0x08 0x00 0x00), answered None lent (key_event code.CapsLock (named key-CapsLock) None at.Standard Released false true None (named key-CapsLock) ∷ key_event code.ControlLeft (named key-Control) None at.Left Released false true None (named key-Control) ∷ key_event code.ShiftLeft (named key-Shift) None at.Left Released false true None (named key-Shift) ∷ key_event code.Digit1 (character (0x31 ∷ [])) None at.Standard Released false true None (character (0x31 ∷ [])) ∷ key_event code.KeyE (character (0x45 ∷ [])) None at.Standard Released false true None (character (0x65 ∷ [])) ∷ [])) ∷
          [];
    }

-- with Control on the code Pause is the key Pause in a press and a release, and not in a focus event
abbrev pub pause_at_focus : Example
pause_at_focus =
    record {
      start = fresh_session;
      calls =
          (bring us_cancel table (message 0x07 0x00 0x00), answered None lent (key_event code.Pause (unidentified (native.Windows 0xE046)) None at.Standard Pressed false true None (unidentified (native.Windows 0xE046)) ∷ key_event code.ControlLeft (named key-Control) None at.Left Pressed false true None (named key-Control) ∷ [])) ∷
          (bring us_cancel table (message 0x100 0x03 0x1460001), answered (Some 0) (Value zero_result) []) ∷
          (finish us_cancel table 0 None, answered None lent (key_event code.Pause (named key-Pause) None at.Standard Pressed false false None (named key-Pause) ∷ [])) ∷
          (bring us_cancel table (message 0x101 0x03 0xC1460001), answered (Some 0) (Value zero_result) []) ∷
          (finish us_cancel table 0 None, answered None lent (key_event code.Pause (named key-Pause) None at.Standard Released false false None (named key-Pause) ∷ [])) ∷
          [];
    }

-- the key without modifiers is always the Num Lock off list's, in a focus event too
abbrev pub num-lock : Example
num-lock =
    record {
      start = fresh_session;
      calls =
          (bring us_num_lock table (message 0x101 0x60 0xC0520001), answered (Some 0) (Value zero_result) []) ∷
          (finish us_num_lock table 0 None, answered None lent (key_event code.Numpad0 (character (0x30 ∷ [])) None at.Numpad Released false false None (named key-Insert) ∷ [])) ∷
          (bring us_num_lock table (message 0x07 0x00 0x00), answered None lent (key_event code.Numpad0 (character (0x30 ∷ [])) (Some (0x30 ∷ [])) at.Numpad Pressed false true (Some (0x30 ∷ [])) (named key-Insert) ∷ [])) ∷
          [];
    }

-- page E1 counts as extended for the location
abbrev pub page_e1 : Example
page_e1 =
    record {
      start = fresh_session;
      calls =
          (bring odd table (message 0x101 0x0D 0xC0000001), answered (Some 0) (Value zero_result) []) ∷
          (finish odd table 0 None, answered None lent (key_event (code.Unidentified (native.Windows 0xE11C)) (named key-Enter) None at.Numpad Released false false None (named key-Enter) ∷ [])) ∷
          [];
    }

-- the Num Lock lists are asked even for VK_MENU; 112 is not VK_MENU, and nothing is asked for a virtual key above FF
abbrev pub menu_and_above : Example
menu_and_above =
    record {
      start = fresh_session;
      calls =
          (bring odd table (message 0x101 0x12 0xC0380001), answered (Some 0) (Value zero_result) []) ∷
          (finish odd table 0 None, answered None lent (key_event code.AltLeft (character (0x6D ∷ [])) None at.Standard Released false false None (character (0x6D ∷ [])) ∷ [])) ∷
          (bring odd table (message 0x101 0x112 0xC0380001), answered (Some 0) (Value zero_result) []) ∷
          (finish odd table 0 None, answered None lent (key_event code.AltLeft (unidentified (native.Windows 0x38)) None at.Standard Released false false None (unidentified (native.Windows 0x38)) ∷ [])) ∷
          (bring odd table (message 0x101 0x131 0xC0020001), answered (Some 0) (Value zero_result) []) ∷
          (finish odd table 0 None, answered None lent (key_event code.Digit1 (character (0x31 ∷ [])) None at.Standard Released false false None (character (0x31 ∷ [])) ∷ [])) ∷
          (bring odd table (message 0x101 0x10031 0xC0000001), answered (Some 0) (Value zero_result) []) ∷
          (finish odd table 0 None, answered None lent (key_event code.Digit1 (unidentified (native.Windows 0x7F)) None at.Standard Released false false None (unidentified (native.Windows 0x7F)) ∷ [])) ∷
          (bring odd table (message 0x101 0x131 0xC0000001), answered (Some 0) (Value zero_result) []) ∷
          (finish odd table 0 None, answered None lent (key_event (code.Unidentified (native.Windows 0x00)) (unidentified (native.Windows 0x00)) None at.Standard Released false false None (unidentified (native.Windows 0x00)) ∷ [])) ∷
          [];
    }

-- an unlisted code that a list has is found
abbrev pub unlisted_code : Example
unlisted_code =
    record {
      start = fresh_session;
      calls =
          (bring odd table (message 0x101 0x07 0xC07F0001), answered (Some 0) (Value zero_result) []) ∷
          (finish odd table 0 None, answered None lent (key_event (code.Unidentified (native.Windows 0x7F)) (character (0xC3 ∷ 0x9F ∷ [])) None at.Standard Released false false None (character (0xC3 ∷ 0x9F ∷ [])) ∷ [])) ∷
          [];
    }

-- the surrogate test reads all of wParam, the scalar its low 32 bits: 10000D800 is two zero units
abbrev pub wide_surrogate : Example
wide_surrogate =
    record {
      start = fresh_session;
      calls =
          (bring us table (message 0x100 0x31 0x20001), answered (Some 0) (Value zero_result) []) ∷
          (finish us table 0 (Some (message 0x102 0x31 0x20001)), answered None lent []) ∷
          (bring us table (message 0x102 0x10000D800 0x20001), answered (Some 0) (Value zero_result) []) ∷
          (finish us table 0 None, answered None lent (key_event code.Digit1 (character (0x31 ∷ [])) (Some (0x00 ∷ 0x00 ∷ [])) at.Standard Pressed false false (Some (0x00 ∷ 0x00 ∷ [])) (character (0x31 ∷ [])) ∷ [])) ∷
          [];
    }

-- a code that is no scalar is two zero units, and they are a text; 100000061 is a
abbrev pub zero_units : Example
zero_units =
    record {
      start = fresh_session;
      calls =
          (bring us table (message 0x100 0x31 0x20001), answered (Some 0) (Value zero_result) []) ∷
          (finish us table 0 (Some (message 0x102 0x31 0x20001)), answered None lent []) ∷
          (bring us table (message 0x102 0x110000 0x20001), answered (Some 0) (Value zero_result) []) ∷
          (finish us table 0 (Some (message 0x102 0x31 0x20001)), answered None lent []) ∷
          (bring us table (message 0x102 0x100000061 0x20001), answered (Some 0) (Value zero_result) []) ∷
          (finish us table 0 None, answered None lent (key_event code.Digit1 (character (0x31 ∷ [])) (Some (0x00 ∷ 0x00 ∷ 0x61 ∷ [])) at.Standard Pressed false false (Some (0x00 ∷ 0x00 ∷ 0x61 ∷ [])) (character (0x31 ∷ [])) ∷ [])) ∷
          [];
    }

-- CR LF is one piece, and so is a letter with marks: the typed text is the logical key
abbrev pub one_piece : Example
one_piece =
    record {
      start = fresh_session;
      calls =
          (bring us table (message 0x100 0x31 0x20001), answered (Some 0) (Value zero_result) []) ∷
          (finish us table 0 (Some (message 0x102 0x31 0x20001)), answered None lent []) ∷
          (bring us table (message 0x102 0x0D 0x20001), answered (Some 0) (Value zero_result) []) ∷
          (finish us table 0 (Some (message 0x102 0x31 0x20001)), answered None lent []) ∷
          (bring us table (message 0x102 0x0A 0x20001), answered (Some 0) (Value zero_result) []) ∷
          (finish us table 0 None, answered None lent (key_event code.Digit1 (character (0x0D ∷ 0x0A ∷ [])) (Some (0x0D ∷ 0x0A ∷ [])) at.Standard Pressed false false (Some (0x0D ∷ 0x0A ∷ [])) (character (0x31 ∷ [])) ∷ [])) ∷
          (bring us table (message 0x100 0x31 0x20001), answered (Some 0) (Value zero_result) []) ∷
          (finish us table 0 (Some (message 0x102 0x31 0x20001)), answered None lent []) ∷
          (bring us table (message 0x102 0x65 0x20001), answered (Some 0) (Value zero_result) []) ∷
          (finish us table 0 (Some (message 0x102 0x31 0x20001)), answered None lent []) ∷
          (bring us table (message 0x102 0x301 0x20001), answered (Some 0) (Value zero_result) []) ∷
          (finish us table 0 None, answered None lent (key_event code.Digit1 (character (0x65 ∷ 0xCC ∷ 0x81 ∷ [])) (Some (0x65 ∷ 0xCC ∷ 0x81 ∷ [])) at.Standard Pressed false false (Some (0x65 ∷ 0xCC ∷ 0x81 ∷ [])) (character (0x31 ∷ [])) ∷ [])) ∷
          (bring us table (message 0x100 0x31 0x20001), answered (Some 0) (Value zero_result) []) ∷
          (finish us table 0 (Some (message 0x102 0x31 0x20001)), answered None lent []) ∷
          (bring us table (message 0x102 0x65 0x20001), answered (Some 0) (Value zero_result) []) ∷
          (finish us table 0 (Some (message 0x102 0x31 0x20001)), answered None lent []) ∷
          (bring us table (message 0x102 0x301 0x20001), answered (Some 0) (Value zero_result) []) ∷
          (finish us table 0 (Some (message 0x102 0x31 0x20001)), answered None lent []) ∷
          (bring us table (message 0x102 0x36F 0x20001), answered (Some 0) (Value zero_result) []) ∷
          (finish us table 0 None, answered None lent (key_event code.Digit1 (character (0x65 ∷ 0xCC ∷ 0x81 ∷ 0xCD ∷ 0xAF ∷ [])) (Some (0x65 ∷ 0xCC ∷ 0x81 ∷ 0xCD ∷ 0xAF ∷ [])) at.Standard Pressed false false (Some (0x65 ∷ 0xCC ∷ 0x81 ∷ 0xCD ∷ 0xAF ∷ [])) (character (0x31 ∷ [])) ∷ [])) ∷
          [];
    }

-- CR LF with a mark behind it is several pieces: the layout's key stands
abbrev pub several-pieces : Example
several-pieces =
    record {
      start = fresh_session;
      calls =
          (bring us table (message 0x100 0x31 0x20001), answered (Some 0) (Value zero_result) []) ∷
          (finish us table 0 (Some (message 0x102 0x31 0x20001)), answered None lent []) ∷
          (bring us table (message 0x102 0x0D 0x20001), answered (Some 0) (Value zero_result) []) ∷
          (finish us table 0 (Some (message 0x102 0x31 0x20001)), answered None lent []) ∷
          (bring us table (message 0x102 0x0A 0x20001), answered (Some 0) (Value zero_result) []) ∷
          (finish us table 0 (Some (message 0x102 0x31 0x20001)), answered None lent []) ∷
          (bring us table (message 0x102 0x301 0x20001), answered (Some 0) (Value zero_result) []) ∷
          (finish us table 0 None, answered None lent (key_event code.Digit1 (character (0x31 ∷ [])) (Some (0x0D ∷ 0x0A ∷ 0xCC ∷ 0x81 ∷ [])) at.Standard Pressed false false (Some (0x0D ∷ 0x0A ∷ 0xCC ∷ 0x81 ∷ [])) (character (0x31 ∷ [])) ∷ [])) ∷
          [];
    }

-- classes come from the table alone: with no ranges CR LF is two pieces, and so are a letter and a mark
abbrev pub no_ranges_of_class : Example
no_ranges_of_class =
    record {
      start = fresh_session;
      calls =
          (bring us no_ranges (message 0x100 0x31 0x20001), answered (Some 0) (Value zero_result) []) ∷
          (finish us no_ranges 0 (Some (message 0x102 0x31 0x20001)), answered None lent []) ∷
          (bring us no_ranges (message 0x102 0x0D 0x20001), answered (Some 0) (Value zero_result) []) ∷
          (finish us no_ranges 0 (Some (message 0x102 0x31 0x20001)), answered None lent []) ∷
          (bring us no_ranges (message 0x102 0x0A 0x20001), answered (Some 0) (Value zero_result) []) ∷
          (finish us no_ranges 0 None, answered None lent (key_event code.Digit1 (character (0x31 ∷ [])) (Some (0x0D ∷ 0x0A ∷ [])) at.Standard Pressed false false (Some (0x0D ∷ 0x0A ∷ [])) (character (0x31 ∷ [])) ∷ [])) ∷
          (bring us no_ranges (message 0x100 0x31 0x20001), answered (Some 0) (Value zero_result) []) ∷
          (finish us no_ranges 0 (Some (message 0x102 0x31 0x20001)), answered None lent []) ∷
          (bring us no_ranges (message 0x102 0x65 0x20001), answered (Some 0) (Value zero_result) []) ∷
          (finish us no_ranges 0 (Some (message 0x102 0x31 0x20001)), answered None lent []) ∷
          (bring us no_ranges (message 0x102 0x301 0x20001), answered (Some 0) (Value zero_result) []) ∷
          (finish us no_ranges 0 None, answered None lent (key_event code.Digit1 (character (0x31 ∷ [])) (Some (0x65 ∷ 0xCC ∷ 0x81 ∷ [])) at.Standard Pressed false false (Some (0x65 ∷ 0xCC ∷ 0x81 ∷ [])) (character (0x31 ∷ [])) ∷ [])) ∷
          [];
    }

-- two pictographs with a ZWJ between them are one piece (GB11), with an Extend before the ZWJ too
abbrev pub joined_pictographs : Example
joined_pictographs =
    record {
      start = fresh_session;
      calls =
          (bring us table (message 0x100 0x31 0x20001), answered (Some 0) (Value zero_result) []) ∷
          (finish us table 0 (Some (message 0x102 0x31 0x20001)), answered None lent []) ∷
          (bring us table (message 0x102 0x1F468 0x20001), answered (Some 0) (Value zero_result) []) ∷
          (finish us table 0 (Some (message 0x102 0x31 0x20001)), answered None lent []) ∷
          (bring us table (message 0x102 0x200D 0x20001), answered (Some 0) (Value zero_result) []) ∷
          (finish us table 0 (Some (message 0x102 0x31 0x20001)), answered None lent []) ∷
          (bring us table (message 0x102 0x1F469 0x20001), answered (Some 0) (Value zero_result) []) ∷
          (finish us table 0 None, answered None lent (key_event code.Digit1 (character (0xF0 ∷ 0x9F ∷ 0x91 ∷ 0xA8 ∷ 0xE2 ∷ 0x80 ∷ 0x8D ∷ 0xF0 ∷ 0x9F ∷ 0x91 ∷ 0xA9 ∷ [])) (Some (0xF0 ∷ 0x9F ∷ 0x91 ∷ 0xA8 ∷ 0xE2 ∷ 0x80 ∷ 0x8D ∷ 0xF0 ∷ 0x9F ∷ 0x91 ∷ 0xA9 ∷ [])) at.Standard Pressed false false (Some (0xF0 ∷ 0x9F ∷ 0x91 ∷ 0xA8 ∷ 0xE2 ∷ 0x80 ∷ 0x8D ∷ 0xF0 ∷ 0x9F ∷ 0x91 ∷ 0xA9 ∷ [])) (character (0x31 ∷ [])) ∷ [])) ∷
          (bring us table (message 0x100 0x31 0x20001), answered (Some 0) (Value zero_result) []) ∷
          (finish us table 0 (Some (message 0x102 0x31 0x20001)), answered None lent []) ∷
          (bring us table (message 0x102 0x1F468 0x20001), answered (Some 0) (Value zero_result) []) ∷
          (finish us table 0 (Some (message 0x102 0x31 0x20001)), answered None lent []) ∷
          (bring us table (message 0x102 0x1F3FB 0x20001), answered (Some 0) (Value zero_result) []) ∷
          (finish us table 0 (Some (message 0x102 0x31 0x20001)), answered None lent []) ∷
          (bring us table (message 0x102 0x200D 0x20001), answered (Some 0) (Value zero_result) []) ∷
          (finish us table 0 (Some (message 0x102 0x31 0x20001)), answered None lent []) ∷
          (bring us table (message 0x102 0x1F469 0x20001), answered (Some 0) (Value zero_result) []) ∷
          (finish us table 0 None, answered None lent (key_event code.Digit1 (character (0xF0 ∷ 0x9F ∷ 0x91 ∷ 0xA8 ∷ 0xF0 ∷ 0x9F ∷ 0x8F ∷ 0xBB ∷ 0xE2 ∷ 0x80 ∷ 0x8D ∷ 0xF0 ∷ 0x9F ∷ 0x91 ∷ 0xA9 ∷ [])) (Some (0xF0 ∷ 0x9F ∷ 0x91 ∷ 0xA8 ∷ 0xF0 ∷ 0x9F ∷ 0x8F ∷ 0xBB ∷ 0xE2 ∷ 0x80 ∷ 0x8D ∷ 0xF0 ∷ 0x9F ∷ 0x91 ∷ 0xA9 ∷ [])) at.Standard Pressed false false (Some (0xF0 ∷ 0x9F ∷ 0x91 ∷ 0xA8 ∷ 0xF0 ∷ 0x9F ∷ 0x8F ∷ 0xBB ∷ 0xE2 ∷ 0x80 ∷ 0x8D ∷ 0xF0 ∷ 0x9F ∷ 0x91 ∷ 0xA9 ∷ [])) (character (0x31 ∷ [])) ∷ [])) ∷
          [];
    }

-- with two ZWJ between them, or with a letter before the one, they are not: GB11's Extend* holds no ZWJ
abbrev pub two_joiners : Example
two_joiners =
    record {
      start = fresh_session;
      calls =
          (bring us table (message 0x100 0x31 0x20001), answered (Some 0) (Value zero_result) []) ∷
          (finish us table 0 (Some (message 0x102 0x31 0x20001)), answered None lent []) ∷
          (bring us table (message 0x102 0x1F468 0x20001), answered (Some 0) (Value zero_result) []) ∷
          (finish us table 0 (Some (message 0x102 0x31 0x20001)), answered None lent []) ∷
          (bring us table (message 0x102 0x200D 0x20001), answered (Some 0) (Value zero_result) []) ∷
          (finish us table 0 (Some (message 0x102 0x31 0x20001)), answered None lent []) ∷
          (bring us table (message 0x102 0x200D 0x20001), answered (Some 0) (Value zero_result) []) ∷
          (finish us table 0 (Some (message 0x102 0x31 0x20001)), answered None lent []) ∷
          (bring us table (message 0x102 0x1F469 0x20001), answered (Some 0) (Value zero_result) []) ∷
          (finish us table 0 None, answered None lent (key_event code.Digit1 (character (0x31 ∷ [])) (Some (0xF0 ∷ 0x9F ∷ 0x91 ∷ 0xA8 ∷ 0xE2 ∷ 0x80 ∷ 0x8D ∷ 0xE2 ∷ 0x80 ∷ 0x8D ∷ 0xF0 ∷ 0x9F ∷ 0x91 ∷ 0xA9 ∷ [])) at.Standard Pressed false false (Some (0xF0 ∷ 0x9F ∷ 0x91 ∷ 0xA8 ∷ 0xE2 ∷ 0x80 ∷ 0x8D ∷ 0xE2 ∷ 0x80 ∷ 0x8D ∷ 0xF0 ∷ 0x9F ∷ 0x91 ∷ 0xA9 ∷ [])) (character (0x31 ∷ [])) ∷ [])) ∷
          (bring us table (message 0x100 0x31 0x20001), answered (Some 0) (Value zero_result) []) ∷
          (finish us table 0 (Some (message 0x102 0x31 0x20001)), answered None lent []) ∷
          (bring us table (message 0x102 0x61 0x20001), answered (Some 0) (Value zero_result) []) ∷
          (finish us table 0 (Some (message 0x102 0x31 0x20001)), answered None lent []) ∷
          (bring us table (message 0x102 0x200D 0x20001), answered (Some 0) (Value zero_result) []) ∷
          (finish us table 0 (Some (message 0x102 0x31 0x20001)), answered None lent []) ∷
          (bring us table (message 0x102 0x1F469 0x20001), answered (Some 0) (Value zero_result) []) ∷
          (finish us table 0 None, answered None lent (key_event code.Digit1 (character (0x31 ∷ [])) (Some (0x61 ∷ 0xE2 ∷ 0x80 ∷ 0x8D ∷ 0xF0 ∷ 0x9F ∷ 0x91 ∷ 0xA9 ∷ [])) at.Standard Pressed false false (Some (0x61 ∷ 0xE2 ∷ 0x80 ∷ 0x8D ∷ 0xF0 ∷ 0x9F ∷ 0x91 ∷ 0xA9 ∷ [])) (character (0x31 ∷ [])) ∷ [])) ∷
          [];
    }

-- two regional indicators are one piece, one and a half flags are two (GB12), and so is a flag behind a letter (GB13)
abbrev pub flags : Example
flags =
    record {
      start = fresh_session;
      calls =
          (bring us table (message 0x100 0x31 0x20001), answered (Some 0) (Value zero_result) []) ∷
          (finish us table 0 (Some (message 0x102 0x31 0x20001)), answered None lent []) ∷
          (bring us table (message 0x102 0x1F1E9 0x20001), answered (Some 0) (Value zero_result) []) ∷
          (finish us table 0 (Some (message 0x102 0x31 0x20001)), answered None lent []) ∷
          (bring us table (message 0x102 0x1F1EA 0x20001), answered (Some 0) (Value zero_result) []) ∷
          (finish us table 0 None, answered None lent (key_event code.Digit1 (character (0xF0 ∷ 0x9F ∷ 0x87 ∷ 0xA9 ∷ 0xF0 ∷ 0x9F ∷ 0x87 ∷ 0xAA ∷ [])) (Some (0xF0 ∷ 0x9F ∷ 0x87 ∷ 0xA9 ∷ 0xF0 ∷ 0x9F ∷ 0x87 ∷ 0xAA ∷ [])) at.Standard Pressed false false (Some (0xF0 ∷ 0x9F ∷ 0x87 ∷ 0xA9 ∷ 0xF0 ∷ 0x9F ∷ 0x87 ∷ 0xAA ∷ [])) (character (0x31 ∷ [])) ∷ [])) ∷
          (bring us table (message 0x100 0x31 0x20001), answered (Some 0) (Value zero_result) []) ∷
          (finish us table 0 (Some (message 0x102 0x31 0x20001)), answered None lent []) ∷
          (bring us table (message 0x102 0x1F1E9 0x20001), answered (Some 0) (Value zero_result) []) ∷
          (finish us table 0 (Some (message 0x102 0x31 0x20001)), answered None lent []) ∷
          (bring us table (message 0x102 0x1F1EA 0x20001), answered (Some 0) (Value zero_result) []) ∷
          (finish us table 0 (Some (message 0x102 0x31 0x20001)), answered None lent []) ∷
          (bring us table (message 0x102 0x1F1E9 0x20001), answered (Some 0) (Value zero_result) []) ∷
          (finish us table 0 None, answered None lent (key_event code.Digit1 (character (0x31 ∷ [])) (Some (0xF0 ∷ 0x9F ∷ 0x87 ∷ 0xA9 ∷ 0xF0 ∷ 0x9F ∷ 0x87 ∷ 0xAA ∷ 0xF0 ∷ 0x9F ∷ 0x87 ∷ 0xA9 ∷ [])) at.Standard Pressed false false (Some (0xF0 ∷ 0x9F ∷ 0x87 ∷ 0xA9 ∷ 0xF0 ∷ 0x9F ∷ 0x87 ∷ 0xAA ∷ 0xF0 ∷ 0x9F ∷ 0x87 ∷ 0xA9 ∷ [])) (character (0x31 ∷ [])) ∷ [])) ∷
          (bring us table (message 0x100 0x31 0x20001), answered (Some 0) (Value zero_result) []) ∷
          (finish us table 0 (Some (message 0x102 0x31 0x20001)), answered None lent []) ∷
          (bring us table (message 0x102 0x61 0x20001), answered (Some 0) (Value zero_result) []) ∷
          (finish us table 0 (Some (message 0x102 0x31 0x20001)), answered None lent []) ∷
          (bring us table (message 0x102 0x1F1E9 0x20001), answered (Some 0) (Value zero_result) []) ∷
          (finish us table 0 (Some (message 0x102 0x31 0x20001)), answered None lent []) ∷
          (bring us table (message 0x102 0x1F1EA 0x20001), answered (Some 0) (Value zero_result) []) ∷
          (finish us table 0 None, answered None lent (key_event code.Digit1 (character (0x31 ∷ [])) (Some (0x61 ∷ 0xF0 ∷ 0x9F ∷ 0x87 ∷ 0xA9 ∷ 0xF0 ∷ 0x9F ∷ 0x87 ∷ 0xAA ∷ [])) at.Standard Pressed false false (Some (0x61 ∷ 0xF0 ∷ 0x9F ∷ 0x87 ∷ 0xA9 ∷ 0xF0 ∷ 0x9F ∷ 0x87 ∷ 0xAA ∷ [])) (character (0x31 ∷ [])) ∷ [])) ∷
          [];
    }

-- a Hangul syllable in three parts is one piece (GB6 to GB8), one with its vowel last is two
abbrev pub syllables : Example
syllables =
    record {
      start = fresh_session;
      calls =
          (bring us table (message 0x100 0x31 0x20001), answered (Some 0) (Value zero_result) []) ∷
          (finish us table 0 (Some (message 0x102 0x31 0x20001)), answered None lent []) ∷
          (bring us table (message 0x102 0x1100 0x20001), answered (Some 0) (Value zero_result) []) ∷
          (finish us table 0 (Some (message 0x102 0x31 0x20001)), answered None lent []) ∷
          (bring us table (message 0x102 0x1161 0x20001), answered (Some 0) (Value zero_result) []) ∷
          (finish us table 0 (Some (message 0x102 0x31 0x20001)), answered None lent []) ∷
          (bring us table (message 0x102 0x11A8 0x20001), answered (Some 0) (Value zero_result) []) ∷
          (finish us table 0 None, answered None lent (key_event code.Digit1 (character (0xE1 ∷ 0x84 ∷ 0x80 ∷ 0xE1 ∷ 0x85 ∷ 0xA1 ∷ 0xE1 ∷ 0x86 ∷ 0xA8 ∷ [])) (Some (0xE1 ∷ 0x84 ∷ 0x80 ∷ 0xE1 ∷ 0x85 ∷ 0xA1 ∷ 0xE1 ∷ 0x86 ∷ 0xA8 ∷ [])) at.Standard Pressed false false (Some (0xE1 ∷ 0x84 ∷ 0x80 ∷ 0xE1 ∷ 0x85 ∷ 0xA1 ∷ 0xE1 ∷ 0x86 ∷ 0xA8 ∷ [])) (character (0x31 ∷ [])) ∷ [])) ∷
          (bring us table (message 0x100 0x31 0x20001), answered (Some 0) (Value zero_result) []) ∷
          (finish us table 0 (Some (message 0x102 0x31 0x20001)), answered None lent []) ∷
          (bring us table (message 0x102 0xAC00 0x20001), answered (Some 0) (Value zero_result) []) ∷
          (finish us table 0 (Some (message 0x102 0x31 0x20001)), answered None lent []) ∷
          (bring us table (message 0x102 0x11A8 0x20001), answered (Some 0) (Value zero_result) []) ∷
          (finish us table 0 None, answered None lent (key_event code.Digit1 (character (0xEA ∷ 0xB0 ∷ 0x80 ∷ 0xE1 ∷ 0x86 ∷ 0xA8 ∷ [])) (Some (0xEA ∷ 0xB0 ∷ 0x80 ∷ 0xE1 ∷ 0x86 ∷ 0xA8 ∷ [])) at.Standard Pressed false false (Some (0xEA ∷ 0xB0 ∷ 0x80 ∷ 0xE1 ∷ 0x86 ∷ 0xA8 ∷ [])) (character (0x31 ∷ [])) ∷ [])) ∷
          (bring us table (message 0x100 0x31 0x20001), answered (Some 0) (Value zero_result) []) ∷
          (finish us table 0 (Some (message 0x102 0x31 0x20001)), answered None lent []) ∷
          (bring us table (message 0x102 0x1100 0x20001), answered (Some 0) (Value zero_result) []) ∷
          (finish us table 0 (Some (message 0x102 0x31 0x20001)), answered None lent []) ∷
          (bring us table (message 0x102 0x11A8 0x20001), answered (Some 0) (Value zero_result) []) ∷
          (finish us table 0 (Some (message 0x102 0x31 0x20001)), answered None lent []) ∷
          (bring us table (message 0x102 0x1161 0x20001), answered (Some 0) (Value zero_result) []) ∷
          (finish us table 0 None, answered None lent (key_event code.Digit1 (character (0x31 ∷ [])) (Some (0xE1 ∷ 0x84 ∷ 0x80 ∷ 0xE1 ∷ 0x86 ∷ 0xA8 ∷ 0xE1 ∷ 0x85 ∷ 0xA1 ∷ [])) at.Standard Pressed false false (Some (0xE1 ∷ 0x84 ∷ 0x80 ∷ 0xE1 ∷ 0x86 ∷ 0xA8 ∷ 0xE1 ∷ 0x85 ∷ 0xA1 ∷ [])) (character (0x31 ∷ [])) ∷ [])) ∷
          [];
    }

-- a consonant behind 094D is a piece of its own: GB9c is no part of the rules
abbrev pub conjunct : Example
conjunct =
    record {
      start = fresh_session;
      calls =
          (bring us table (message 0x100 0x31 0x20001), answered (Some 0) (Value zero_result) []) ∷
          (finish us table 0 (Some (message 0x102 0x31 0x20001)), answered None lent []) ∷
          (bring us table (message 0x102 0x915 0x20001), answered (Some 0) (Value zero_result) []) ∷
          (finish us table 0 (Some (message 0x102 0x31 0x20001)), answered None lent []) ∷
          (bring us table (message 0x102 0x94D 0x20001), answered (Some 0) (Value zero_result) []) ∷
          (finish us table 0 (Some (message 0x102 0x31 0x20001)), answered None lent []) ∷
          (bring us table (message 0x102 0x937 0x20001), answered (Some 0) (Value zero_result) []) ∷
          (finish us table 0 None, answered None lent (key_event code.Digit1 (character (0x31 ∷ [])) (Some (0xE0 ∷ 0xA4 ∷ 0x95 ∷ 0xE0 ∷ 0xA5 ∷ 0x8D ∷ 0xE0 ∷ 0xA4 ∷ 0xB7 ∷ [])) at.Standard Pressed false false (Some (0xE0 ∷ 0xA4 ∷ 0x95 ∷ 0xE0 ∷ 0xA5 ∷ 0x8D ∷ 0xE0 ∷ 0xA4 ∷ 0xB7 ∷ [])) (character (0x31 ∷ [])) ∷ [])) ∷
          [];
    }

-- a letter and a SpacingMark are one piece (GB9a), a Prepend and a letter too (GB9b), but not with LF (GB5)
abbrev pub around_a_letter : Example
around_a_letter =
    record {
      start = fresh_session;
      calls =
          (bring us table (message 0x100 0x31 0x20001), answered (Some 0) (Value zero_result) []) ∷
          (finish us table 0 (Some (message 0x102 0x31 0x20001)), answered None lent []) ∷
          (bring us table (message 0x102 0x915 0x20001), answered (Some 0) (Value zero_result) []) ∷
          (finish us table 0 (Some (message 0x102 0x31 0x20001)), answered None lent []) ∷
          (bring us table (message 0x102 0x903 0x20001), answered (Some 0) (Value zero_result) []) ∷
          (finish us table 0 None, answered None lent (key_event code.Digit1 (character (0xE0 ∷ 0xA4 ∷ 0x95 ∷ 0xE0 ∷ 0xA4 ∷ 0x83 ∷ [])) (Some (0xE0 ∷ 0xA4 ∷ 0x95 ∷ 0xE0 ∷ 0xA4 ∷ 0x83 ∷ [])) at.Standard Pressed false false (Some (0xE0 ∷ 0xA4 ∷ 0x95 ∷ 0xE0 ∷ 0xA4 ∷ 0x83 ∷ [])) (character (0x31 ∷ [])) ∷ [])) ∷
          (bring us table (message 0x100 0x31 0x20001), answered (Some 0) (Value zero_result) []) ∷
          (finish us table 0 (Some (message 0x102 0x31 0x20001)), answered None lent []) ∷
          (bring us table (message 0x102 0x600 0x20001), answered (Some 0) (Value zero_result) []) ∷
          (finish us table 0 (Some (message 0x102 0x31 0x20001)), answered None lent []) ∷
          (bring us table (message 0x102 0x31 0x20001), answered (Some 0) (Value zero_result) []) ∷
          (finish us table 0 None, answered None lent (key_event code.Digit1 (character (0xD8 ∷ 0x80 ∷ 0x31 ∷ [])) (Some (0xD8 ∷ 0x80 ∷ 0x31 ∷ [])) at.Standard Pressed false false (Some (0xD8 ∷ 0x80 ∷ 0x31 ∷ [])) (character (0x31 ∷ [])) ∷ [])) ∷
          (bring us table (message 0x100 0x31 0x20001), answered (Some 0) (Value zero_result) []) ∷
          (finish us table 0 (Some (message 0x102 0x31 0x20001)), answered None lent []) ∷
          (bring us table (message 0x102 0x600 0x20001), answered (Some 0) (Value zero_result) []) ∷
          (finish us table 0 (Some (message 0x102 0x31 0x20001)), answered None lent []) ∷
          (bring us table (message 0x102 0x0A 0x20001), answered (Some 0) (Value zero_result) []) ∷
          (finish us table 0 None, answered None lent (key_event code.Digit1 (character (0x31 ∷ [])) (Some (0xD8 ∷ 0x80 ∷ 0x0A ∷ [])) at.Standard Pressed false false (Some (0xD8 ∷ 0x80 ∷ 0x0A ∷ [])) (character (0x31 ∷ [])) ∷ [])) ∷
          [];
    }

-- the table that counts is that of the finish that completes the last character, not those before it
abbrev pub table_of_the_last_finish : Example
table_of_the_last_finish =
    record {
      start = fresh_session;
      calls =
          (bring us table (message 0x100 0x31 0x20001), answered (Some 0) (Value zero_result) []) ∷
          (finish us table 0 (Some (message 0x102 0x31 0x20001)), answered None lent []) ∷
          (bring us table (message 0x102 0x0D 0x20001), answered (Some 0) (Value zero_result) []) ∷
          (finish us table 0 (Some (message 0x102 0x31 0x20001)), answered None lent []) ∷
          (bring us table (message 0x102 0x0A 0x20001), answered (Some 0) (Value zero_result) []) ∷
          (finish us no_ranges 0 None, answered None lent (key_event code.Digit1 (character (0x31 ∷ [])) (Some (0x0D ∷ 0x0A ∷ [])) at.Standard Pressed false false (Some (0x0D ∷ 0x0A ∷ [])) (character (0x31 ∷ [])) ∷ [])) ∷
          (bring us no_ranges (message 0x100 0x31 0x20001), answered (Some 0) (Value zero_result) []) ∷
          (finish us no_ranges 0 (Some (message 0x102 0x31 0x20001)), answered None lent []) ∷
          (bring us no_ranges (message 0x102 0x0D 0x20001), answered (Some 0) (Value zero_result) []) ∷
          (finish us no_ranges 0 (Some (message 0x102 0x31 0x20001)), answered None lent []) ∷
          (bring us no_ranges (message 0x102 0x0A 0x20001), answered (Some 0) (Value zero_result) []) ∷
          (finish us table 0 None, answered None lent (key_event code.Digit1 (character (0x0D ∷ 0x0A ∷ [])) (Some (0x0D ∷ 0x0A ∷ [])) at.Standard Pressed false false (Some (0x0D ∷ 0x0A ∷ [])) (character (0x31 ∷ [])) ∷ [])) ∷
          [];
    }

-- kinds have 32 bits: 10100 is no key message, so the press is held, and 10102 is no character
abbrev pub wide_kind : Example
wide_kind =
    record {
      start = fresh_session;
      calls =
          (bring us table (message 0x100 0x31 0x20001), answered (Some 0) (Value zero_result) []) ∷
          (finish us table 0 (Some (message 0x10100 0x31 0x20001)), answered None lent []) ∷
          (bring us table (message 0x102 0x31 0x20001), answered (Some 0) (Value zero_result) []) ∷
          (finish us table 0 (Some (message 0x10102 0x31 0x20001)), answered None lent (key_event code.Digit1 (character (0x31 ∷ [])) (Some (0x31 ∷ [])) at.Standard Pressed false false (Some (0x31 ∷ [])) (character (0x31 ∷ [])) ∷ [])) ∷
          (bring us table (message 0x10100 0x31 0x20001), answered None lent []) ∷
          [];
    }

-- 104 with F4 is ignored by its whole wParam, any other press is not; a repeat is told by bits 30 and 31
abbrev pub close_window : Example
close_window =
    record {
      start = fresh_session;
      calls =
          (bring us table (message 0x104 0x73 0x3E0001), answered None lent []) ∷
          (bring us table (message 0x104 0x10073 0x403E0001), answered (Some 0) DefWindowProc []) ∷
          (finish us table 0 None, answered None lent (key_event code.F4 (named key-F4) None at.Standard Pressed true false None (named key-F4) ∷ [])) ∷
          (bring us table (message 0x100 0x73 0x3E0001), answered (Some 0) (Value zero_result) []) ∷
          (finish us table 0 None, answered None lent (key_event code.F4 (named key-F4) None at.Standard Pressed false false None (named key-F4) ∷ [])) ∷
          [];
    }

-- a press's scan code and location go by the layout of its finish
abbrev pub press_by_finish : Example
press_by_finish =
    record {
      start = fresh_session;
      calls =
          (bring odd table (message 0x100 0xB3 0x01), answered (Some 0) (Value zero_result) []) ∷
          (finish moved table 0 None, answered None lent (key_event code.MediaStop (named key-MediaPlayPause) None at.Numpad Pressed false false None (named key-MediaPlayPause) ∷ [])) ∷
          [];
    }

-- a release is wholly kept from its open, its keys' texts too
abbrev pub release_by_open : Example
release_by_open =
    record {
      start = fresh_session;
      calls =
          (bring us table (message 0x101 0x31 0xC0000001), answered (Some 0) (Value zero_result) []) ∷
          (finish moved table 0 None, answered None lent (key_event code.Digit1 (character (0x31 ∷ [])) None at.Standard Released false false None (character (0x31 ∷ [])) ∷ [])) ∷
          [];
    }

-- of a release's fake test only the AltGr flag is the finish's
abbrev pub release_fake_by_finish : Example
release_fake_by_finish =
    record {
      start = fresh_session;
      calls =
          (bring us table (message 0x101 0x11 0xC01D0001), answered (Some 0) (Value zero_result) []) ∷
          (finish german table 0 (Some (message 0x101 0x12 0x1380001)), answered None lent []) ∷
          (bring german table (message 0x101 0x11 0xC01D0001), answered (Some 0) (Value zero_result) []) ∷
          (finish us table 0 (Some (message 0x101 0x12 0x1380001)), answered None lent (key_event code.ControlLeft (named key-Control) None at.Left Released false false None (named key-Control) ∷ [])) ∷
          [];
    }

-- a release is fake whatever kind is peeked, a press only with a key message
abbrev pub release_fake_any_kind : Example
release_fake_any_kind =
    record {
      start = fresh_session;
      calls =
          (bring german table (message 0x101 0x11 0xC01D0001), answered (Some 0) (Value zero_result) []) ∷
          (finish german table 0 (Some (message 0x00 0x12 0x1380001)), answered None lent []) ∷
          (bring german table (message 0x100 0x11 0x1D0001), answered (Some 0) (Value zero_result) []) ∷
          (finish german table 0 (Some (message 0x102 0x12 0x1380001)), answered None lent []) ∷
          (bring german table (message 0x103 0xB4 0xD0001), answered None (Value zero_result) (key_event code.ControlLeft (named key-Control) None at.Left Pressed false false None (named key-Control) ∷ [])) ∷
          [];
    }

-- the fake test reads the peeked lParam alone: scan code 00 of the virtual key A5, whose code is E038, is not looked up
abbrev pub fake_by_lparam : Example
fake_by_lparam =
    record {
      start = fresh_session;
      calls =
          (bring german table (message 0x101 0x11 0xC01D0001), answered (Some 0) (Value zero_result) []) ∷
          (finish german table 0 (Some (message 0x101 0xA5 0xC1000001)), answered None lent (key_event code.ControlLeft (named key-Control) None at.Left Released false false None (named key-Control) ∷ [])) ∷
          [];
    }

-- a key that is not Control is never fake
abbrev pub fake_control_alone : Example
fake_control_alone =
    record {
      start = fresh_session;
      calls =
          (bring german table (message 0x100 0x0D 0x1C0001), answered (Some 0) (Value zero_result) []) ∷
          (finish german table 0 (Some (message 0x100 0x12 0x1380001)), answered None lent (key_event code.Enter (named key-Enter) None at.Standard Pressed false false None (named key-Enter) ∷ [])) ∷
          (bring german table (message 0x101 0x0D 0xC01C0001), answered (Some 0) (Value zero_result) []) ∷
          (finish german table 0 (Some (message 0x100 0x12 0x1380001)), answered None lent (key_event code.Enter (named key-Enter) None at.Standard Released false false None (named key-Enter) ∷ [])) ∷
          [];
    }

-- a character's finish completes what is held then: a nested press, with none of the units typed before it
abbrev pub nested_press_completed : Example
nested_press_completed =
    record {
      start = fresh_session;
      calls =
          (bring us table (message 0x100 0x31 0x20001), answered (Some 0) (Value zero_result) []) ∷
          (finish us table 0 (Some (message 0x102 0x31 0x20001)), answered None lent []) ∷
          (bring us table (message 0x102 0x61 0x20001), answered (Some 0) (Value zero_result) []) ∷
          (bring us table (message 0x100 0x45 0x120001), answered (Some 1) (Value zero_result) []) ∷
          (finish us table 1 (Some (message 0x102 0x31 0x20001)), answered None lent []) ∷
          (finish us table 0 None, answered None lent (key_event code.KeyE (unidentified (native.Windows 0x12)) None at.Standard Pressed false false None (character (0x65 ∷ [])) ∷ [])) ∷
          [];
    }

-- a nested 103 took the held press: the character's finish gives nothing, and what waits is handed out
abbrev pub nested_dead_character : Example
nested_dead_character =
    record {
      start = fresh_session;
      calls =
          (bring us table (message 0x100 0x31 0x20001), answered (Some 0) (Value zero_result) []) ∷
          (finish us table 0 (Some (message 0x102 0x31 0x20001)), answered None lent []) ∷
          (bring us table (message 0x102 0x61 0x20001), answered (Some 0) (Value zero_result) []) ∷
          (bring us table (message 0x103 0xB4 0xD0001), answered None (Value zero_result) []) ∷
          (finish us table 0 None, answered None lent (key_event code.Digit1 (unidentified (native.Windows 0x02)) None at.Standard Pressed false false (Some (0x61 ∷ [])) (character (0x31 ∷ [])) ∷ [])) ∷
          [];
    }

-- the finish of an outer press forgets the press that a nested call put on hold, its units too
abbrev pub outer_press_forgets : Example
outer_press_forgets =
    record {
      start = fresh_session;
      calls =
          (bring us table (message 0x100 0x31 0x20001), answered (Some 0) (Value zero_result) []) ∷
          (bring us table (message 0x100 0x45 0x120001), answered (Some 1) (Value zero_result) []) ∷
          (finish us table 1 (Some (message 0x102 0x31 0x20001)), answered None lent []) ∷
          (bring us table (message 0x102 0x65 0x20001), answered (Some 2) (Value zero_result) []) ∷
          (finish us table 2 (Some (message 0x102 0x31 0x20001)), answered None lent []) ∷
          (finish us table 0 None, answered None lent (key_event code.Digit1 (unidentified (native.Windows 0x02)) None at.Standard Pressed false false None (character (0x31 ∷ [])) ∷ [])) ∷
          (bring us table (message 0x102 0x65 0x20001), answered None lent []) ∷
          [];
    }

-- a fake press forgets the held press
abbrev pub fake_press_forgets : Example
fake_press_forgets =
    record {
      start = fresh_session;
      calls =
          (bring german table (message 0x100 0x31 0x20001), answered (Some 0) (Value zero_result) []) ∷
          (finish german table 0 (Some (message 0x102 0x31 0x20001)), answered None lent []) ∷
          (bring german table (message 0x100 0x11 0x1D0001), answered (Some 0) (Value zero_result) []) ∷
          (finish german table 0 (Some (message 0x104 0x12 0x1380001)), answered None lent []) ∷
          (bring german table (message 0x102 0x31 0x20001), answered None lent []) ∷
          [];
    }

-- dropping the first entry hands out what waits behind it
abbrev pub dropped_first : Example
dropped_first =
    record {
      start = fresh_session;
      calls =
          (bring german table (message 0x100 0x11 0x1D0001), answered (Some 0) (Value zero_result) []) ∷
          (bring german table (message 0x101 0x31 0xC0020001), answered (Some 1) (Value zero_result) []) ∷
          (finish german table 1 None, answered None lent []) ∷
          (bring german table (message 0x100 0x0D 0x1C0001), answered (Some 2) (Value zero_result) []) ∷
          (finish german table 2 None, answered None lent []) ∷
          (finish german table 0 (Some (message 0x100 0x12 0x1380001)), answered None lent (key_event code.Digit1 (character (0x31 ∷ [])) None at.Standard Released false false None (character (0x31 ∷ [])) ∷ key_event code.Enter (named key-Enter) None at.Standard Pressed false false None (named key-Enter) ∷ [])) ∷
          [];
    }

-- a nested event comes out behind the outer one, in the order of arrival
abbrev pub nested_order : Example
nested_order =
    record {
      start = fresh_session;
      calls =
          (bring us table (message 0x101 0x0D 0xC01C0001), answered (Some 0) (Value zero_result) []) ∷
          (bring us table (message 0x101 0x31 0xC0020001), answered (Some 1) (Value zero_result) []) ∷
          (bring us table (message 0x101 0x45 0xC0120001), answered (Some 2) (Value zero_result) []) ∷
          (finish us table 2 None, answered None lent []) ∷
          (finish us table 1 None, answered None lent []) ∷
          (finish us table 0 None, answered None lent (key_event code.Enter (named key-Enter) None at.Standard Released false false None (named key-Enter) ∷ key_event code.Digit1 (character (0x31 ∷ [])) None at.Standard Released false false None (character (0x31 ∷ [])) ∷ key_event code.KeyE (character (0x65 ∷ [])) None at.Standard Released false false None (character (0x65 ∷ [])) ∷ [])) ∷
          [];
    }

-- focus messages and releases leave the held press
abbrev pub held_through_focus : Example
held_through_focus =
    record {
      start = fresh_session;
      calls =
          (bring us table (message 0x100 0x31 0x20001), answered (Some 0) (Value zero_result) []) ∷
          (finish us table 0 (Some (message 0x102 0x31 0x20001)), answered None lent []) ∷
          (bring us table (message 0x07 0x00 0x00), answered None lent []) ∷
          (bring us table (message 0x101 0x45 0xC0120001), answered (Some 0) (Value zero_result) []) ∷
          (finish us table 0 None, answered None lent (key_event code.KeyE (character (0x65 ∷ [])) None at.Standard Released false false None (character (0x65 ∷ [])) ∷ [])) ∷
          (bring us table (message 0x08 0x00 0x00), answered None lent []) ∷
          (bring us table (message 0x102 0x31 0x20001), answered (Some 0) (Value zero_result) []) ∷
          (finish us table 0 None, answered None lent (key_event code.Digit1 (character (0x31 ∷ [])) (Some (0x31 ∷ [])) at.Standard Pressed false false (Some (0x31 ∷ [])) (character (0x31 ∷ [])) ∷ [])) ∷
          [];
    }

-- 103 and 107 on an empty queue leave no token handed out
abbrev pub no_token_kept : Example
no_token_kept =
    record {
      start = fresh_session;
      calls =
          (bring us table (message 0x100 0x31 0x20001), answered (Some 0) (Value zero_result) []) ∷
          (finish us table 0 (Some (message 0x102 0x31 0x20001)), answered None lent []) ∷
          (bring us table (message 0x107 0xB4 0xD0001), answered None (Value zero_result) (key_event code.Digit1 (unidentified (native.Windows 0x02)) None at.Standard Pressed false false None (character (0x31 ∷ [])) ∷ [])) ∷
          (bring us table (message 0x101 0x45 0xC0120001), answered (Some 0) (Value zero_result) []) ∷
          (finish us table 0 None, answered None lent (key_event code.KeyE (character (0x65 ∷ [])) None at.Standard Released false false None (character (0x65 ∷ [])) ∷ [])) ∷
          [];
    }

-- a 103 with no press held is refused 5, a 102 is ignored
abbrev pub nothing_held : Example
nothing_held =
    record {
      start = fresh_session;
      calls =
          (bring us table (message 0x103 0xB4 0xD0001), refused 5) ∷
          (bring us table (message 0x107 0x00 0x00), refused 5) ∷
          (bring us table (message 0x102 0x31 0x20001), answered None lent []) ∷
          [];
    }

-- a table that is none is refused 11, whatever the call is: an open, a finish, an ignored message, a focus change
abbrev pub table_refused : Example
table_refused =
    record {
      start = fresh_session;
      calls =
          (bring us no_bytes (message 0x100 0x31 0x20001), refused 11) ∷
          (bring us table (message 0x100 0x31 0x20001), answered (Some 0) (Value zero_result) []) ∷
          (finish us touching 0 (Some (message 0x102 0x31 0x20001)), refused 11) ∷
          (finish us class_14 7 None, refused 11) ∷
          (finish us no_ranges 0 (Some (message 0x102 0x31 0x20001)), answered None lent []) ∷
          (bring us class_14 (message 0x12 0x00 0x00), refused 11) ∷
          (bring us_busy no_bytes (message 0x07 0x00 0x00), refused 11) ∷
          (bring us table (message 0x102 0x31 0x20001), answered (Some 0) (Value zero_result) []) ∷
          (finish us no_bytes 0 None, refused 11) ∷
          (bring us touching (message 0x103 0xB4 0xD0001), refused 11) ∷
          (finish us table 0 None, answered None lent (key_event code.Digit1 (character (0x31 ∷ [])) (Some (0x31 ∷ [])) at.Standard Pressed false false (Some (0x31 ∷ [])) (character (0x31 ∷ [])) ∷ [])) ∷
          [];
    }

-- with eight open a focus message, a 103 and ignored ones pass, and a ninth open is refused 6
abbrev pub eight_open : Example
eight_open =
    record {
      start = fresh_session;
      calls =
          (bring us table (message 0x100 0x31 0x20001), answered (Some 0) (Value zero_result) []) ∷
          (finish us table 0 (Some (message 0x102 0x31 0x20001)), answered None lent []) ∷
          (bring us table (message 0x101 0x31 0xC0020001), answered (Some 0) (Value zero_result) []) ∷
          (bring us table (message 0x101 0x31 0xC0020001), answered (Some 1) (Value zero_result) []) ∷
          (bring us table (message 0x101 0x31 0xC0020001), answered (Some 2) (Value zero_result) []) ∷
          (bring us table (message 0x101 0x31 0xC0020001), answered (Some 3) (Value zero_result) []) ∷
          (bring us table (message 0x101 0x31 0xC0020001), answered (Some 4) (Value zero_result) []) ∷
          (bring us table (message 0x101 0x31 0xC0020001), answered (Some 5) (Value zero_result) []) ∷
          (bring us table (message 0x101 0x31 0xC0020001), answered (Some 6) (Value zero_result) []) ∷
          (bring us table (message 0x101 0x31 0xC0020001), answered (Some 7) (Value zero_result) []) ∷
          (bring us table (message 0x102 0x31 0x20001), refused 6) ∷
          (bring us_control table (message 0x07 0x00 0x00), answered None lent []) ∷
          (bring us table (message 0x103 0xB4 0xD0001), answered None (Value zero_result) []) ∷
          (bring us table (message 0x102 0x31 0x20001), answered None lent []) ∷
          (bring us table (message 0x104 0x73 0x3E0001), answered None lent []) ∷
          (bring us table (message 0x100 0x31 0x20001), refused 6) ∷
          (bring us table (message 0x101 0x31 0xC0020001), refused 6) ∷
          (finish us table 7 None, answered None lent []) ∷
          (finish us table 6 None, answered None lent []) ∷
          (finish us table 5 None, answered None lent []) ∷
          (finish us table 4 None, answered None lent []) ∷
          (finish us table 3 None, answered None lent []) ∷
          (finish us table 2 None, answered None lent []) ∷
          (finish us table 1 None, answered None lent []) ∷
          (finish us table 0 None, answered None lent (times 8 (key_event code.Digit1 (character (0x31 ∷ [])) None at.Standard Released false false None (character (0x31 ∷ []))) (key_event code.ControlLeft (named key-Control) None at.Left Pressed false true None (named key-Control) ∷ key_event code.Digit1 (unidentified (native.Windows 0x02)) None at.Standard Pressed false false None (character (0x31 ∷ [])) ∷ []))) ∷
          [];
    }

-- sixteen units pass, with the seventeenth the call is refused 9; so are fifteen and two
abbrev pub sixteen_units : Example
sixteen_units =
    record {
      start = fresh_session;
      calls =
          (bring us table (message 0x100 0x31 0x20001), answered (Some 0) (Value zero_result) []) ∷
          (finish us table 0 (Some (message 0x102 0x31 0x20001)), answered None lent []) ∷
          (bring us table (message 0x102 0x61 0x20001), answered (Some 0) (Value zero_result) []) ∷
          (finish us table 0 (Some (message 0x102 0x31 0x20001)), answered None lent []) ∷
          (bring us table (message 0x102 0x61 0x20001), answered (Some 0) (Value zero_result) []) ∷
          (finish us table 0 (Some (message 0x102 0x31 0x20001)), answered None lent []) ∷
          (bring us table (message 0x102 0x61 0x20001), answered (Some 0) (Value zero_result) []) ∷
          (finish us table 0 (Some (message 0x102 0x31 0x20001)), answered None lent []) ∷
          (bring us table (message 0x102 0x61 0x20001), answered (Some 0) (Value zero_result) []) ∷
          (finish us table 0 (Some (message 0x102 0x31 0x20001)), answered None lent []) ∷
          (bring us table (message 0x102 0x61 0x20001), answered (Some 0) (Value zero_result) []) ∷
          (finish us table 0 (Some (message 0x102 0x31 0x20001)), answered None lent []) ∷
          (bring us table (message 0x102 0x61 0x20001), answered (Some 0) (Value zero_result) []) ∷
          (finish us table 0 (Some (message 0x102 0x31 0x20001)), answered None lent []) ∷
          (bring us table (message 0x102 0x61 0x20001), answered (Some 0) (Value zero_result) []) ∷
          (finish us table 0 (Some (message 0x102 0x31 0x20001)), answered None lent []) ∷
          (bring us table (message 0x102 0x61 0x20001), answered (Some 0) (Value zero_result) []) ∷
          (finish us table 0 (Some (message 0x102 0x31 0x20001)), answered None lent []) ∷
          (bring us table (message 0x102 0x61 0x20001), answered (Some 0) (Value zero_result) []) ∷
          (finish us table 0 (Some (message 0x102 0x31 0x20001)), answered None lent []) ∷
          (bring us table (message 0x102 0x61 0x20001), answered (Some 0) (Value zero_result) []) ∷
          (finish us table 0 (Some (message 0x102 0x31 0x20001)), answered None lent []) ∷
          (bring us table (message 0x102 0x61 0x20001), answered (Some 0) (Value zero_result) []) ∷
          (finish us table 0 (Some (message 0x102 0x31 0x20001)), answered None lent []) ∷
          (bring us table (message 0x102 0x61 0x20001), answered (Some 0) (Value zero_result) []) ∷
          (finish us table 0 (Some (message 0x102 0x31 0x20001)), answered None lent []) ∷
          (bring us table (message 0x102 0x61 0x20001), answered (Some 0) (Value zero_result) []) ∷
          (finish us table 0 (Some (message 0x102 0x31 0x20001)), answered None lent []) ∷
          (bring us table (message 0x102 0x61 0x20001), answered (Some 0) (Value zero_result) []) ∷
          (finish us table 0 (Some (message 0x102 0x31 0x20001)), answered None lent []) ∷
          (bring us table (message 0x102 0x61 0x20001), answered (Some 0) (Value zero_result) []) ∷
          (finish us table 0 (Some (message 0x102 0x31 0x20001)), answered None lent []) ∷
          (bring us table (message 0x102 0x1F600 0x20001), refused 9) ∷
          (bring us table (message 0x102 0x61 0x20001), answered (Some 0) (Value zero_result) []) ∷
          (finish us table 0 (Some (message 0x102 0x31 0x20001)), answered None lent []) ∷
          (bring us table (message 0x102 0x61 0x20001), refused 9) ∷
          (bring us table (message 0x102 0xD83D 0x20001), refused 9) ∷
          (bring us table (message 0x107 0xB4 0xD0001), answered None (Value zero_result) (key_event code.Digit1 (unidentified (native.Windows 0x02)) None at.Standard Pressed false false (Some (0x61 ∷ 0x61 ∷ 0x61 ∷ 0x61 ∷ 0x61 ∷ 0x61 ∷ 0x61 ∷ 0x61 ∷ 0x61 ∷ 0x61 ∷ 0x61 ∷ 0x61 ∷ 0x61 ∷ 0x61 ∷ 0x61 ∷ 0x61 ∷ [])) (character (0x31 ∷ [])) ∷ [])) ∷
          [];
    }

-- only the latest open message can be finished; a refused call changes nothing
abbrev pub latest_token : Example
latest_token =
    record {
      start = fresh_session;
      calls =
          (finish us table 0 None, refused 10) ∷
          (bring us table (message 0x101 0x0D 0xC01C0001), answered (Some 0) (Value zero_result) []) ∷
          (bring us table (message 0x101 0x31 0xC0020001), answered (Some 1) (Value zero_result) []) ∷
          (finish us table 0 None, refused 10) ∷
          (finish us table 2 None, refused 10) ∷
          (finish us table 1 None, answered None lent []) ∷
          (finish us table 1 None, refused 10) ∷
          (finish us table 0 None, answered None lent (key_event code.Enter (named key-Enter) None at.Standard Released false false None (named key-Enter) ∷ key_event code.Digit1 (character (0x31 ∷ [])) None at.Standard Released false false None (character (0x31 ∷ [])) ∷ [])) ∷
          (finish us table 0 None, refused 10) ∷
          [];
    }

-- behind a press and 254 releases inside it: 256 entries pass, 257 are refused 7; focus counts the events that it would write; one call hands out all 256
abbrev pub entries : Example
entries =
    record {
      start = record { handed = 255; entries = waiting 0 (press 0x31 (key_lparam 0x20001)) ∷ numbered 1 (times 254 (key_event code.Digit1 (character (0x31 ∷ [])) None at.Standard Released false false None (character (0x31 ∷ []))) []); held = None };
      calls =
          (bring us_shift table (message 0x07 0x00 0x00), refused 7) ∷
          (bring us_control table (message 0x07 0x00 0x00), answered None lent []) ∷
          (bring us table (message 0x07 0x00 0x00), answered None lent []) ∷
          (bring us_control table (message 0x08 0x00 0x00), refused 7) ∷
          (bring us table (message 0x101 0x31 0xC0020001), refused 7) ∷
          (finish us table 0 None, answered None lent (key_event code.Digit1 (unidentified (native.Windows 0x02)) None at.Standard Pressed false false None (character (0x31 ∷ [])) ∷ times 254 (key_event code.Digit1 (character (0x31 ∷ [])) None at.Standard Released false false None (character (0x31 ∷ []))) (key_event code.ControlLeft (named key-Control) None at.Left Pressed false true None (named key-Control) ∷ []))) ∷
          (bring us table (message 0x101 0x31 0xC0020001), answered (Some 0) (Value zero_result) []) ∷
          (finish us table 0 None, answered None lent (key_event code.Digit1 (character (0x31 ∷ [])) None at.Standard Released false false None (character (0x31 ∷ [])) ∷ [])) ∷
          [];
    }

-- behind a press and 4,094 fakes inside it: the 4,096th token passes, the 4,097th is refused 8; focus without an event passes; tokens restart
abbrev pub tokens : Example
tokens =
    record {
      start = record { handed = 4095; entries = waiting 0 (press 0x31 (key_lparam 0x20001)) ∷ []; held = None };
      calls =
          (bring us_shift table (message 0x07 0x00 0x00), refused 8) ∷
          (bring us table (message 0x101 0x31 0xC0020001), answered (Some 4095) (Value zero_result) []) ∷
          (bring us_control table (message 0x07 0x00 0x00), refused 8) ∷
          (bring us table (message 0x07 0x00 0x00), answered None lent []) ∷
          (finish us table 4095 None, answered None lent []) ∷
          (bring us table (message 0x101 0x31 0xC0020001), refused 8) ∷
          (finish us table 0 None, answered None lent (key_event code.Digit1 (unidentified (native.Windows 0x02)) None at.Standard Pressed false false None (character (0x31 ∷ [])) ∷ key_event code.Digit1 (character (0x31 ∷ [])) None at.Standard Released false false None (character (0x31 ∷ [])) ∷ [])) ∷
          (bring us table (message 0x101 0x31 0xC0020001), answered (Some 0) (Value zero_result) []) ∷
          (finish us table 0 None, answered None lent (key_event code.Digit1 (character (0x31 ∷ [])) None at.Standard Released false false None (character (0x31 ∷ [])) ∷ [])) ∷
          [];
    }

abbrev pub examples : List Example
examples =
    digit ∷ surrogate_pair ∷ dead_key_and_letter ∷ alt_gr ∷ focus_inside ∷ quit_behind_press ∷ quit_behind_release ∷ quit_behind_character ∷ enter ∷ dead_key_and_text ∷ control_at_press ∷ control_at_character ∷ bare_control ∷ alt_gr_text ∷ unpaired ∷ unpaired_behind_letter ∷ dead_character_behind_text ∷ dead_without_character ∷ dead_at_focus ∷ no_text ∷ listed_unidentified ∷ release_key ∷ toggles_at_focus ∷ pause_at_focus ∷ num-lock ∷ page_e1 ∷ menu_and_above ∷ unlisted_code ∷ wide_surrogate ∷ zero_units ∷ one_piece ∷ several-pieces ∷ no_ranges_of_class ∷ joined_pictographs ∷ two_joiners ∷ flags ∷ syllables ∷ conjunct ∷ around_a_letter ∷ table_of_the_last_finish ∷ wide_kind ∷ close_window ∷ press_by_finish ∷ release_by_open ∷ release_fake_by_finish ∷ release_fake_any_kind ∷ fake_by_lparam ∷ fake_control_alone ∷ nested_press_completed ∷ nested_dead_character ∷ outer_press_forgets ∷ fake_press_forgets ∷ dropped_first ∷ nested_order ∷ held_through_focus ∷ no_token_kept ∷ nothing_held ∷ table_refused ∷ eight_open ∷ sixteen_units ∷ latest_token ∷ entries ∷ tokens ∷ []
