-- The values of SCOPE 8.1 hold of the definitions: one test, computed.
-- Assumes nothing.
use lib.Dec.{T}
use Rattle.area.specs.Look.{assoc}
use Rattle.text.specs.Unicode.{scalar, encode_with, utf16_of, utf8_of, unit_step, utf16_step, read_from, text_of}
use Rattle.text.specs.Message.{char_units}
use Rattle.keys.specs.Location.{location_number}
use Rattle.keys.specs.Number.{code_number}
use Rattle.lookup.specs.Codes.{scan_codes, key_code_of}
use Rattle.lookup.specs.LParam.{ex_scancode, ex_scancode_of, key_lparam}
use Rattle.lookup.specs.Modifiers.{remove_only_ctrl}
use Rattle.lookup.specs.Layout.{vkey_for}
use Rattle.lookup.specs.Location.{places, vkey_place, location_in, extended_code, location_of}
use Rattle.examples.specs.Values.{right}

pub values_hold : T right
unfolding assoc scalar encode_with utf16_of utf8_of unit_step utf16_step read_from text_of char_units location_number code_number scan_codes key_code_of ex_scancode ex_scancode_of key_lparam remove_only_ctrl vkey_for places vkey_place location_in extended_code location_of
values_hold = tt
