-- What the lookups answer is of its type and within its limits, where the layout's maps are in order: get_key's key and text, the scan
-- codes and virtual keys of a message and of the tables, the key code of a scan code.
-- Assumes nothing.
use Rattle.std.specs.Prelude.{Option, Some, None}
use mathlib.Core.Path.{◌≡◌, refl}
use mathlib.Core.Bool.{Bool, true, false}
use mathlib.Core.List.{List, [], ◌∷◌}
use Prim.Native.Nat.{ℕ, zero, suc, ◌+◌, ◌^◌, ◌≤◌, ◌<◌}
use native.Mathlib.Omega.{arith}
use lib.Dec.{eqb, ltb, leb}
use lib.ListN.{length, get_or}
use borrow.Author.Tests.{lt-ltb, ltb-false, leb-true, eqb-false, eq-eqb, ne_eqb, ltb-true}
use Rattle.area.specs.Pick.{pick}
use Rattle.area.proofs.Pick.{no_yes, yes_no, chosen}
use Rattle.area.proofs.Switch.{all_pass, found_passes}
use Rattle.text.specs.Unicode.{well_formed}
use Rattle.text.proofs.Text.{wellformed_empty}
use Rattle.keys.specs.Places.{first_named}
use Rattle.keys.specs.Native.{native_fits}
use Rattle.keys.specs.Key.{named_ok, key_number, key_fits}
use Rattle.keys.specs.Text.{FullKey, named, unidentified, bare_of, text_in}
use Rattle.keys.specs.declared.NativeKeyCode.TheVariants.{Windows}
use Rattle.keys.specs.declared.key_code.KeyCode.{KeyCode}
use Rattle.keys.specs.CodeKey.{code_key, code_key_ok, code_fits}
use Rattle.keys.specs.Number.{code_native}
use Rattle.lookup.specs.Sizes.{ENTRY_TEXT_MOST}
use Rattle.lookup.specs.Maps.{Item, CodeItem, Maps, MapsOk, find, find_code, list_for, len_ok, value_ok, item_ok, items_ok, numbered, numbered_all, codes_fit, code_lists_ok, vkey_ok, non_char_ok, word, cells_ok}
use Rattle.lookup.specs.Layout.{or_else, non_char_key, as_named, get_key, scan_code_for, message_scancode}
use Rattle.lookup.specs.LParam.{repeat_bits, key_lparam, ex_scancode, virtual_key}
use Rattle.lookup.specs.declared.keyboard.KeyLParam.{KeyLParam}
use Rattle.lookup.specs.Codes.{scan_codes, key_code_of}

-- ---- one answer behind another

-- P holds of the value, if there is one
abbrev pub Each : {A : Type 0} → (A → Type 0) → Option A → Type 0
Each P None = Unit {0}
Each P (Some a) = P a

pub or-else : {A : Type 0} (P : A → Type 0) (o : Option A) {d : A} → Each P o → P d → P (or_else o d)
or-else P None p q = q
or-else P (Some a) p q = p

-- ---- a key in order

abbrev pub Ok : FullKey → Type 0
Ok k = value_ok k ≡ true

-- it is one of its type, and a character has a text of 1 to 24 bytes of UTF-8
pub record InOrder (k : FullKey) : Type 0 where
  pub fits : key_fits (bare_of k) ≡ true
  pub filled : key_number (bare_of k) ≡ 0 → 0 < length (text_in k)
  pub within : key_number (bare_of k) ≡ 0 → length (text_in k) ≤ ENTRY_TEXT_MOST
  pub formed : well_formed (text_in k) ≡ true

-- the length of a character's text
length_in : (n len : ℕ) → len_ok n len ≡ true → n ≡ 0 → (0 < len) × (len ≤ ENTRY_TEXT_MOST)
unfolding len_ok
length_in n len e z =
    let p = no_yes (eqb len 0) (leb len ENTRY_TEXT_MOST) (rw (eq-eqb n 0 z) at e) in
    let a = eqb-false len 0 p.0 in (omega arith, leb-true len ENTRY_TEXT_MOST p.1)

pub in_order_lem : (k : FullKey) → Ok k → InOrder k
unfolding value_ok
in_order_lem k e =
    let a = yes_no (key_fits (bare_of k)) _ e in
    let b = yes_no (len_ok (key_number (bare_of k)) (length (text_in k))) _ a.1 in
    let l = length_in (key_number (bare_of k)) (length (text_in k)) b.0 in
    record { fits = a.0; filled = λ z. (l z).0; within = λ z. (l z).1; formed = b.1 }

named_ok_lem : (n : ℕ) → named_ok n ≡ true → Ok (named n)
unfolding value_ok bare_of text_in key_fits key_number len_ok named_ok
named_ok_lem n e =
    let h = ltb-false n first_named (no_yes (ltb n first_named) _ e).0 in
    rw (e, ne_eqb n 0 (λ z. omega arith)) wellformed_empty

unidentified-ok : (n : ℕ) → n < 2 ^ 16 → Ok (unidentified (Windows n))
unfolding value_ok bare_of text_in key_fits key_number len_ok native_fits
unidentified-ok n h = rw (lt-ltb n (2 ^ 16) h) wellformed_empty

-- ---- what the maps hold

module _ (p : ℕ → Bool) where
  item_value : (lo : ℕ) (i : Item) → item_ok p lo i ≡ true → Ok i.value
  unfolding item_ok
  item_value lo i e = let a = no_yes (ltb i.key lo) _ e in (yes_no (p i.key) _ a.1).1

  found_ok : (key lo : ℕ) (its : List Item) → items_ok p lo its ≡ true → Each Ok (find key its)
  unfolding items_ok find
  found_ok key lo [] e = tt
  found_ok key lo (i ∷ r) e =
      let a = yes_no (item_ok p lo i) _ e in
      chosen (Each Ok) (eqb i.key key) (item_value lo i a.0) (found_ok key (i.key + 1) r a.1)

  found-code-ok :
      (code : KeyCode) (lo : ℕ) (its : List CodeItem) → items_ok p lo (numbered_all its) ≡ true → Each Ok (find_code code its)
  unfolding items_ok numbered_all find_code
  found-code-ok code lo [] e = tt
  found-code-ok code lo (i ∷ r) e =
      let a = yes_no (item_ok p lo (numbered i)) _ e in
      chosen (Each Ok) (eqb (code_key i.code) (code_key code)) (item_value lo (numbered i) a.0)
      (found-code-ok code (code_key i.code + 1) r a.1)

-- what a cell holds passes, as 0 does
cell_passes : (p : ℕ → Bool) (k : ℕ) (l : List ℕ) → p 0 ≡ true → cells_ok p l ≡ true → p (get_or l k 0) ≡ true
unfolding cells_ok
cell_passes p k [] z e = z
cell_passes p zero (v ∷ l) z e = (yes_no (p v) (cells_ok p l) e).0
cell_passes p (suc k) (v ∷ l) z e = cell_passes p k l z (yes_no (p v) (cells_ok p l) e).1

no_items : items_ok code_key_ok 0 (numbered_all []) ≡ true
unfolding items_ok numbered_all
no_items = refl

list-ok : (n : ℕ) (ls : List (List CodeItem)) → code_lists_ok ls ≡ true → items_ok code_key_ok 0 (numbered_all (list_for n ls)) ≡ true
unfolding code_lists_ok list_for
list-ok n [] e = no_items
list-ok zero (l ∷ ls) e =
    let a = yes_no (codes_fit l) _ e in (yes_no (items_ok code_key_ok 0 (numbered_all l)) _ a.1).0
list-ok (suc n) (l ∷ ls) e =
    let a = yes_no (codes_fit l) _ e in list-ok n ls (yes_no (items_ok code_key_ok 0 (numbered_all l)) _ a.1).1

as_named-ok : (n : ℕ) → non_char_ok n ≡ true → Each Ok (as_named n)
as_named-ok n e = go (eqb n 0) e
  where
    go : (b : Bool) → pick b true (named_ok n) ≡ true → Each Ok (pick b None (Some (named n)))
    go true e = tt
    go false e = named_ok_lem n e

-- ---- get_key's answer

module _ (m : Maps) (ok : MapsOk m) where
  non_char-ok : (vkey : ℕ) → non_char_ok (non_char_key m vkey) ≡ true
  unfolding non_char_key
  non_char-ok vkey =
      chosen (λ n. non_char_ok n ≡ true) (eqb vkey 0x12) refl (cell_passes non_char_ok vkey m.non_char_keys refl ok.non_char)

  lock_ok : (on : Bool) → items_ok vkey_ok 0 (pick on m.num_lock_on m.num_lock_off) ≡ true
  lock_ok on = chosen (λ its. items_ok vkey_ok 0 its ≡ true) on ok.on ok.off

  pub get-key-ok :
      (mods : ℕ) (num : Bool) (vkey scancode : ℕ) (code : KeyCode) → scancode < 2 ^ 16 →
      Ok (get_key m mods num vkey scancode code)
  unfolding get_key
  get-key-ok mods num vkey scancode code h =
      or-else Ok (as_named (non_char_key m vkey)) (as_named-ok (non_char_key m vkey) (non_char-ok vkey))
      (or-else Ok (find vkey (pick num m.num_lock_on m.num_lock_off)) (found_ok vkey_ok vkey 0 _ (lock_ok num))
      (or-else Ok (find_code code (list_for mods m.keys))
      (found-code-ok code_key_ok code 0 _ (list-ok mods m.keys ok.codes)) (unidentified-ok scancode h)))

-- ---- scan codes and virtual keys

pub scan_code_below : (m : Maps) → MapsOk m → (vkey : ℕ) → scan_code_for m vkey < 2 ^ 16
unfolding scan_code_for
scan_code_below m ok vkey =
    ltb-true (get_or m.scan_codes vkey 0) (2 ^ 16) (cell_passes word vkey m.scan_codes refl ok.scans)

pub vkey_small : (w : ℕ) → virtual_key w < 2 ^ 16
unfolding virtual_key
vkey_small w = omega arith

pub scan_small : (l : ℕ) → (key_lparam l).scancode < 256
unfolding key_lparam
scan_small l = omega arith

ex_below : (s : ℕ) (extended : Bool) → s < 256 → ex_scancode s extended < 2 ^ 16
unfolding ex_scancode
ex_below s true h = omega arith
ex_below s false h = omega arith

pub message-scancode_below :
    (m : Maps) → MapsOk m → (vkey : ℕ) (l : KeyLParam) → l.scancode < 256 → message_scancode m vkey l < 2 ^ 16
unfolding message_scancode
message-scancode_below m ok vkey l h =
    chosen (λ n. n < 2 ^ 16) (eqb l.scancode 0) (scan_code_below m ok vkey) (ex_below l.scancode l.extended h)

-- ---- key codes

listed_fit : all_pass code_fits scan_codes ≡ true
unfolding all_pass code_fits code_native native_fits scan_codes
listed_fit = refl

pub code_fits_lem : (n : ℕ) → n < 2 ^ 16 → code_fits (key_code_of n) ≡ true
unfolding key_code_of code_fits code_native native_fits
code_fits_lem n h = found_passes code_fits scan_codes _ n listed_fit (lt-ltb n (2 ^ 16) h)

-- the repeat of an lParam
pub repeat_of : (lparam : ℕ) → (key_lparam lparam).is_repeat ≡ repeat_bits lparam
unfolding key_lparam
repeat_of lparam = refl
