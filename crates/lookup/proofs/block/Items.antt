-- An entry and a list of entries: the bytes of items that are in order pass and are read as these items, and bytes that pass are those of the items that they are read as.
-- Assumes nothing.
use mathlib.Core.Path.{◌≡◌, refl, sym, ap, ◌∙◌}
use mathlib.Core.Bool.{Bool, true, false}
use mathlib.Core.List.{List, [], ◌∷◌, ◌++◌, append_assoc}
use Prim.Native.Nat.{ℕ, zero, suc, ◌+◌, ◌-◌, ◌^◌, ◌≤◌, ◌<◌}
use native.Mathlib.Nat.{add-zero}
use native.Mathlib.Omega.{arith}
use lib.Dec.{eqb, ltb, leb}
use lib.ListN.{length, drop, length-append, length-drop, take-append-drop}
use lib.Seq.{drop-cons, drop-drop, take_at, drop_at, length-take-le}
use borrow.Author.Tests.{le-ltb, leb-true, ltb-false, eqb-true}
use Rattle.area.specs.Pick.{pick}
use Rattle.area.specs.Bytes.{Bytes, le, num}
use Rattle.area.proofs.Pick.{no_yes, yes_no}
use Rattle.area.proofs.Bytes.{bytes-append, num-drop, num-le, bytes_le, bytes_drop, le-num}
use Rattle.text.specs.Unicode.{well_formed}
use Rattle.text.proofs.Text.{wellformed_bytes}
use Rattle.keys.specs.Places.{key_cases}
use Rattle.keys.specs.Key.{key_number, key_aux, key_value, key_fits, key_ok, key_at}
use Rattle.keys.specs.Text.{FullKey, full, bare_of, text_in}
use Rattle.keys.proofs.Numbers.{key_below, key_back, key_exact, number-character}
use Rattle.keys.proofs.Full.{full_bare, bare_full, text-character, text_empty}
use Rattle.lookup.specs.Sizes.{ENTRY_HEAD, ENTRY_TEXT_MOST}
use Rattle.lookup.specs.Maps.{Item, len_ok, value_ok, item_ok, items_ok}
use Rattle.lookup.specs.Block.{key_of, number_of, aux_of, len_of, val_of, entry_text, next_of, entry_ok, item_of, list_ok, used_of, items_of}
use Rattle.lookup.specs.Encode.{put, encode_item, encode_items}
use Rattle.lookup.proofs.block.Entry.{there}

-- ---- from items to bytes

-- what is read at the head of l, and what stands behind it
pub record Fields (l : List ℕ) (k n a v : ℕ) (t r : List ℕ) : Type 0 where
  pub key : key_of l ≡ k
  pub number : number_of l ≡ n
  pub aux : aux_of l ≡ a
  pub len : len_of l ≡ length t
  pub val : val_of l ≡ v
  pub text : entry_text l ≡ t
  pub next : next_of l ≡ r
  pub room : length l ≡ ENTRY_HEAD + (length t + length r)

module _ (k n a v : ℕ) (t r : List ℕ) where
  abbrev Laid : List ℕ
  Laid = le 8 k ++ (le 2 n ++ (a ∷ length t ∷ (le 4 v ++ (t ++ r))))

  laid : put k n a v t ++ r ≡ Laid
  unfolding put
  laid = simp append_assoc

  pub put-fields : k < 256 ^ 8 → n < 256 ^ 2 → v < 256 ^ 4 → Fields (put k n a v t ++ r) k n a v t r
  unfolding le
  put-fields hk hn hv =
      rw laid
      (record {
        key = num-le 8 k _ hk;
        number = sym (num-drop 2 0 8 Laid) ∙ num-le 2 n _ hn;
        aux = refl;
        len = refl;
        val = sym (num-drop 4 0 12 Laid) ∙ num-le 4 v (t ++ r) hv;
        text = take_at t r (length t) refl;
        next = sym (drop-drop (length t) ENTRY_HEAD Laid) ∙ drop_at t r (length t) refl;
        room = omega (arith, length-append t r);
      })

-- an entry passes by its parts
entry_yes :
    (p : ℕ → Bool) (lo : ℕ) (l : List ℕ) → ENTRY_HEAD + len_of l ≤ length l → lo ≤ key_of l → p (key_of l) ≡ true →
    key_ok (number_of l) (aux_of l) (val_of l) ≡ true → len_ok (number_of l) (len_of l) ≡ true → well_formed (entry_text l) ≡ true →
    entry_ok p lo l ≡ true
unfolding entry_ok
entry_yes p lo l a b c d e f =
    rw (le-ltb (length l) ENTRY_HEAD (omega arith), le-ltb (key_of l) lo b, c, d, e, le-ltb (length l - ENTRY_HEAD) (len_of l) (omega arith), f)

item_eq : (i : Item) (k : ℕ) (f : FullKey) → k ≡ i.key → f ≡ i.value → ◌≡◌ {A = Item} (record { key = k; value = f }) i
item_eq i k f a b = rw (a, b)

pub encoded_length : (i : Item) → length (encode_item i) ≡ ENTRY_HEAD + length (text_in i.value)
unfolding encode_item put le
encoded_length i = omega arith

-- SCOPE 5.2: texts of 1 to 24 bytes
pub len_below : (n len : ℕ) → len_ok n len ≡ true → len ≤ ENTRY_TEXT_MOST
unfolding len_ok
len_below n len e = go (eqb n 0) e
  where
    go : (b : Bool) → pick b (pick (eqb len 0) false (leb len ENTRY_TEXT_MOST)) (eqb len 0) ≡ true → len ≤ ENTRY_TEXT_MOST
    go true e = leb-true len ENTRY_TEXT_MOST (no_yes (eqb len 0) _ e).1
    go false e = let z = eqb-true len 0 e in omega arith

-- the three numbers of an item's value
module _ (i : Item) where
  abbrev pub Number : ℕ
  Number = key_number (bare_of i.value)

  abbrev pub Aux : ℕ
  Aux = key_aux (bare_of i.value)

  abbrev pub Value : ℕ
  Value = key_value (bare_of i.value)

-- what the conditions on an item say
pub record Fit (p : ℕ → Bool) (lo : ℕ) (i : Item) : Type 0 where
  pub least : lo ≤ i.key
  pub key : p i.key ≡ true
  pub fields : key_ok (Number i) (Aux i) (Value i) ≡ true
  pub same : key_at (Number i) (Aux i) (Value i) ≡ bare_of i.value
  pub number : Number i < key_cases
  pub aux : Aux i < 256
  pub value : Value i < 2 ^ 32
  pub len : len_ok (Number i) (length (text_in i.value)) ≡ true
  pub text : well_formed (text_in i.value) ≡ true

fit : (p : ℕ → Bool) (lo : ℕ) (i : Item) → item_ok p lo i ≡ true → Fit p lo i
unfolding item_ok value_ok
fit p lo i e =
    let a = no_yes (ltb i.key lo) _ e in
    let b = yes_no (p i.key) _ a.1 in
    let c = yes_no (key_fits (bare_of i.value)) _ b.1 in
    let d = yes_no (len_ok (Number i) (length (text_in i.value))) _ c.1 in
    let k = key_back (bare_of i.value) c.0 in
    let w = key_below (Number i) (Aux i) (Value i) k.1 in
    record {
      least = ltb-false i.key lo a.0;
      key = b.0;
      fields = k.1;
      same = k.0;
      number = w.0;
      aux = w.1;
      value = w.2;
      len = d.0;
      text = d.1;
    }

pub record Back (p : ℕ → Bool) (lo : ℕ) (i : Item) (r l : List ℕ) : Type 0 where
  pub ok : entry_ok p lo l ≡ true
  pub item : item_of l ≡ i
  pub next : next_of l ≡ r
  pub wide : ENTRY_HEAD + len_of l ≡ length (encode_item i)
  pub key : key_of l ≡ i.key

pub record Backs (p : ℕ → Bool) (lo : ℕ) (its : List Item) (l : List ℕ) : Type 0 where
  pub ok : list_ok p (length its) lo l ≡ true
  pub items : items_of (length its) l ≡ its
  pub used : used_of (length its) l ≡ length (encode_items its)

module _ (p : ℕ → Bool) (below : (k : ℕ) → p k ≡ true → k < 2 ^ 48) where
  -- an item in range is read back from its bytes, whatever stands behind them
  pub item_back : (lo : ℕ) (i : Item) (r : List ℕ) → item_ok p lo i ≡ true → Back p lo i r (encode_item i ++ r)
  unfolding encode_item item_of
  item_back lo i r e =
      let h = fit p lo i e in
      let s = below i.key h.key in
      let f =
      put-fields i.key (Number i) (Aux i) (Value i) (text_in i.value) r (omega arith) (omega arith) (omega arith) in
      record {
        ok = entry_yes p lo _ (omega (arith, f.len, f.room)) (omega (arith, f.key, h.least)) (rw f.key h.key) (rw (f.number, f.aux, f.val) h.fields) (rw (f.number, f.len) h.len) (rw f.text h.text);
        item = item_eq i _ _ f.key (rw (f.number, f.aux, f.val, f.text, h.same) (full_bare i.value));
        next = f.next;
        wide = omega (arith, f.len, encoded_length i);
        key = f.key;
      }

  -- so are ascending items
  pub items_back :
      (its : List Item) (lo : ℕ) (r : List ℕ) → items_ok p lo its ≡ true → Backs p lo its (encode_items its ++ r)
  unfolding items_ok encode_items list_ok items_of used_of
  items_back [] lo r e = record { ok = refl; items = refl; used = refl }
  items_back (i ∷ its) lo r e =
      let t = yes_no (item_ok p lo i) _ e in
      let b = item_back lo i (encode_items its ++ r) t.0 in
      let m = items_back its (i.key + 1) r t.1 in
      rw append_assoc
      (record {
        ok = rw (b.ok, b.key, b.next) m.ok;
        items = rw (b.item, b.next, m.items);
        used = rw (b.next, length-append) (omega (arith, b.wide, m.used));
      })

-- what is written is bytes
item-bytes : (p : ℕ → Bool) (lo : ℕ) (i : Item) → item_ok p lo i ≡ true → Bytes (encode_item i)
unfolding encode_item put
item-bytes p lo i e =
    let h = fit p lo i e in
    let n = len_below (Number i) (length (text_in i.value)) h.len in
    let v = bytes-append (le 4 (Value i)) (text_in i.value) (bytes_le 4 (Value i)) (wellformed_bytes (text_in i.value) h.text) in
    bytes-append (le 8 i.key) _ (bytes_le 8 i.key)
    (bytes-append (le 2 (Number i)) _ (bytes_le 2 (Number i)) (omega arith, (omega arith, v)))

pub items_bytes : (p : ℕ → Bool) (its : List Item) (lo : ℕ) → items_ok p lo its ≡ true → Bytes (encode_items its)
unfolding items_ok encode_items
items_bytes p [] lo e = tt
items_bytes p (i ∷ its) lo e =
    let t = yes_no (item_ok p lo i) _ e in
    bytes-append (encode_item i) (encode_items its) (item-bytes p lo i t.0) (items_bytes p its (i.key + 1) t.1)

-- ---- from bytes to items

-- a number that stands at place i, read behind what is before it, and written again
pub num_at : (k i : ℕ) (l : List ℕ) → num k 0 (drop i l) ≡ num k i l
num_at k i l = num-drop k 0 i l ∙ ap (λ (j : ℕ). num k j l) (add-zero i)

pub le_at : (k i : ℕ) (l : List ℕ) → Bytes l → i + k ≤ length l → le k (num k i l) ++ drop (i + k) l ≡ drop i l
le_at k i l b h =
    rw (← num_at k i l, ← drop-drop k i l) (le-num k (drop i l) (bytes_drop i l b) (omega (arith, length-drop i l)))

-- the pieces of an entry, put together again
module _ (l : List ℕ) (b : Bytes l) (h : ENTRY_HEAD + len_of l ≤ length l) where
  text-length : length (entry_text l) ≡ len_of l
  text-length = length-take-le (len_of l) (drop ENTRY_HEAD l) (omega (arith, length-drop ENTRY_HEAD l))

  pieces : put (key_of l) (number_of l) (aux_of l) (val_of l) (entry_text l) ++ next_of l ≡ l
  unfolding put
  pieces =
      let a = le_at 8 0 l b (omega arith) in
      let c = le_at 2 8 l b (omega arith) in
      let d : drop 10 l ≡ aux_of l ∷ drop 11 l = drop-cons l 10 0 (omega arith) in
      let e : drop 11 l ≡ len_of l ∷ drop 12 l = drop-cons l 11 0 (omega arith) in
      let f = le_at 4 12 l b (omega arith) in
      let g = take-append-drop (len_of l) (drop ENTRY_HEAD l) in
      let k : drop (len_of l) (drop ENTRY_HEAD l) ≡ next_of l = drop-drop (len_of l) ENTRY_HEAD l in
      rw text-length (simp append_assoc (cc))

-- a value that was read has the numbers and the text that it was read from
pub record Same (n a v : ℕ) (t : List ℕ) (f : FullKey) : Type 0 where
  pub number : key_number (bare_of f) ≡ n
  pub aux : key_aux (bare_of f) ≡ a
  pub val : key_value (bare_of f) ≡ v
  pub text : text_in f ≡ t
  pub fits : key_fits (bare_of f) ≡ true

nil : (t : List ℕ) → length t ≡ 0 → t ≡ []
nil [] e = refl
nil (x ∷ t) e = let z : ◌≡◌ {A = ℕ} 0 1 = omega arith in cc

module _ (n a v : ℕ) (t : List ℕ) (k : key_ok n a v ≡ true) (l : len_ok n (length t) ≡ true) where
  same_text : text_in (full (key_at n a v) t) ≡ t
  unfolding len_ok
  same_text = go (eqb n 0) refl l
    where
      x : (key_number (key_at n a v) ≡ n) × (key_aux (key_at n a v) ≡ a) × (key_value (key_at n a v) ≡ v) × (key_fits (key_at n a v) ≡ true)
      x = key_exact n a v k

      go : (b : Bool) → eqb n 0 ≡ b → pick b (pick (eqb (length t) 0) false (leb (length t) ENTRY_TEXT_MOST)) (eqb (length t) 0) ≡ true → text_in (full (key_at n a v) t) ≡ t
      go true q f = rw (number-character (key_at n a v) x.3 (x.0 ∙ eqb-true n 0 q)) (text-character t)
      go false q f = rw (nil t (eqb-true (length t) 0 f)) (text_empty (key_at n a v))

  same : Same n a v t (full (key_at n a v) t)
  same =
      let x = key_exact n a v k in
      let b = bare_full (key_at n a v) t in
      record { number = rw b x.0; aux = rw b x.1; val = rw b x.2; text = same_text; fits = rw b x.3 }

pub record Exact (p : ℕ → Bool) (lo : ℕ) (l : List ℕ) : Type 0 where
  pub ok : item_ok p lo (item_of l) ≡ true
  pub bytes : encode_item (item_of l) ++ next_of l ≡ l

pub record Exacts (p : ℕ → Bool) (n lo : ℕ) (l : List ℕ) : Type 0 where
  pub ok : items_ok p lo (items_of n l) ≡ true
  pub bytes : encode_items (items_of n l) ++ drop (used_of n l) l ≡ l
  pub count : length (items_of n l) ≡ n

key-same : (l : List ℕ) → (item_of l).key ≡ key_of l
unfolding item_of
key-same l = refl

module _ (p : ℕ → Bool) where
  -- bytes that pass as an entry are those of the item that they are read as
  pub item_exact : (lo : ℕ) (l : List ℕ) → Bytes l → entry_ok p lo l ≡ true → Exact p lo l
  unfolding item_of item_ok value_ok encode_item
  item_exact lo l b e =
      let t = there p lo l e in
      let n : len_ok (number_of l) (length (entry_text l)) ≡ true = rw (text-length l b t.room) t.len in
      let s = same (number_of l) (aux_of l) (val_of l) (entry_text l) t.fields n in
      record {
        ok = rw (t.least, t.key, s.fits, s.number, s.text, n) t.text;
        bytes = rw (s.number, s.aux, s.val, s.text) (pieces l b t.room);
      }

  -- so are bytes that pass as n entries
  pub items_exact : (n lo : ℕ) (l : List ℕ) → Bytes l → list_ok p n lo l ≡ true → Exacts p n lo l
  unfolding list_ok items_of used_of items_ok encode_items
  items_exact zero lo l b e = record { ok = refl; bytes = refl; count = refl }
  items_exact (suc n) lo l b e =
      let t = yes_no (entry_ok p lo l) _ e in
      let x = item_exact lo l b t.0 in
      let m = items_exact n (key_of l + 1) (next_of l) (bytes_drop (ENTRY_HEAD + len_of l) l b) t.1 in
      let d = drop-drop (used_of n (next_of l)) (ENTRY_HEAD + len_of l) l in
      record {
        ok = rw (x.ok, key-same l) m.ok;
        bytes = rw (append_assoc, ← d, m.bytes) x.bytes;
        count = ap suc m.count;
      }
