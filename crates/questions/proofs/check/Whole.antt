-- The whole area: question 4 as plain tests, in the order of the code.
-- Assumes nothing.
use mathlib.Core.Path.{◌≡◌, refl, sym, ap, ◌∙◌}
use mathlib.Core.Bool.{Bool, true, false, ◌&&◌, and_assoc, and_comm, and-true, and-false, and-eq-true_iff}
use mathlib.Core.List.{List, [], ◌∷◌, ◌++◌}
use Prim.Native.Nat.{ℕ, ◌+◌, ◌-◌, ◌*◌, ◌≤◌}
use native.Mathlib.Nat.{add_assoc}
use native.Mathlib.Omega.{arith}
use lib.Dec.{eqb, leb}
use lib.ListN.{length, take, drop, get_or}
use lib.Seq.{drop-drop, take-add}
use borrow.Author.Tests.{eq-eqb, ne_eqb, leb-true}
use Rattle.area.specs.Pick.{pick}
use Rattle.area.specs.Bytes.{num}
use Rattle.area.specs.Zero.{all_zero}
use Rattle.area.proofs.Bytes.{num-drop}
use Rattle.area.proofs.Splice.{part_rest}
use Rattle.session.specs.Limits.{AREA, OPEN_MOST, ENTRIES_MOST, TOKENS_MOST, UNITS_MOST, COUNT_AT, ENTRIES_AT, ENTRY_SIZE, HELD_FIELD_SIZE}
use Rattle.session.specs.Event.{Held}
use Rattle.session.specs.Session.{Entry, rising, first_open, open_count, units_within, in_order}
use Rattle.session.specs.Codec.{Codec, number, nothing, pair, via, slot, left, right, either, get_many, ok_many, list_of}
use Rattle.session.specs.Area.{flag, info, held, entry, from_held, held_field, session, decode, session_ok}
use Rattle.session.proofs.Codec.{many_count}
use Rattle.session.proofs.Area.{held-field-width, entry-width}
use Rattle.questions.specs.Order.{ordered}
use Rattle.record.proofs.read.Entries.{decode-entries}

-- ---- zeros behind zeros

zeros_append : (a b : List ℕ) → all_zero (a ++ b) ≡ (all_zero a && all_zero b)
unfolding all_zero
zeros_append [] b = refl
zeros_append (x ∷ a) b = ap (λ (t : Bool). eqb x 0 && t) (zeros_append a b) ∙ sym (and_assoc (eqb x 0) (all_zero a) (all_zero b))

-- a bytes from p on, and b from there on
zeros_two :
    (a b p q : ℕ) (l : List ℕ) → p + a ≡ q →
    (all_zero (take a (drop p l)) && all_zero (take b (drop q l))) ≡ all_zero (take (a + b) (drop p l))
zeros_two a b p q l e = rw (← e, take-add a b (drop p l), zeros_append (take a (drop p l)), drop-drop a p l)

-- where a full queue ends, and how much of the area is left there
abbrev QUEUE_END : ℕ
QUEUE_END = ENTRIES_AT + ENTRIES_MOST * ENTRY_SIZE

abbrev LEFT : ℕ
LEFT = AREA - QUEUE_END

-- behind n entries, and behind the list: all that is left of the area
zeros_rest :
    (x : List ℕ) (n : ℕ) → length x ≡ AREA → n ≤ ENTRIES_MOST →
    (all_zero (take ((ENTRIES_MOST - n) * ENTRY_SIZE) (drop (ENTRIES_AT + n * ENTRY_SIZE) x)) && all_zero (take LEFT (drop QUEUE_END x))) ≡ all_zero (drop (ENTRIES_AT + ENTRY_SIZE * n) x)
zeros_rest x n h k =
    let p = ENTRIES_AT + n * ENTRY_SIZE in
    let e : p + (ENTRIES_MOST - n) * ENTRY_SIZE ≡ QUEUE_END = omega arith in
    let f : (ENTRIES_MOST - n) * ENTRY_SIZE + LEFT ≡ length x - p = omega arith in
    let g : p ≡ ENTRIES_AT + ENTRY_SIZE * n = omega arith in
    zeros_two ((ENTRIES_MOST - n) * ENTRY_SIZE) LEFT p QUEUE_END x e
    ∙ ap (λ (m : ℕ). all_zero (take m (drop p x))) f
    ∙ ap all_zero (part_rest p x)
    ∙ ap (λ (m : ℕ). all_zero (drop m x)) g

-- ---- a list that is read

module _ {A : Type 0} (k m : ℕ) (X : Codec A) where
  list_within : (l : List ℕ) → (list_of k m X).ok l ≡ true → leb (length ((list_of k m X).get l)) m ≡ true
  unfolding list_of
  list_within l o = rw (many_count X (num k 0 l) (drop k l)) ((and-eq-true_iff (leb (num k 0 l) m) _).0 o).0

-- a list from p on: its count, its values, the zeros
module _ {A : Type 0} (k m w : ℕ) (X : Codec A) (e : X.width ≡ w) (p : ℕ) (x : List ℕ) where
  list-ok :
      (list_of k m X).ok (drop p x) ≡ (leb (num k (p + 0) x) m && (ok_many X (num k (p + 0) x) (drop (p + k) x) && all_zero (take ((m - num k (p + 0) x) * w) (drop (p + k + num k (p + 0) x * w) x))))
  unfolding list_of
  list-ok =
      rw (e, num-drop k 0 p x, drop-drop k p x, drop-drop (k + num k (p + 0) x * w) p x, add_assoc p k (num k (p + 0) x * w))

-- ---- the units of a held press

held-units : (l : List ℕ) → held.ok l ≡ true → leb (length (held.get l).units) UNITS_MOST ≡ true
unfolding held via pair number
held-units l o =
    let a = (and-eq-true_iff (info.ok l) _).0 o in
    let b = (and-eq-true_iff (flag.ok _) _).0 a.1 in list_within 1 UNITS_MOST (number 2) _ b.1

units_in : (b : Bool) (p q : Bool) (h : Held) → (q ≡ true → leb (length h.units) UNITS_MOST ≡ true) → pick b p q ≡ true → units_within (from_held (pick b (left tt) (right h))) ≡ true
unfolding units_within
units_in true p q h f o = refl
units_in false p q h f o = f o

units : (l : List ℕ) → held_field.ok l ≡ true → units_within (held_field.get l) ≡ true
unfolding held_field via either slot nothing
units l o =
    units_in (eqb (get_or l 0 0) 0) _ _ (held.get (drop 1 l))
    (λ q. held-units (drop 1 l) ((and-eq-true_iff (eqb (get_or l 0 0) 1) (held.ok (drop 1 l))).0 q).1) o

-- ---- the area

queue_width : (list_of 2 ENTRIES_MOST entry).width ≡ 2 + ENTRIES_MOST * ENTRY_SIZE
unfolding list_of
queue_width = rw entry-width

-- the same tests in the order of the code, where some follow from others
settle :
    (t h n o y z r f k u w : Bool) → (h ≡ true → u ≡ true) → (n ≡ true → (y && z) ≡ w) →
    (((h && (n && (o && y))) && z) && (r && (f && (k && (n && (t && u)))))) ≡ (t && (h && (n && (w && (o && (r && (f && k)))))))
settle t false n o y z r f k u w a b = sym (and-false t)
settle t true false o y z r f k u w a b = sym (and-false t)
settle t true true o y z r f k u w a b = rw (a refl, and-true, ← b refl) (go o)
  where
    go : (o : Bool) → (((o && y) && z) && (r && (f && (k && t)))) ≡ (t && ((y && z) && (o && (r && (f && k)))))
    go false = rw (and-false, and-false)
    go true =
        ap (λ (v : Bool). (y && z) && v) (ap (λ (v : Bool). r && v) (sym (and_assoc f k t)) ∙ sym (and_assoc r (f && k) t))
        ∙ sym (and_assoc (y && z) (r && (f && k)) t)
        ∙ and_comm ((y && z) && (r && (f && k))) t

module _ (x : List ℕ) where
  abbrev Count : ℕ
  Count = num 2 COUNT_AT x

  abbrev Queue : List Entry
  Queue = get_many entry Count (drop ENTRIES_AT x)

  -- zeros behind the entries, and behind the list
  abbrev Behind : Bool
  Behind = all_zero (take ((ENTRIES_MOST - Count) * ENTRY_SIZE) (drop (ENTRIES_AT + Count * ENTRY_SIZE) x))

  abbrev Last : Bool
  Last = all_zero (take LEFT (drop QUEUE_END x))

  area-ok : session.ok x ≡ ((held_field.ok (drop 2 x) && (leb Count ENTRIES_MOST && (ok_many entry Count (drop ENTRIES_AT x) && Behind))) && Last)
  unfolding session slot via pair number
  area-ok = rw (held-field-width, queue_width, drop-drop HELD_FIELD_SIZE 2 x, list-ok 2 ENTRIES_MOST ENTRY_SIZE entry entry-width COUNT_AT x)

  handed_is : (decode x).handed ≡ num 2 0 x
  unfolding decode session slot via pair number
  handed_is = refl

  held_is : (decode x).held ≡ held_field.get (drop 2 x)
  unfolding decode session slot via pair number
  held_is = refl

  in_order_lem :
      in_order (decode x) ≡ (rising 0 (num 2 0 x) Queue && (first_open (num 2 0 x) Queue && (leb (open_count Queue) OPEN_MOST && (leb Count ENTRIES_MOST && (leb (num 2 0 x) TOKENS_MOST && units_within (held_field.get (drop 2 x)))))))
  unfolding in_order
  in_order_lem = rw (handed_is, held_is, decode-entries x, many_count entry Count (drop ENTRIES_AT x))

-- ---- question 4 of x, with the tokens handed out and the number of entries that stand there

abbrev pub Asked : List ℕ → Bool
Asked x = eqb (length x) AREA && session_ok x

module _ (x : List ℕ) (handed count : ℕ) where
  -- the order of the entries, and one after the other what is tested before it
  abbrev pub by_order : Bool
  by_order = ordered handed (get_many entry count (drop ENTRIES_AT x))

  abbrev pub by_entries : Bool
  by_entries = ok_many entry count (drop ENTRIES_AT x) && by_order

  abbrev pub by_zeros : Bool
  by_zeros = all_zero (drop (ENTRIES_AT + ENTRY_SIZE * count) x) && by_entries

  abbrev pub by_count : Bool
  by_count = leb count ENTRIES_MOST && by_zeros

  abbrev pub by_held : Bool
  by_held = held_field.ok (drop 2 x) && by_count

  abbrev pub by_tokens : Bool
  by_tokens = leb handed TOKENS_MOST && by_held

pub no_size : (x : List ℕ) → (length x ≡ AREA → ⊥) → false ≡ Asked x
no_size x a = rw (ne_eqb (length x) AREA a)

pub by_size : (x : List ℕ) → length x ≡ AREA → Asked x ≡ by_tokens x (num 2 0 x) (Count x)
unfolding session_ok
by_size x h =
    rw (eq-eqb (length x) AREA h, area-ok x, in_order_lem x)
    (settle (leb (num 2 0 x) TOKENS_MOST) (held_field.ok (drop 2 x)) (leb (Count x) ENTRIES_MOST) (ok_many entry (Count x) (drop ENTRIES_AT x)) (Behind x) (Last x) (rising 0 (num 2 0 x) (Queue x)) (first_open (num 2 0 x) (Queue x)) (leb (open_count (Queue x)) OPEN_MOST) (units_within (held_field.get (drop 2 x))) (all_zero (drop (ENTRIES_AT + ENTRY_SIZE * Count x) x)) (units (drop 2 x)) (λ k. zeros_rest x (Count x) h (leb-true (Count x) ENTRIES_MOST k)))
