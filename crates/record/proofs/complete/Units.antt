-- Units written behind those that the held press has, and their number.
-- Assumes nothing.
use mathlib.Core.Path.{◌≡◌, refl, sym, ap, ◌∙◌}
use mathlib.Core.Bool.{true}
use mathlib.Core.List.{List, [], ◌∷◌, ◌++◌, append_assoc, append-nil}
use Prim.Native.Nat.{ℕ, ◌+◌, ◌-◌, ◌*◌, ◌≤◌, ◌<◌}
use native.Mathlib.Nat.{add-zero, mod-eq_of_lt}
use native.Mathlib.Omega.{arith}
use lib.ListN.{length, drop, get_or, replicate, length-append, length-replicate}
use lib.Seq.{get_or-drop}
use Rattle.std.specs.Prelude.{Option, None, Some}
use Rattle.area.specs.Bytes.{le}
use Rattle.area.specs.Splice.{splice, padded}
use Rattle.area.proofs.Bytes.{length-le}
use Rattle.area.proofs.Splice.{chain, length-splice, splice-within, splice-behind, over_zeros}
use Rattle.text.specs.Message.{char_units}
use Rattle.text.specs.Stored.{two_units, unit_in, units_in}
use Rattle.text.specs.declared.CharUnits.{CharUnits}
use Rattle.text.proofs.Message.{added_units, added_count}
use Rattle.session.specs.Limits.{UNITS_MOST, HELD_SIZE}
use Rattle.session.specs.Event.{Held}
use Rattle.session.specs.Codec.{number, pair, via, put_many, list_of}
use Rattle.session.specs.Area.{flag, info, held}
use Rattle.session.specs.Builder.{with_units}
use Rattle.session.proofs.Codec.{many_count}
use Rattle.session.proofs.Area.{held-sound, held-width}
use Rattle.record.proofs.Records.{units, held_got}
use Rattle.record.proofs.complete.Kept.{kept_length, stands}

-- ---- the units of a character message

pub one_unit :
    (a : CharUnits) (at : ℕ) (x : List ℕ) {y : List ℕ} → a.second ≡ None → y ≡ splice at (le 2 a.first) x →
    y ≡ splice at (put_many (number 2) (units_in a)) x
unfolding put_many number
one_unit a at x e p =
    p
    ∙ ap (λ (t : List ℕ). splice at t x) (sym (append-nil (le 2 a.first)))
    ∙ sym (ap (λ (o : Option ℕ). splice at (put_many (number 2) (a.first ∷ unit_in o)) x) e)

pub two-units :
    (a : CharUnits) (v at : ℕ) (x : List ℕ) {y z : List ℕ} → a.second ≡ Some v → y ≡ splice at (le 2 a.first) x →
    z ≡ splice (at + 2) (le 2 v) y → z ≡ splice at (put_many (number 2) (units_in a)) x
unfolding put_many number
two-units a v at x e p q =
    chain at 2 (le 2 a.first) (le 2 v) x (length-le 2 a.first) p q
    ∙ ap (λ (t : List ℕ). splice at (le 2 a.first ++ t) x) (sym (append-nil (le 2 v)))
    ∙ sym (ap (λ (o : Option ℕ). splice at (put_many (number 2) (a.first ∷ unit_in o)) x) e)

-- ---- the bytes of units: their number, two bytes for each, zeros behind

units-length : (l : List ℕ) → length (put_many (number 2) l) ≡ 2 * length l
unfolding put_many number le
units-length [] = refl
units-length (u ∷ l) = omega (arith, units-length l)

list_put :
    (l : List ℕ) → length l < 256 →
    (list_of 1 UNITS_MOST (number 2)).put l ≡ length l ∷ (put_many (number 2) l ++ replicate (2 * UNITS_MOST - 2 * length l) 0)
unfolding list_of number padded le
list_put l h = rw (mod-eq_of_lt h, units-length l)

-- ---- units behind others

many_append : (us vs : List ℕ) → put_many (number 2) (us ++ vs) ≡ put_many (number 2) us ++ put_many (number 2) vs
unfolding put_many
many_append [] vs = refl
many_append (u ∷ us) vs =
    ap (λ (t : List ℕ). (number 2).put u ++ t) (many_append us vs) ∙ sym (append_assoc ((number 2).put u) (put_many (number 2) us) (put_many (number 2) vs))

-- behind the bytes p and a count n: more bytes over the zeros, then another count
list_behind :
    (n t i j z : ℕ) (p q v : List ℕ) → i ≡ length p → j ≡ length p + length (n ∷ q) → length v ≤ z →
    splice i (t ∷ []) (splice j v (p ++ (n ∷ (q ++ replicate z 0)))) ≡ p ++ (t ∷ (q ++ (v ++ replicate (z - length v) 0)))
unfolding splice
list_behind n t i j z p q v ei ej h =
    let l : List ℕ = n ∷ q in
    let zs : List ℕ = replicate z 0 in
    let r : List ℕ = v ++ replicate (z - length v) 0 in
    let e : splice j v (p ++ (l ++ zs)) ≡ p ++ (l ++ r) =
    ap (λ (k : ℕ). splice k v (p ++ (l ++ zs))) ej
    ∙ splice-behind (length l) v p (l ++ zs)
    ∙ ap (λ (k : ℕ). p ++ splice k v (l ++ zs)) (sym (add-zero (length l)))
    ∙ ap (λ (y : List ℕ). p ++ y) (splice-behind 0 v l zs ∙ ap (λ (y : List ℕ). l ++ y) (over_zeros v z h)) in
    ap (λ (y : List ℕ). splice i (t ∷ []) y) e
    ∙ ap (λ (k : ℕ). splice k (t ∷ []) (p ++ (l ++ r))) (ei ∙ sym (add-zero (length p)))
    ∙ splice-behind 0 (t ∷ []) p (l ++ r)

-- the list of the units, behind the bytes p
units_added :
    (p us vs : List ℕ) → length p ≡ 71 → length us + length vs ≤ UNITS_MOST →
    splice 71 ((length us + length vs) ∷ []) (splice (72 + 2 * length us) (put_many (number 2) vs) (p ++ units.put us)) ≡ p ++ units.put (us ++ vs)
units_added p us vs h m =
    let t = length us + length vs in
    let q = put_many (number 2) us in
    let v = put_many (number 2) vs in
    let z = 2 * UNITS_MOST - 2 * length us in
    let lq = units-length us in
    let lv = units-length vs in
    let la = length-append us vs in
    let e : 2 * UNITS_MOST - 2 * length (us ++ vs) ≡ z - length v = omega arith in
    let whole : units.put (us ++ vs) ≡ t ∷ (q ++ (v ++ replicate (z - length v) 0)) =
    list_put (us ++ vs) (omega arith)
    ∙ (λ j. la j ∷ (many_append us vs j ++ replicate {A = ℕ} (e j) 0))
    ∙ ap (λ (y : List ℕ). t ∷ y) (append_assoc q v (replicate (z - length v) 0)) in
    ap (λ (y : List ℕ). splice 71 (t ∷ []) (splice (72 + 2 * length us) v (p ++ y))) (list_put us (omega arith))
    ∙ list_behind (length us) t 71 (72 + 2 * length us) z p q v (sym h) (omega arith) (omega arith)
    ∙ ap (λ (y : List ℕ). p ++ y) (sym whole)

units-size : (us : List ℕ) → length us ≤ UNITS_MOST → length (units.put us) ≡ 33
units-size us m =
    let z = 2 * UNITS_MOST - 2 * length us in
    ap length (list_put us (omega arith))
    ∙ omega (arith, length-append (put_many (number 2) us) (replicate z 0), units-length us, length-replicate {A = ℕ} z 0)

-- ---- the held press

-- what stands before its units
abbrev before-units : Held → List ℕ
before-units h = info.put h.info ++ ((number 2).put h.vkey ++ flag.put h.mark)

held_as : (h : Held) → held.put h ≡ before-units h ++ units.put h.units
unfolding held via pair
held_as h =
    let i = info.put h.info in
    let v = (number 2).put h.vkey in
    let m = flag.put h.mark in
    let u = units.put h.units in
    sym (append_assoc i (v ++ m) u ∙ ap (λ (y : List ℕ). i ++ y) (append_assoc v m u))

more_as : (h : Held) (vs : List ℕ) → held.put (with_units h vs) ≡ before-units h ++ units.put (h.units ++ vs)
unfolding with_units
more_as h vs = held_as (with_units h vs)

held_more :
    (h : Held) (vs : List ℕ) → length (held.put h) ≡ HELD_SIZE → length h.units + length vs ≤ UNITS_MOST →
    splice 71 ((length h.units + length vs) ∷ []) (splice (72 + 2 * length h.units) (put_many (number 2) vs) (held.put h)) ≡ held.put (with_units h vs)
held_more h vs e m =
    let us = h.units in
    let p = before-units h in
    let s = ap length (held_as h) in
    let l : length p ≡ 71 = omega (arith, s, e, length-append p (units.put us), units-size us (omega arith)) in
    ap (λ (y : List ℕ). splice 71 ((length us + length vs) ∷ []) (splice (72 + 2 * length us) (put_many (number 2) vs) y)) (held_as h)
    ∙ units_added p us vs l m
    ∙ sym (more_as h vs)

module _ (x : List ℕ) (b : (i : ℕ) → get_or x i 0 < 256) (at : ℕ) (h : at + HELD_SIZE ≤ length x) (o : held.ok (drop at x) ≡ true) where
  pub units-count : length (held.get (drop at x)).units ≡ get_or x (at + 71) 0
  units-count =
      ap (λ (p : Held). length p.units) (held_got (drop at x))
      ∙ many_count (number 2) (get_or (drop at x) 71 0) (drop 72 (drop at x))
      ∙ get_or-drop at x 71 0

  pub few_units :
      (w : ℕ) (a : CharUnits) → a ≡ two_units (char_units w) → length (held.get (drop at x)).units + length (char_units w) ≤ UNITS_MOST →
      get_or x (at + 71) 0 + length (units_in a) ≤ UNITS_MOST
  few_units w a e m = omega (arith, units-count, added_count w a e)

  held-size : length (held.put (held.get (drop at x))) ≡ HELD_SIZE
  held-size = kept_length held-sound HELD_SIZE held-width x b at h o

  pub units-written :
      (w : ℕ) (a : CharUnits) → a ≡ two_units (char_units w) → length (held.get (drop at x)).units + length (char_units w) ≤ UNITS_MOST →
      {n k₁ k₂ t : ℕ} {y z : List ℕ} → y ≡ splice k₁ (put_many (number 2) (units_in a)) x → z ≡ splice k₂ (t ∷ []) y → n ≡ get_or x (at + 71) 0 →
      k₁ ≡ at + 72 + 2 * n → k₂ ≡ at + 71 → t ≡ n + length (units_in a) →
      z ≡ splice at (held.put (with_units (held.get (drop at x)) (char_units w))) x
  units-written w a e m {n} {k₁} {k₂} {t} {y} {z} p q en e₁ e₂ et =
      let g = held.get (drop at x) in
      let us = g.units in
      let vs = char_units w in
      let v = put_many (number 2) vs in
      let c = units-count in
      let f₁ : k₁ ≡ at + (72 + 2 * length us) = omega arith in
      let f₂ : t ≡ length us + length vs = omega (arith, added_count w a e) in
      let here : x ≡ splice at (held.put g) x = sym (stands held-sound HELD_SIZE held-width x b at h o) in
      let s = splice (72 + 2 * length us) v (held.put g) in
      let y' : y ≡ splice at s x =
      p
      ∙ (λ j. splice (f₁ j) (put_many (number 2) (added_units w a e j)) (here j))
      ∙ splice-within at (72 + 2 * length us) v (held.put g) x (omega (arith, held-size, units-length vs)) in
      q
      ∙ (λ j. splice (e₂ j) (f₂ j ∷ []) (y' j))
      ∙ splice-within at 71 ((length us + length vs) ∷ []) s x
      (omega (arith, held-size, length-splice (72 + 2 * length us) v (held.put g)))
      ∙ ap (λ (r : List ℕ). splice at r x) (held_more g vs held-size m)
