-- Native codes, locations and keys have one form in numbers: `-back` leads from the value to its numbers and back, `-exact` from numbers that pass the test to the value and back, `-below` bounds them.
-- Assumes nothing.
use mathlib.Core.Path.{◌≡◌, refl, sym, ap, ◌∙◌}
use mathlib.Core.Bool.{Bool, true, false}
use Prim.Native.Nat.{ℕ, zero, suc, ◌<◌, ◌≤◌, ◌^◌, ◌%◌}
use native.Mathlib.Omega.{arith}
use native.Mathlib.Nat.{mod-eq_of_lt}
use lib.Dec.{eqb, ltb}
use lib.Signed.{mag}
use mir.Syntax.{w32}
use mir.Val.{SFits, Fits, of_z, to_z}
use mir.Facts.{to_z-of_z, of_z-to_z, Fits-of_z, sfits_to_z}
use borrow.Author.Tests.{lt-ltb, ne_eqb, ltb-true, ltb-false, eqb-true}
use Rattle.area.specs.Pick.{pick}
use Rattle.area.specs.Look.{assoc}
use Rattle.area.proofs.Pick.{no_yes, yes_no}
use Rattle.text.specs.Unicode.{scalar}
use Rattle.keys.specs.Places.{first_named, key_cases}
use Rattle.keys.specs.Native.{native_kind, native_value, native_fits, native_ok, native_at}
use Rattle.keys.specs.Location.{location_number, location_cases, location_at}
use Rattle.keys.specs.Key.{named_ok, key_number, key_aux, key_value, key_fits, none_held, dead_ok, key_ok, dead_at, key_at}
use Rattle.keys.specs.declared.NativeKeyCode.{NativeKeyCode}
use Rattle.keys.specs.declared.NativeKeyCode.TheVariants as nk
use Rattle.keys.specs.declared.KeyLocation.{KeyLocation}
use Rattle.keys.specs.declared.KeyLocation.TheVariants.{Standard, Left, Right, Numpad}
use Rattle.keys.specs.declared.Key.{Key}
use Rattle.keys.specs.declared.Key.TheVariants.{Named, Character, Unidentified, Dead, DeadChar}

-- native codes

pub native_below : (k v : ℕ) → native_ok k v ≡ true → (k < 5) × (v < 2 ^ 32)
unfolding native_ok
native_below k v e = go (eqb k 0) refl (ltb k 4) refl
  where
    go : (a : Bool) → eqb k 0 ≡ a → (b : Bool) → ltb k 4 ≡ b → (k < 5) × (v < 2 ^ 32)
    go true p b q =
        let n = eqb-true k 0 p in
        let m = eqb-true v 0 (rw p at e) in
        (omega arith, omega arith)
    go false p true q =
        let n = ltb-true k 4 q in
        let m = ltb-true v (2 ^ 16) (rw (p, q) at e) in
        (omega arith, omega arith)
    go false p false q =
        let m = yes_no (ltb v (2 ^ 32)) (eqb k 4) (rw (p, q) at e) in
        let n = eqb-true k 4 m.1 in
        (omega arith, ltb-true v (2 ^ 32) m.0)

short : (n : ℕ) → ltb n (2 ^ 16) ≡ true → n % 65536 ≡ n
short n e = mod-eq_of_lt (ltb-true n (2 ^ 16) e)

pub native_back : (c : NativeKeyCode) → native_fits c ≡ true → (native_at (native_kind c) (native_value c) ≡ c) × (native_ok (native_kind c) (native_value c) ≡ true)
unfolding native_fits native_kind native_value native_at native_ok assoc
native_back nk.Unidentified e = (refl, refl)
native_back (nk.Windows n) e = (ap nk.Windows (short n e), e)
native_back (nk.MacOS n) e = (ap nk.MacOS (short n e), e)
native_back (nk.Gtk n) e = (ap nk.Gtk (short n e), e)
native_back (nk.Android z) e =
    let f : SFits w32 z = record { sfits = ltb-true (mag z) (2 ^ 31) e } in
    (ap nk.Android (to_z-of_z f), rw (lt-ltb (of_z w32 z) (2 ^ 32) (Fits-of_z f).fits))

pub native_exact : (k v : ℕ) → native_ok k v ≡ true → (native_kind (native_at k v) ≡ k) × (native_value (native_at k v) ≡ v) × (native_fits (native_at k v) ≡ true)
unfolding native_fits native_kind native_value native_at native_ok assoc
native_exact zero v e = (refl, sym (eqb-true v 0 e), refl)
native_exact (suc zero) v e = (refl, short v e, rw (short v e) e)
native_exact (suc (suc zero)) v e = (refl, short v e, rw (short v e) e)
native_exact (suc (suc (suc zero))) v e = (refl, short v e, rw (short v e) e)
native_exact (suc (suc (suc (suc zero)))) v e =
    let f : Fits w32 v = record { fits = (native_below 4 v e).1 } in
    (refl, of_z-to_z f, lt-ltb (mag (to_z w32 v)) (2 ^ 31) (sfits_to_z f).sfits)
native_exact (suc (suc (suc (suc (suc k))))) v e =
    let h = (native_below (suc (suc (suc (suc (suc k))))) v e).0 in
    let z : ⊥ = omega arith in
    absurd z

-- only the unidentified native code is of kind 0
pub kind_none : (c : NativeKeyCode) → native_kind c ≡ 0 → c ≡ nk.Unidentified
unfolding native_kind
kind_none nk.Unidentified e = refl
kind_none (nk.Windows n) e = let z : ⊥ = omega arith in absurd z
kind_none (nk.MacOS n) e = let z : ⊥ = omega arith in absurd z
kind_none (nk.Gtk n) e = let z : ⊥ = omega arith in absurd z
kind_none (nk.Android n) e = let z : ⊥ = omega arith in absurd z

-- locations

pub location_below : (l : KeyLocation) → location_number l < location_cases
unfolding location_number
location_below Standard = omega arith
location_below Left = omega arith
location_below Right = omega arith
location_below Numpad = omega arith

pub location_back : (l : KeyLocation) → location_at (location_number l) ≡ l
unfolding location_number location_at assoc
location_back Standard = refl
location_back Left = refl
location_back Right = refl
location_back Numpad = refl

pub location_exact : (n : ℕ) → n < location_cases → location_number (location_at n) ≡ n
unfolding location_number location_at assoc
location_exact zero h = refl
location_exact (suc zero) h = refl
location_exact (suc (suc zero)) h = refl
location_exact (suc (suc (suc zero))) h = refl
location_exact (suc (suc (suc (suc n)))) h = let z : ⊥ = omega arith in absurd z

-- keys

pub held_none : (aux v : ℕ) → none_held aux v ≡ true → (aux ≡ 0) × (v ≡ 0)
unfolding none_held
held_none aux v e = let p = yes_no (eqb aux 0) (eqb v 0) e in (eqb-true aux 0 p.0, eqb-true v 0 p.1)

pub scalar_below : (v : ℕ) → scalar v ≡ true → v < 0x110000
unfolding scalar
scalar_below v e = go (ltb v 0xD800) refl
  where
    go : (a : Bool) → ltb v 0xD800 ≡ a → v < 0x110000
    go true p = let l = ltb-true v 0xD800 p in omega arith
    go false p = ltb-true v 0x110000 (no_yes (ltb v 0xE000) (ltb v 0x110000) (rw p at e)).1

-- a dead key's numbers are of one of two forms
dead_cases : {A : Type 0} (aux v : ℕ) → dead_ok aux v ≡ true → (aux ≡ 0 → v ≡ 0 → A) → (aux ≡ 1 → scalar v ≡ true → A) → A
unfolding dead_ok assoc
dead_cases zero v e f g = f refl (eqb-true v 0 e)
dead_cases (suc zero) v e f g = g refl e
dead_cases (suc (suc a)) v e f g =
    let z : false ≡ true = rw (ne_eqb (suc (suc a)) 0 (λ h. omega arith), ne_eqb (suc (suc a)) 1 (λ h. omega arith)) at e in
    let y : ◌≡◌ {A = ℕ} 0 1 = cc in
    let x : ⊥ = omega arith in
    absurd x

named-within : (n : ℕ) → named_ok n ≡ true → (first_named ≤ n) × (n < key_cases)
unfolding named_ok
named-within n e =
    let p = no_yes (ltb n first_named) (ltb n key_cases) e in
    (ltb-false n first_named p.0, ltb-true n key_cases p.1)

module _ (n aux v : ℕ) (h : first_named ≤ n) where
  -- from the first of them on, a place is a named key's
  at_named : key_at n aux v ≡ Named n
  unfolding key_at assoc
  at_named = rw (ne_eqb n 0 (λ e. omega arith), ne_eqb n 1 (λ e. omega arith), ne_eqb n 2 (λ e. omega arith))

  ok_named : key_ok n aux v ≡ pick (named_ok n) (none_held aux v) false
  unfolding key_ok assoc
  ok_named = rw (ne_eqb n 0 (λ e. omega arith), ne_eqb n 1 (λ e. omega arith), ne_eqb n 2 (λ e. omega arith))

  ok_parts : key_ok n aux v ≡ true → (named_ok n ≡ true) × (aux ≡ 0) × (v ≡ 0)
  ok_parts e =
      let p = yes_no (named_ok n) (none_held aux v) (sym ok_named ∙ e) in
      let q = held_none aux v p.1 in
      (p.0, q.0, q.1)

pub key_below : (n aux v : ℕ) → key_ok n aux v ≡ true → (n < key_cases) × (aux < 256) × (v < 2 ^ 32)
unfolding key_ok assoc
key_below zero aux v e = let p = held_none aux v e in (omega arith, omega arith, omega arith)
key_below (suc zero) aux v e = let p = native_below aux v e in (omega arith, omega arith, p.1)
key_below (suc (suc zero)) aux v e =
    dead_cases aux v e (λ a b. (omega arith, omega arith, omega arith))
    (λ a b. let l = scalar_below v b in (omega arith, omega arith, omega arith))
key_below (suc (suc (suc n))) aux v e =
    let p = ok_parts (suc (suc (suc n))) aux v (omega arith) e in
    ((named-within (suc (suc (suc n))) p.0).1, omega arith, omega arith)

pub key_back : (k : Key) → key_fits k ≡ true → (key_at (key_number k) (key_aux k) (key_value k) ≡ k) × (key_ok (key_number k) (key_aux k) (key_value k) ≡ true)
unfolding key_fits key_number key_aux key_value key_at key_ok dead_at dead_ok none_held assoc
key_back (Named n) e =
    let h = (named-within n e).0 in
    (at_named n 0 0 h, ok_named n 0 0 h ∙ ap (λ (b : Bool). pick b true false) e)
key_back Character e = (refl, refl)
key_back (Unidentified c) e = let b = native_back c e in (ap Unidentified b.0, b.1)
key_back Dead e = (refl, refl)
key_back (DeadChar c) e = (refl, e)

pub key_exact : (n aux v : ℕ) → key_ok n aux v ≡ true → (key_number (key_at n aux v) ≡ n) × (key_aux (key_at n aux v) ≡ aux) × (key_value (key_at n aux v) ≡ v) × (key_fits (key_at n aux v) ≡ true)
unfolding key_fits key_number key_aux key_value key_at key_ok dead_at assoc
key_exact zero aux v e = let p = held_none aux v e in (refl, sym p.0, sym p.1, refl)
key_exact (suc zero) aux v e = let p = native_exact aux v e in (refl, p.0, p.1, p.2)
key_exact (suc (suc zero)) aux v e =
    dead_cases aux v e (λ a b. rw a (refl, refl, sym b, refl)) (λ a b. rw a (refl, refl, refl, b))
key_exact (suc (suc (suc n))) aux v e =
    let h : first_named ≤ suc (suc (suc n)) = omega arith in
    let p = ok_parts (suc (suc (suc n))) aux v h e in
    rw (at_named (suc (suc (suc n))) aux v h) (refl, sym p.1, sym p.2, p.0)

-- only a character is at place 0
pub number-character : (k : Key) → key_fits k ≡ true → key_number k ≡ 0 → k ≡ Character
unfolding key_fits key_number
number-character (Named n) e h = let l = (named-within n e).0 in let z : ⊥ = omega arith in absurd z
number-character Character e h = refl
number-character (Unidentified c) e h = let z : ⊥ = omega arith in absurd z
number-character Dead e h = let z : ⊥ = omega arith in absurd z
number-character (DeadChar c) e h = let z : ⊥ = omega arith in absurd z
