-- A key code and its one number lead to each other.
-- Assumes nothing.
use mathlib.Core.Path.{◌≡◌, refl, sym, ap, ◌∙◌}
use mathlib.Core.Bool.{Bool, true, false}
use Prim.Native.Nat.{ℕ, zero, suc, ◌+◌, ◌*◌, ◌^◌, ◌<◌}
use native.Mathlib.Omega.{arith}
use lib.Dec.{eqb, ltb}
use borrow.Author.Tests.{lt-ltb, ltb-true, ne_eqb, eqb-false}
use Rattle.area.specs.Pick.{pick}
use Rattle.area.proofs.Pick.{yes_no}
use Rattle.keys.specs.Native.{native_kind, native_value, native_fits, native_ok, native_at}
use Rattle.keys.specs.Key.{none_held}
use Rattle.keys.specs.declared.NativeKeyCode.{NativeKeyCode}
use Rattle.keys.specs.declared.NativeKeyCode.TheVariants as nat
use Rattle.keys.proofs.Numbers.{native_back, native_exact, native_below, held_none}
use Rattle.keys.specs.declared.key_code.KeyCode.{KeyCode}
use Rattle.keys.specs.Number.{code_cases, code_number, code_native, code_at}
use Rattle.keys.specs.CodeKey.{code_fits, code_key, place_part, kind_part, value_part, code_key_ok, code_of_key}
use Rattle.keys.proofs.key_code.Codes.{code_back, code_below, code_exact, native_first, native_other, native_plain}

module _ (v k n : ℕ) (hv : v < 2 ^ 32) (hk : k < 256) where
  abbrev joined : ℕ
  joined = v + 2 ^ 32 * (k + 256 * n)

  place-joined : place_part joined ≡ n
  place-joined = omega arith

  kind-joined : kind_part joined ≡ k
  kind-joined = omega arith

  value-joined : value_part joined ≡ v
  value-joined = omega arith

joined_parts : (q : ℕ) → joined (value_part q) (kind_part q) (place_part q) (omega arith) (omega arith) ≡ q
joined_parts q = omega arith

-- code_key_ok, over the three parts
abbrev parts_ok : ℕ → ℕ → ℕ → Bool
parts_ok n k v = pick (ltb n code_cases) (pick (eqb n 0) (native_ok k v) (none_held k v)) false

parts_back :
    (n : ℕ) (x : NativeKeyCode) → n < code_cases → native_fits x ≡ true → (0 < n → x ≡ nat.Unidentified) →
    parts_ok n (native_kind x) (native_value x) ≡ true
unfolding native_kind native_value none_held
parts_back n x h f g = go (eqb n 0) refl
  where
    go : (b : Bool) → eqb n 0 ≡ b → parts_ok n (native_kind x) (native_value x) ≡ true
    go true p = rw (lt-ltb n code_cases h, p) (native_back x f).1
    go false p = let z = eqb-false n 0 p in rw (lt-ltb n code_cases h, p, g (omega arith))

parts_exact :
    (n k v : ℕ) → parts_ok n k v ≡ true →
    (native_value (code_native (code_at n (native_at k v))) ≡ v) × (native_kind (code_native (code_at n (native_at k v))) ≡ k)
    × (code_number (code_at n (native_at k v)) ≡ n) × (native_fits (code_native (code_at n (native_at k v))) ≡ true)
unfolding native_kind native_value native_fits
parts_exact zero k v e =
    let p = native_exact k v e in
    let m = code_exact (native_at k v) 0 (omega arith) in
    rw (native_first (native_at k v)) (p.1, p.0, m, p.2)
parts_exact (suc n) k v e =
    let p = yes_no (ltb (suc n) code_cases) _ e in
    let h = ltb-true (suc n) code_cases p.0 in
    let q = held_none k v (rw (ne_eqb (suc n) 0 (λ z. omega arith)) at p.1) in
    let m = code_exact (native_at k v) (suc n) h in
    rw (native_other (native_at k v) (suc n) (omega arith) h) (sym q.1, sym q.0, m, refl)

module _ (c : KeyCode) (f : code_fits c ≡ true) where
  fits : native_fits (code_native c) ≡ true
  unfolding code_fits
  fits = f

  parts : (place_part (code_key c) ≡ code_number c) × (kind_part (code_key c) ≡ native_kind (code_native c)) × (value_part (code_key c) ≡ native_value (code_native c))
  unfolding code_key
  parts =
      let x = code_native c in
      let b = native_below (native_kind x) (native_value x) (native_back x fits).1 in
      let h : native_kind x < 256 = omega arith in
      (place-joined _ _ (code_number c) b.1 h, kind-joined _ _ (code_number c) b.1 h, value-joined _ _ (code_number c) b.1 h)

  pub code-key_back : (code_key_ok (code_key c) ≡ true) × (code_of_key (code_key c) ≡ c)
  unfolding code_key_ok code_of_key
  code-key_back =
      rw (parts.0, parts.1, parts.2)
      (parts_back (code_number c) (code_native c) (code_below c) fits (native_plain c), ap (code_at (code_number c)) (native_back (code_native c) fits).0 ∙ code_back c)

pub code-key_exact : (q : ℕ) → code_key_ok q ≡ true → (code_key (code_of_key q) ≡ q) × (code_fits (code_of_key q) ≡ true)
unfolding code_key_ok code_of_key code_key code_fits
code-key_exact q e =
    let p = parts_exact (place_part q) (kind_part q) (value_part q) e in
    (rw (p.0, p.1, p.2) (joined_parts q), p.3)

pub code-key_below : (q : ℕ) → code_key_ok q ≡ true → q < 2 ^ 48
unfolding code_key_ok
code-key_below q e =
    let h = ltb-true (place_part q) code_cases (yes_no (ltb (place_part q) code_cases) _ e).0 in
    omega arith
