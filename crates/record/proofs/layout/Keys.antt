-- The bytes of a key of the layout, its text a part of the block.
-- Assumes nothing.
use mathlib.Core.Path.{◌≡◌, refl, sym, ap, ◌∙◌}
use mathlib.Core.Bool.{Bool, true, false, and-eq-true_iff}
use mathlib.Core.List.{List, [], ◌∷◌, ◌++◌}
use Prim.Native.Nat.{ℕ, ◌+◌, ◌-◌, ◌≤◌, ◌<◌, zero-le}
use native.Mathlib.Omega.{arith}
use lib.Dec.{ltb, leb}
use lib.ListN.{length, replicate}
use borrow.Author.Tests.{leb-true}
use Rattle.area.specs.Pick.{pick}
use Rattle.area.specs.Bytes.{le}
use Rattle.area.specs.Splice.{splice, padded}
use Rattle.area.proofs.Bytes.{length-le}
use Rattle.area.proofs.Splice.{chain_down, splice-within, splice-behind, over_zeros}
use Rattle.text.specs.Unicode.{scalar, utf8_of}
use Rattle.text.proofs.Text.{utf8-length}
use Rattle.keys.specs.Key.{key_number, key_aux, key_value, key_fits}
use Rattle.keys.specs.Text.{FullKey, named, character, unidentified, dead, dead_char, full, bare_of, text_in}
use Rattle.keys.specs.declared.Key.{Key}
use Rattle.keys.specs.declared.Key.TheVariants.{Named, Character, Unidentified, Dead, DeadChar}
use Rattle.keys.specs.declared.NativeKeyCode.TheVariants as native-code
use Rattle.keys.proofs.Full.{full_bare, bare_full}
use Rattle.lookup.specs.Layout.{key_in}
use Rattle.lookup.specs.declared.keyboard_layout.LayoutKey.{LayoutKey}
use Rattle.session.specs.Limits.{KEY_TEXT_MOST}
use Rattle.session.specs.Codec.{byte, number, pair, checked, via}
use Rattle.session.specs.Session.{full_key_fits, text_fits}
use Rattle.session.specs.Area.{text_bytes, full_key}
use Rattle.session.specs.Builder.{undead}
use Rattle.session.specs.InBlock.{plain_in}
use Rattle.session.proofs.Ranges.{KeyFits}
use Rattle.record.proofs.Written.{both, text-put, numbers_length}

-- ---- a key

-- a key with the text that it has is itself
pub with_own : (k : Key) (p : List ℕ) {t : List ℕ} → t ≡ text_in (full k p) → full k t ≡ full k p
with_own k p e =
    ap (full k) e ∙ ap (λ (x : Key). full x (text_in (full k p))) (sym (bare_full k p)) ∙ full_bare (full k p)

pub its_own : (k : Key) (p : List ℕ) {t : List ℕ} → t ≡ text_in (full k p) → text_in (full k t) ≡ t
its_own k p e = ap text_in (with_own k p e) ∙ sym e

-- with no text it has none
pub own_none : (k : Key) → text_in (full k []) ≡ []
unfolding full text_in
own_none (Named n) = refl
own_none Character = refl
own_none (Unidentified c) = refl
own_none Dead = refl
own_none (DeadChar c) = refl

pub key-put :
    (most : ℕ) (k : Key) (t : List ℕ) (at : ℕ) (x : List ℕ) {n a v k₁ k₂ k₃ : ℕ} {y₁ y₂ y₃ y₄ : List ℕ} → text_in (full k t) ≡ t →
    n ≡ key_number k → a ≡ key_aux k → v ≡ key_value k → y₁ ≡ splice at (le 2 n) x → y₂ ≡ splice k₁ (a ∷ []) y₁ →
    y₃ ≡ splice k₂ (le 4 v) y₂ → y₄ ≡ splice k₃ ((text_bytes most).put t) y₃ → k₁ ≡ at + 2 → k₂ ≡ at + 3 → k₃ ≡ at + 7 →
    y₄ ≡ splice at ((full_key most).put (full k t)) x
unfolding full_key via checked number byte
key-put most k t at x {n} {a} {v} {k₁} {k₂} {k₃} {y₁} {y₂} {y₃} {y₄} et en ea ev p q r s g h i =
    let b = sym (bare_full k t) in
    let f : y₄ ≡ splice at ((pair (pair (number 2) (pair byte (number 4))) (text_bytes most)).put ((n, (a, v)), t)) x =
    both (pair (number 2) (pair byte (number 4))) (text_bytes most) (n, (a, v)) t at 7 k₃ x
    (numbers_length n a v) i
    (both (number 2) (pair byte (number 4)) n (a, v) at 2 k₁ x (length-le 2 n) g p (both byte (number 4) a v k₁ 1 k₂ y₁ refl (omega arith) q r))
    s in
    let key : ℕ → ℕ → ℕ → List ℕ → List ℕ =
    λ n a v t. splice at ((pair (pair (number 2) (pair byte (number 4))) (text_bytes most)).put ((n, (a, v)), t)) x in
    f ∙ (λ j. key ((en ∙ ap key_number b) j) ((ea ∙ ap key_aux b) j) ((ev ∙ ap key_value b) j) (sym et j))

pub key_as :
    (most at : ℕ) (x : List ℕ) {k l : FullKey} {y : List ℕ} → k ≡ l → y ≡ splice at ((full_key most).put k) x →
    y ≡ splice at ((full_key most).put l) x
key_as most at x e p = p ∙ ap (λ (f : FullKey). splice at ((full_key most).put f) x) e

-- ---- a key that fits

character-within : (t : List ℕ) → KeyFits (character t) → length t ≤ KEY_TEXT_MOST
unfolding full_key_fits bare_of text_in key_fits key_number text_fits
character-within t e =
    let a = (and-eq-true_iff (ltb 0 (length t)) _).0 e in
    leb-true (length t) KEY_TEXT_MOST ((and-eq-true_iff (leb (length t) KEY_TEXT_MOST) _).0 a.1).0

pub fits_within : (k : FullKey) → KeyFits k → length (text_in k) ≤ KEY_TEXT_MOST
unfolding text_in
fits_within (named n) h = zero-le
fits_within (character t) h = character-within t h
fits_within (unidentified c) h = zero-le
fits_within dead h = zero-le
fits_within (dead_char c) h = zero-le

dead-scalar : (c : ℕ) → KeyFits (dead_char c) → scalar c ≡ true
unfolding full_key_fits bare_of key_fits key_number
dead-scalar c e = ((and-eq-true_iff (scalar c) _).0 e).0

pub scalar_in : (k : Key) (p : List ℕ) (c : ℕ) → KeyFits (full k p) → k ≡ DeadChar c → scalar c ≡ true
unfolding full
scalar_in k p c h e = dead-scalar c (sym (ap (λ (x : Key). full_key_fits KEY_TEXT_MOST (full x p)) e) ∙ h)

-- ---- a character of one scalar value

-- seven zeros, the length of its text, the text, zeros behind
character-put :
    (t : List ℕ) → length t < 256 → (full_key KEY_TEXT_MOST).put (character t) ≡ replicate 7 0 ++ (length t ∷ padded KEY_TEXT_MOST t)
unfolding full_key via checked pair number byte le bare_of text_in key_number key_aux key_value
character-put t h = ap (λ (r : List ℕ). replicate {A = ℕ} 7 0 ++ r) (text-put KEY_TEXT_MOST t h)

-- its length and text over zeros
over_key : (t : List ℕ) → length t ≤ KEY_TEXT_MOST → splice 7 (length t ∷ t) (replicate 32 0) ≡ replicate 7 0 ++ (length t ∷ padded KEY_TEXT_MOST t)
unfolding padded
over_key t h =
    let zeros = replicate {A = ℕ} 7 0 in
    let e : 25 - length {A = ℕ} (length t ∷ t) ≡ KEY_TEXT_MOST - length t = omega arith in
    splice-behind 0 (length t ∷ t) zeros (replicate 25 0)
    ∙ ap (λ (r : List ℕ). zeros ++ r) (over_zeros (length t ∷ t) 25 (omega arith))
    ∙ ap (λ (n : ℕ). zeros ++ (length t ∷ (t ++ replicate n 0))) e

-- zeros written, then the text, then its length
pub scalar-written :
    (c at : ℕ) (x : List ℕ) {n k₁ k₂ v : ℕ} {y₁ y₂ y₃ : List ℕ} → y₁ ≡ splice at (replicate {A = ℕ} n 0) x → y₂ ≡ splice k₁ (utf8_of c) y₁ →
    y₃ ≡ splice k₂ (v ∷ []) y₂ → n ≡ 32 → k₁ ≡ at + 8 → k₂ ≡ at + 7 → v ≡ length (utf8_of c) →
    y₃ ≡ splice at ((full_key KEY_TEXT_MOST).put (character (utf8_of c))) x
scalar-written c at x {n} {k₁} {k₂} {v} {y₁} {y₂} {y₃} p q r en e₁ e₂ ev =
    let t = utf8_of c in
    let h = utf8-length c in
    let f : k₁ ≡ at + 7 + 1 = omega arith in
    let l = length {A = ℕ} (length t ∷ t) in
    chain_down (at + 7) 1 (length t ∷ []) t y₁ refl (q ∙ ap (λ (i : ℕ). splice i t y₁) f) (r ∙ (λ j. splice (e₂ j) (ev j ∷ []) y₂))
    ∙ ap (λ (y : List ℕ). splice (at + 7) (length t ∷ t) y) (p ∙ ap (λ (i : ℕ). splice at (replicate {A = ℕ} i 0) x) en)
    ∙ splice-within at 7 (length t ∷ t) (replicate 32 0) x (omega arith)
    ∙ ap (λ (b : List ℕ). splice at b x) (over_key t (omega arith) ∙ sym (character-put t (omega arith)))

-- ---- a dead key

-- the character of a dead one fits too
pub undead-within : (k : FullKey) → KeyFits k → length (text_in (undead k)) ≤ KEY_TEXT_MOST
unfolding undead text_in
undead-within (named n) h = zero-le
undead-within (character t) h = character-within t h
undead-within (unidentified c) h = zero-le
undead-within dead h = zero-le
undead-within (dead_char c) h = omega (arith, utf8-length c)

pub plain_dead : (block : List ℕ) (k : LayoutKey) {b : Bool} → b ≡ true → key_in block k ≡ plain_in block b k
unfolding plain_in
plain_dead block k e = sym (ap (λ (b : Bool). pick b (key_in block k) (undead (key_in block k))) e)

pub plain_undead : (block : List ℕ) (k : LayoutKey) {b : Bool} → b ≡ false → undead (key_in block k) ≡ plain_in block b k
unfolding plain_in
plain_undead block k e = sym (ap (λ (b : Bool). pick b (key_in block k) (undead (key_in block k))) e)
