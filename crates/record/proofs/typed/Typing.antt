-- The text of a list of units, as a text field: the bytes and the zeros written first, then the length before them.
-- Assumes nothing.
use Rattle.std.specs.Prelude.{Option, None, Some}
use mathlib.Core.Path.{◌≡◌, refl, sym, ap, ◌∙◌}
use mathlib.Core.Bool.{true}
use mathlib.Core.List.{List, [], ◌∷◌, ◌++◌}
use Prim.Native.Nat.{ℕ, zero, suc, ◌+◌, ◌-◌, ◌*◌, ◌≤◌, ◌<◌}
use native.Mathlib.Nat.{add-zero}
use native.Mathlib.Omega.{arith}
use lib.ListN.{length, take, drop, get_or, replicate, length-append, length-drop}
use lib.Seq.{drop-drop, get_or-drop}
use Rattle.std.proofs.lemmas.List.{drop-append-le, take-append-le}
use Rattle.area.specs.Splice.{splice, padded}
use Rattle.area.proofs.Splice.{chain_down, splice-behind}
use Rattle.text.specs.Unicode.{text_of}
use Rattle.text.specs.Placed.{units_at, bytes_in, Put}
use Rattle.text.proofs.Text.{text_empty}
use Rattle.text.proofs.Placed.{put-padded}
use Rattle.session.specs.Limits.{UNITS_MOST, TEXT_MOST}
use Rattle.session.specs.Codec.{number, via, get_many, list_of}
use Rattle.session.specs.Area.{bytes_of, text_bytes, opt_text}
use Rattle.session.specs.Builder.{typed_text}
use Rattle.session.proofs.Codec.{number-sound, list_sound}
use Rattle.record.proofs.Records.{units}
use Rattle.record.proofs.complete.Kept.{still}
use Rattle.record.proofs.Fields.{count-ok, count_got}
use Rattle.record.proofs.Written.{text-put}

-- ---- the list of units that stands at `from`

pub units_many : (n : ℕ) (l : List ℕ) → get_many (number 2) n l ≡ units_at n l
unfolding get_many number units_at
units_many zero l = refl
units_many (suc n) l = rw (units_many n (drop 2 l)) refl

module _ (from : ℕ) (x : List ℕ) where
  pub list_most : (list_of 1 UNITS_MOST (number 2)).ok (drop from x) ≡ true → get_or x from 0 ≤ UNITS_MOST
  list_most o = rw (get_or-drop from x 0 0, add-zero from) at (count-ok UNITS_MOST (number 2) (drop from x) o)

  pub list_units : (list_of 1 UNITS_MOST (number 2)).get (drop from x) ≡ units_at (get_or x from 0) (drop (from + 1) x)
  list_units =
      count_got UNITS_MOST (number 2) (drop from x)
      ∙ units_many (get_or (drop from x) 0 0) (drop 1 (drop from x))
      ∙ rw (get_or-drop from x 0 0, add-zero from, drop-drop 1 from x) refl

-- ---- their text

-- no unit, or an unpaired surrogate, has no byte
pub typed_bytes : (us : List ℕ) → bytes_of (typed_text us) ≡ bytes_in (text_of us)
unfolding typed_text
typed_bytes [] = rw text_empty refl
typed_bytes (u ∷ us) = go (text_of (u ∷ us))
  where
    go : (o : Option (List ℕ)) → bytes_of o ≡ bytes_in o
    go None = refl
    go (Some t) = refl

pub typed_field :
    (us : List ℕ) → length (bytes_in (text_of us)) < 256 →
    opt_text.put (typed_text us) ≡ length (bytes_in (text_of us)) ∷ padded TEXT_MOST (bytes_in (text_of us))
unfolding opt_text via
typed_field us h =
    ap (λ (t : List ℕ). (text_bytes TEXT_MOST).put t) (typed_bytes us) ∙ text-put TEXT_MOST (bytes_in (text_of us)) h

-- the bytes written, then the zeros, then the length
pub typed_written :
    (from to : ℕ) (src x : List ℕ) {n r k w : ℕ} {y₁ y₂ y₃ : List ℕ} → n ≡ get_or src from 0 →
    Put (units_at n (drop (from + 1) src)) (to + 1) x y₁ r → y₂ ≡ splice k (replicate {A = ℕ} w 0) y₁ → y₃ ≡ splice to (r ∷ []) y₂ →
    k ≡ to + 1 + r → w ≡ TEXT_MOST - r →
    y₃ ≡ splice to (opt_text.put (typed_text ((list_of 1 UNITS_MOST (number 2)).get (drop from src)))) x
typed_written from to src x {n} {r} {k} {w} {y₁} {y₂} {y₃} e p q o f g =
    let us = units_at n (drop (from + 1) src) in
    let t = bytes_in (text_of us) in
    let s = p.short in
    let i = p.within in
    let l : length t < 256 = omega (arith, p.count) in
    let us-there : us ≡ (list_of 1 UNITS_MOST (number 2)).get (drop from src) =
    ap (λ (m : ℕ). units_at m (drop (from + 1) src)) e ∙ sym (list_units from src) in
    chain_down to 1 (r ∷ []) (padded TEXT_MOST t) x refl (put-padded us (to + 1) x y₁ r p q f g) o
    ∙ ap (λ (m : ℕ). splice to (m ∷ padded TEXT_MOST t) x) p.count
    ∙ ap (λ (b : List ℕ). splice to b x) (sym (typed_field us l))
    ∙ ap (λ (v : List ℕ). splice to (opt_text.put (typed_text v)) x) us-there

units_width : units.width ≡ 1 + 2 * UNITS_MOST
unfolding list_of number
units_width = refl

-- within one list: the units stand in its front p, and the field behind
pub typed_behind :
    (from : ℕ) (s p x : List ℕ) → s ≡ p ++ x → ((i : ℕ) → get_or s i 0 < 256) → from + (1 + 2 * UNITS_MOST) ≤ length p →
    units.ok (drop from s) ≡ true →
    (units.ok (drop from p) ≡ true)
    × ((y : List ℕ) → y ≡ splice 0 (opt_text.put (typed_text (units.get (drop from p)))) x → p ++ y ≡ splice (length p) (opt_text.put (typed_text (units.get (drop from s)))) s)
typed_behind from s p x e b h o =
    let w = 1 + 2 * UNITS_MOST in
    let front : take w (drop from p) ≡ take w (drop from s) =
    rw (e, drop-append-le from p x (omega arith)) (sym (take-append-le w (drop from p) x (omega (arith, length-drop from p)))) in
    let same = still (list_sound 1 UNITS_MOST (omega arith) (number-sound 2)) w units_width s b from (omega (arith, ap length e, length-append p x)) o (drop from p) front in (
      same.0,
      λ y q.
          ap (λ (t : List ℕ). p ++ t) q
          ∙ sym (splice-behind 0 (opt_text.put (typed_text (units.get (drop from p)))) p x)
          ∙ (λ j. splice (add-zero (length p) j) (opt_text.put (typed_text (same.1 j))) (sym e j)),
    )
