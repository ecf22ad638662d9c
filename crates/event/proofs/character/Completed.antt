-- What completes a held press: where its text stands, and its logical key.
-- Assumes nothing.
use Rattle.std.specs.Prelude.{Option, Some, None}
use mathlib.Core.Path.{◌≡◌, refl, sym, ap, ◌∙◌}
use mathlib.Core.Bool.{Bool, true, false, and-eq-true_iff}
use mathlib.Core.List.{List, [], ◌∷◌}
use Prim.Native.Nat.{ℕ, ◌+◌, ◌-◌, ◌≤◌, ◌<◌}
use native.Mathlib.Nat.{mul-one, mod-eq_of_lt}
use native.Mathlib.Numerals.{add-one}
use native.Mathlib.Omega.{arith}
use lib.Dec.{ltb}
use lib.ListN.{length, take, drop, get_or}
use lib.Seq.{take-take, get_or-take, take-nil}
use borrow.Author.Tests.{ltb-true}
use Rattle.area.specs.Bytes.{le}
use Rattle.area.specs.Splice.{padded}
use Rattle.text.proofs.Fields.{held}
use Rattle.segmentation.specs.Table.{Table, several_in}
use Rattle.session.specs.Area.{bytes_of, text_bytes, opt_text}
use Rattle.session.specs.Builder.{typed_key, several_text}
use Rattle.session.specs.Codec.{byte, checked, via, list_of}
use Rattle.session.specs.Event.{Info}
use Rattle.session.specs.InBlock.{last_key}
use Rattle.session.specs.Limits.{TEXT_MOST}
use Rattle.session.specs.Session.{opt_text_fits, text_fits}
use Rattle.session.specs.declared.LastKey.TheVariants as last
use Rattle.session.proofs.Codec.{bytes-put}
use Rattle.event.proofs.character.Given.{opt_within}

-- ---- a text in its field

opt_put : (t : Option (List ℕ)) → length (bytes_of t) < 256 → opt_text.put t ≡ length (bytes_of t) ∷ padded TEXT_MOST (bytes_of t)
unfolding opt_text via text_bytes checked list_of le byte
opt_put t h = rw (mod-eq_of_lt h, mul-one, bytes-put (bytes_of t))

behind : (n : ℕ) (x : List ℕ) → drop 1 (take (n + 1) x) ≡ take n (drop 1 x)
behind n [] = ap (λ (l : List ℕ). drop 1 l) (take-nil (n + 1)) ∙ sym (take-nil n)
behind n (b ∷ x) = rw (add-one n) refl

module _ (field : List ℕ) (t : Option (List ℕ)) (f : opt_text_fits t ≡ true) (p : take (TEXT_MOST + 1) field ≡ opt_text.put t) where
  stands : take (TEXT_MOST + 1) field ≡ length (bytes_of t) ∷ padded TEXT_MOST (bytes_of t)
  stands = p ∙ opt_put t (omega (arith, opt_within t f))

  pub length_of : get_or field 0 0 ≡ length (bytes_of t)
  length_of = sym (get_or-take (TEXT_MOST + 1) field 0 0 (omega arith)) ∙ ap (λ (l : List ℕ). get_or l 0 0) stands

  pub length-within : get_or field 0 0 ≤ TEXT_MOST
  length-within = omega (arith, length_of, opt_within t f)

  bytes-in : (n : ℕ) → n ≡ get_or field 0 0 → take (1 + n - 1) (drop 1 field) ≡ bytes_of t
  bytes-in n e =
      let l = bytes_of t in
      let m : 1 + n - 1 ≡ length l = omega (arith, e, length_of) in
      ap (λ (k : ℕ). take k (drop 1 field)) m
      ∙ sym (take-take (length l) TEXT_MOST (drop 1 field) (opt_within t f))
      ∙ ap (λ (x : List ℕ). take (length l) x) (sym (behind TEXT_MOST field) ∙ ap (λ (x : List ℕ). drop 1 x) stands)
      ∙ held TEXT_MOST l

-- ---- last_key

-- a text has a byte at least
some_length : (t : List ℕ) → opt_text_fits (Some t) ≡ true → 0 < length t
unfolding opt_text_fits text_fits
some_length t f = ltb-true 0 (length t) ((and-eq-true_iff (ltb 0 (length t)) _).0 f).0

pub without :
    (several : Bool) (n : Info) (t : Option (List ℕ)) → opt_text_fits t ≡ true → length (bytes_of t) ≡ 0 →
    last_key last.Unidentified n t ≡ typed_key several n.logical_key n.scancode t
unfolding last_key typed_key
without several n None f z = refl
without several n (Some t) f z = absurd (omega (arith, some_length t f))

-- whether a text has several pieces, where there is one
pieces : (r : Table) (t : Option (List ℕ)) → (length (bytes_of t) ≡ 0 → ⊥) → several_text r t ≡ several_in r (bytes_of t)
unfolding several_text
pieces r None h = absurd (h refl)
pieces r (Some t) h = refl

pub stays :
    (n : Info) (t : Option (List ℕ)) → (length (bytes_of t) ≡ 0 → ⊥) →
    last_key last.Held n t ≡ typed_key true n.logical_key n.scancode t
unfolding last_key typed_key
stays n None h = absurd (h refl)
stays n (Some t) h = refl

pub becomes :
    (n : Info) (t : Option (List ℕ)) → (length (bytes_of t) ≡ 0 → ⊥) →
    last_key last.Text n t ≡ typed_key false n.logical_key n.scancode t
unfolding last_key typed_key
becomes n None h = absurd (h refl)
becomes n (Some t) h = refl

-- whether the text in a field has several pieces
pub asked :
    (r : Table) (field : List ℕ) (t : Option (List ℕ)) → opt_text_fits t ≡ true → take (TEXT_MOST + 1) field ≡ opt_text.put t → (length (bytes_of t) ≡ 0 → ⊥) →
    several_text r t ≡ several_in r (take (1 + get_or field 0 0 - 1) (drop 1 field))
asked r field t f p h = pieces r t h ∙ sym (ap (several_in r) (bytes-in field t f p _ refl))
