-- A record's key as the logical key of an event: the same bytes, and zeros behind.
-- Assumes nothing.
use mathlib.Core.Path.{◌≡◌, sym, ap, ◌∙◌}
use mathlib.Core.Bool.{true}
use mathlib.Core.List.{List}
use Prim.Native.Nat.{ℕ, ◌+◌, ◌≤◌, ◌<◌}
use native.Mathlib.Omega.{arith}
use lib.ListN.{length, take, drop, get_or, replicate, length-append}
use Rattle.area.specs.Bytes.{num}
use Rattle.area.specs.Splice.{splice}
use Rattle.keys.specs.Key.{key_at}
use Rattle.keys.specs.Text.{FullKey, text_in}
use Rattle.session.specs.Limits.{TEXT_MOST, KEY_TEXT_MOST}
use Rattle.session.specs.Area.{text_bytes, full_key}
use Rattle.session.proofs.Area.{key-sound}
use Rattle.record.proofs.Fields.{key-width, key-ok, key_got, text-ok, text-length}
use Rattle.record.proofs.Written.{meet, text-within, key_wider}
use Rattle.record.proofs.complete.Kept.{kept_length, kept, still}

-- ---- a key that stands at k

text-few : (l : List ℕ) → (full_key KEY_TEXT_MOST).ok l ≡ true → length (text_in ((full_key KEY_TEXT_MOST).get l)) ≤ KEY_TEXT_MOST
text-few l o =
    let t = (text_bytes KEY_TEXT_MOST).get (drop 7 l) in
    let g = ap (λ (f : FullKey). length (text_in f)) (key_got KEY_TEXT_MOST l) in
    let m = text-ok KEY_TEXT_MOST (drop 7 l) (key-ok KEY_TEXT_MOST l o) in
    omega (arith, g, m, text-length KEY_TEXT_MOST (drop 7 l), text-within (key_at (num 2 0 l) (get_or l 2 0) (num 4 3 l)) t)

module _ (x : List ℕ) (b : (i : ℕ) → get_or x i 0 < 256) (k : ℕ) (h : k + 32 ≤ length x) (o : (full_key KEY_TEXT_MOST).ok (drop k x) ≡ true) where
  pub key_kept : take 32 (drop k x) ≡ (full_key KEY_TEXT_MOST).put ((full_key KEY_TEXT_MOST).get (drop k x))
  key_kept = kept (key-sound KEY_TEXT_MOST (omega arith)) 32 (key-width KEY_TEXT_MOST) x b k h o

  pub key_still :
      (m : List ℕ) → take 32 m ≡ take 32 (drop k x) →
      ((full_key KEY_TEXT_MOST).ok m ≡ true) × ((full_key KEY_TEXT_MOST).get m ≡ (full_key KEY_TEXT_MOST).get (drop k x))
  key_still m q = still (key-sound KEY_TEXT_MOST (omega arith)) 32 (key-width KEY_TEXT_MOST) x b k h o m q

  key-size : length ((full_key KEY_TEXT_MOST).put ((full_key KEY_TEXT_MOST).get (drop k x))) ≡ 32
  key-size = kept_length (key-sound KEY_TEXT_MOST (omega arith)) 32 (key-width KEY_TEXT_MOST) x b k h o

  -- its bytes written, then the zeros
  pub key-moved :
      (to : ℕ) (d : List ℕ) {j : ℕ} {zs y z : List ℕ} → y ≡ splice to (take 32 (drop k x)) d → z ≡ splice j zs y → zs ≡ replicate 24 0 →
      j ≡ to + 32 → z ≡ splice to ((full_key TEXT_MOST).put ((full_key KEY_TEXT_MOST).get (drop k x))) d
  key-moved to d {j} {zs} {y} p q ez ej =
      let g = (full_key KEY_TEXT_MOST).get (drop k x) in
      meet to 32 j ((full_key KEY_TEXT_MOST).put g) (replicate 24 0) d key-size ej (p ∙ ap (λ (t : List ℕ). splice to t d) key_kept)
      (q ∙ ap (λ (t : List ℕ). splice j t y) ez)
      ∙ ap (λ (t : List ℕ). splice to t d) (sym (key_wider g (text-few (drop k x) o)))

  pub logical_size : length ((full_key TEXT_MOST).put ((full_key KEY_TEXT_MOST).get (drop k x))) ≡ 56
  logical_size =
      let g = (full_key KEY_TEXT_MOST).get (drop k x) in
      ap length (key_wider g (text-few (drop k x) o))
      ∙ length-append ((full_key KEY_TEXT_MOST).put g) (replicate 24 0)
      ∙ ap (λ (n : ℕ). n + 24) key-size
