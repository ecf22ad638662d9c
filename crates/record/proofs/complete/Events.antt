-- The bytes of an event without texts, written from the last field to the first; the event of a release.
-- Assumes nothing.
use Rattle.std.specs.Prelude.{Option, None}
use mathlib.Core.Path.{◌≡◌, refl, sym, ap, ◌∙◌}
use mathlib.Core.Bool.{Bool, true, false}
use mathlib.Core.List.{List, ◌++◌, append_assoc}
use Prim.Native.Nat.{ℕ, ◌+◌, ◌≤◌, ◌<◌}
use native.Mathlib.Omega.{arith}
use native.Mathlib.Nat.{add-zero}
use lib.Dec.{eqb}
use lib.ListN.{length, take, drop, get_or, replicate}
use lib.Seq.{drop-drop, get_or-drop}
use Rattle.area.specs.Bytes.{le, num}
use Rattle.area.specs.Splice.{splice, padded}
use Rattle.area.proofs.Bytes.{num-drop}
use Rattle.area.proofs.Splice.{chain_down, part_before}
use Rattle.keys.specs.Text.{FullKey}
use Rattle.keys.specs.Location.{location_at}
use Rattle.keys.specs.declared.KeyLocation.{KeyLocation}
use Rattle.keys.specs.declared.key_code.KeyCode.{KeyCode}
use Rattle.lookup.specs.Codes.{key_code_of}
use Rattle.session.specs.Limits.{TEXT_MOST, KEY_TEXT_MOST, INFO_SIZE, ENTRY_SIZE}
use Rattle.session.specs.Codec.{Codec, byte, pair, checked, via, put_many, list_of}
use Rattle.session.specs.Event.{Event}
use Rattle.session.specs.Area.{text_bytes, opt_text, key_code, full_key, event, info}
use Rattle.session.specs.Builder.{release_event}
use Rattle.session.specs.declared.ElementState.{ElementState}
use Rattle.session.specs.declared.ElementState.TheVariants.{Released}
use Rattle.record.proofs.Records.{marks, info_parts, info_got}
use Rattle.record.proofs.Written.{both, pair-length, written_as, code-length, marks_first, marks_length}
use Rattle.record.proofs.complete.Keys.{key_kept, key_still, logical_size}

no_text : opt_text.put None ≡ replicate 49 0
unfolding opt_text via text_bytes checked list_of byte put_many le padded
no_text = refl

-- ---- no text, the marks, no text with all modifiers

abbrev pub middle : Codec (Option (List ℕ) × ((KeyLocation × (ElementState × (Bool × Bool))) × Option (List ℕ)))
middle = pair opt_text (pair marks opt_text)

pub middle_written :
    (l : KeyLocation) (s : ElementState) (b : Bool) (at : ℕ) (x : List ℕ) {d : Bool} {k₁ k₂ : ℕ} {zs₁ zs₂ y₁ y₂ y₃ : List ℕ} →
    y₁ ≡ splice at zs₁ x → y₂ ≡ splice k₁ (marks.put (l, (s, (b, d)))) y₁ → y₃ ≡ splice k₂ zs₂ y₂ → zs₁ ≡ replicate 49 0 → zs₂ ≡ replicate 49 0 →
    d ≡ false → k₁ ≡ at + 49 → k₂ ≡ at + 53 → y₃ ≡ splice at (middle.put (None, ((l, (s, (b, false))), None))) x
middle_written l s b at x {d} {k₁} {k₂} {zs₁} {zs₂} {y₁} {y₂} p₁ p₂ p₃ e₁ e₂ ed f₁ f₂ =
    both opt_text (pair marks opt_text) None ((l, (s, (b, false))), None) at 49 k₁ x (ap length no_text) f₁ (written_as at x (e₁ ∙ sym no_text) p₁)
    (both marks opt_text (l, (s, (b, false))) None k₁ 4 k₂ y₁ (marks_length l s b false) (omega arith)
    (p₂ ∙ ap (λ (c : Bool). splice k₁ (marks.put (l, (s, (b, c)))) y₁) ed) (written_as k₂ y₂ (e₂ ∙ sym no_text) p₃))

middle_length : (m : KeyLocation × (ElementState × (Bool × Bool))) → length (middle.put (None, (m, None))) ≡ 102
middle_length m =
    pair-length opt_text (pair marks opt_text) None (m, None) 49 53 (ap length no_text)
    (pair-length marks opt_text m None 4 49 (marks_length m.0 m.1.0 m.1.1.0 m.1.1.1) (ap length no_text))

-- ---- the whole event

-- two writes that meet, the second of them first
down :
    (at n k : ℕ) (a b x : List ℕ) {y z : List ℕ} → length a ≡ n → k ≡ at + n → y ≡ splice k b x → z ≡ splice at a y → z ≡ splice at (a ++ b) x
down at n k a b x {y} l e p q = chain_down at n a b x l (p ∙ ap (λ (m : ℕ). splice m b x) e) q

module _ (c : KeyCode) (l : FullKey) (p : KeyLocation) (s : ElementState) (b : Bool) (w : FullKey) where
  -- an event without texts that is not synthetic
  abbrev pub untyped : Event
  untyped =
      record {
        physical_key = c;
        logical_key = l;
        text = None;
        location = p;
        state = s;
        repeat = b;
        synthetic = false;
        text_with_all_modifiers = None;
        key_without_modifiers = w;
      }

  event_parts :
      key_code.put c ++ ((full_key TEXT_MOST).put l ++ (middle.put (None, ((p, (s, (b, false))), None)) ++ (full_key KEY_TEXT_MOST).put w)) ≡ event.put untyped
  unfolding event via pair
  event_parts =
      let t = opt_text.put None in
      let m = marks.put (p, (s, (b, false))) in
      let r = (full_key KEY_TEXT_MOST).put w in
      ap (λ (y : List ℕ). key_code.put c ++ ((full_key TEXT_MOST).put l ++ y))
      (append_assoc t (m ++ t) r ∙ ap (λ (y : List ℕ). t ++ y) (append_assoc m t r ∙ marks_first (pair opt_text (full_key KEY_TEXT_MOST)) p s b false (None, w)))

  pub event-written :
      (at : ℕ) (x : List ℕ) {k₁ k₂ k₃ : ℕ} {y₁ y₂ y₃ y₄ : List ℕ} → length ((full_key TEXT_MOST).put l) ≡ 56 →
      y₁ ≡ splice k₃ ((full_key KEY_TEXT_MOST).put w) x → y₂ ≡ splice k₂ (middle.put (None, ((p, (s, (b, false))), None))) y₁ →
      y₃ ≡ splice k₁ ((full_key TEXT_MOST).put l) y₂ → y₄ ≡ splice at (key_code.put c) y₃ → k₁ ≡ at + 6 → k₂ ≡ at + 62 → k₃ ≡ at + 164 →
      y₄ ≡ splice at (event.put untyped) x
  event-written at x {k₁} {k₂} {k₃} h p₁ p₂ p₃ p₄ f₁ f₂ f₃ =
      let m = middle.put (None, ((p, (s, (b, false))), None)) in
      let r = (full_key KEY_TEXT_MOST).put w in
      let k = (full_key TEXT_MOST).put l in
      down at 6 k₁ (key_code.put c) (k ++ (m ++ r)) x (code-length c) f₁
      (down k₁ 56 k₂ k (m ++ r) x h (omega arith) (down k₂ 102 k₃ m r x (middle_length (p, (s, (b, false)))) (omega arith) p₁ p₂) p₃) p₄
      ∙ ap (λ (y : List ℕ). splice at y x) event_parts

-- ---- a release

-- what is kept of it, read from the place where it stands
info_from :
    (x : List ℕ) (from : ℕ) →
    info.get (drop from x) ≡ record {
      scancode = num 2 from x;
      repeat = eqb (get_or x (from + 2) 0) 1;
      location = location_at (get_or x (from + 3) 0);
      logical_key = (full_key KEY_TEXT_MOST).get (drop (from + 4) x);
      key_without_modifiers = (full_key KEY_TEXT_MOST).get (drop (from + 36) x);
    }
info_from x from =
    info_got (drop from x)
    ∙ rw (num-drop 2 0 from x, add-zero from, get_or-drop from x 2 0, get_or-drop from x 3 0, drop-drop 4 from x, drop-drop 36 from x)

release_as :
    (x : List ℕ) (from : ℕ) →
    untyped (key_code_of (num 2 from x)) ((full_key KEY_TEXT_MOST).get (drop (from + 4) x)) (location_at (get_or x (from + 3) 0)) Released (eqb (get_or x (from + 2) 0) 1) ((full_key KEY_TEXT_MOST).get (drop (from + 36) x))
    ≡ release_event (info.get (drop from x))
unfolding release_event
release_as x from = sym (ap release_event (info_from x from))

-- the keys that are kept
module _ (x : List ℕ) (from : ℕ) (o : info.ok (drop from x) ≡ true) where
  pub logical_ok : (full_key KEY_TEXT_MOST).ok (drop (from + 4) x) ≡ true
  logical_ok = rw (drop-drop 4 from x) at (info_parts (drop from x) o).logical_key

  plain_ok : (full_key KEY_TEXT_MOST).ok (drop (from + 36) x) ≡ true
  plain_ok = rw (drop-drop 36 from x) at (info_parts (drop from x) o).key_without_modifiers

module _ (x : List ℕ) (b : (i : ℕ) → get_or x i 0 < 256) (from : ℕ) (h : from + INFO_SIZE ≤ length x) (o : info.ok (drop from x) ≡ true) where
  pub release-written :
      (at : ℕ) (d : List ℕ) {v k₁ k₂ k₃ : ℕ} {c : KeyCode} {r : Bool} {p : KeyLocation} {l : FullKey} {y₁ y₂ y₃ y₄ : List ℕ} →
      v ≡ num 2 from x → c ≡ key_code_of v → r ≡ eqb (get_or x (from + 2) 0) 1 → p ≡ location_at (get_or x (from + 3) 0) →
      l ≡ (full_key KEY_TEXT_MOST).get (drop (from + 4) x) → y₁ ≡ splice k₃ (take 32 (drop (from + 36) x)) d →
      y₂ ≡ splice k₂ (middle.put (None, ((p, (Released, (r, false))), None))) y₁ → y₃ ≡ splice k₁ ((full_key TEXT_MOST).put l) y₂ →
      y₄ ≡ splice at (key_code.put c) y₃ → k₁ ≡ at + 6 → k₂ ≡ at + 62 → k₃ ≡ at + 164 →
      y₄ ≡ splice at (event.put (release_event (info.get (drop from x)))) d
  release-written at d {v} {k₁} {k₂} {k₃} {c} {r} {p} {l} ev ec er ep el p₁ p₂ p₃ p₄ f₁ f₂ f₃ =
      let w = (full_key KEY_TEXT_MOST).get (drop (from + 36) x) in
      let s : length ((full_key TEXT_MOST).put l) ≡ 56 =
      ap (λ (k : FullKey). length ((full_key TEXT_MOST).put k)) el ∙ logical_size x b (from + 4) (omega arith) (logical_ok x from o) in
      event-written c l p Released r w at d s
      (p₁ ∙ ap (λ (t : List ℕ). splice k₃ t d) (key_kept x b (from + 36) (omega arith) (plain_ok x from o))) p₂ p₃ p₄ f₁ f₂ f₃
      ∙ (λ j. splice at (event.put (untyped ((ec ∙ ap key_code_of ev) j) (el j) (ep j) Released (er j) w)) d)
      ∙ ap (λ (e : Event). splice at (event.put e) d) (release_as x from)

-- in its own entry, at `at`: the logical key is read behind two writes, which lie behind it
module _ (x : List ℕ) (b : (i : ℕ) → get_or x i 0 < 256) (at : ℕ) (h : at + ENTRY_SIZE ≤ length x) (o : info.ok (drop (at + 5) x) ≡ true) where
  pub logical_still :
      (v w : List ℕ) {y₁ y₂ : List ℕ} → y₁ ≡ splice (at + 41 + 126) w x → y₂ ≡ splice (at + 65) v y₁ →
      ((full_key KEY_TEXT_MOST).ok (drop (at + 9) y₂) ≡ true) × ((full_key KEY_TEXT_MOST).get (drop (at + 9) y₂) ≡ (full_key KEY_TEXT_MOST).get (drop (at + 5 + 4) x))
  logical_still v w {y₁} {y₂} p₁ p₂ =
      let e : at + 9 ≡ at + 5 + 4 = omega arith in
      let q : take 32 (drop (at + 9) y₂) ≡ take 32 (drop (at + 5 + 4) x) =
      ap (λ (t : List ℕ). take 32 (drop (at + 9) t)) p₂
      ∙ part_before (at + 9) 32 (at + 65) v y₁ (omega arith)
      ∙ ap (λ (t : List ℕ). take 32 (drop (at + 9) t)) p₁
      ∙ part_before (at + 9) 32 (at + 41 + 126) w x (omega arith)
      ∙ ap (λ (n : ℕ). take 32 (drop n x)) e in
      key_still x b (at + 5 + 4) (omega arith) (logical_ok x (at + 5) o) (drop (at + 9) y₂) q

  pub release_completed :
      {v : ℕ} {c : KeyCode} {r : Bool} {p : KeyLocation} {y₁ y₂ y₃ y₄ : List ℕ} → v ≡ num 2 (at + 5) x → c ≡ key_code_of v →
      r ≡ eqb (get_or x (at + 7) 0) 1 → p ≡ location_at (get_or x (at + 8) 0) → y₁ ≡ splice (at + 41 + 126) (take 32 (drop (at + 41) x)) x →
      y₂ ≡ splice (at + 65) (middle.put (None, ((p, (Released, (r, false))), None))) y₁ →
      y₃ ≡ splice (at + 9 + 0) ((full_key TEXT_MOST).put ((full_key KEY_TEXT_MOST).get (drop (at + 9) y₂))) y₂ → y₄ ≡ splice (at + 3) (key_code.put c) y₃ →
      y₄ ≡ splice (at + 3) (event.put (release_event (info.get (drop (at + 5) x)))) x
  release_completed ev ec er ep p₁ p₂ p₃ p₄ =
      let e₁ : at + 7 ≡ at + 5 + 2 = omega arith in
      let e₂ : at + 8 ≡ at + 5 + 3 = omega arith in
      let e₃ : at + 41 ≡ at + 5 + 36 = omega arith in
      release-written x b (at + 5) (omega arith) o (at + 3) x ev ec (er ∙ ap (λ (n : ℕ). eqb (get_or x n 0) 1) e₁)
      (ep ∙ ap (λ (n : ℕ). location_at (get_or x n 0)) e₂) (logical_still _ _ p₁ p₂).1
      (p₁ ∙ ap (λ (n : ℕ). splice (at + 41 + 126) (take 32 (drop n x)) x) e₃) p₂ p₃ p₄ (omega arith) (omega arith) (omega arith)
