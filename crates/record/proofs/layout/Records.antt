-- The bytes of what is read from the layout, part by part.
-- Assumes nothing.
use Rattle.std.specs.Prelude.{Some}
use mathlib.Core.Path.{◌≡◌, refl, sym, ap, subst, ◌∙◌}
use mathlib.Core.Bool.{Bool}
use mathlib.Core.List.{List, [], ◌∷◌}
use Prim.Native.Nat.{ℕ, ◌+◌, ◌*◌}
use native.Mathlib.Omega.{arith}
use lib.ListN.{length, replicate}
use Rattle.area.specs.Bytes.{le}
use Rattle.area.specs.Splice.{splice, padded}
use Rattle.keys.specs.Text.{text_from}
use Rattle.keys.specs.Location.{location_number}
use Rattle.keys.specs.declared.KeyText.{KeyText}
use Rattle.keys.specs.declared.KeyLocation.{KeyLocation}
use Rattle.keys.specs.declared.key_code.KeyCode.{KeyCode}
use Rattle.lookup.specs.Layout.{part_of, key_in}
use Rattle.lookup.specs.declared.keyboard_layout.LayoutKey.{LayoutKey}
use Rattle.session.specs.Limits.{UNITS_MOST, TEXT_MOST, KEY_TEXT_MOST, INFO_SIZE}
use Rattle.session.specs.Codec.{number, pair, via, put_many, list_of}
use Rattle.session.specs.Event.{Event, Info, Held}
use Rattle.session.specs.Area.{flag, state, location, opt_text, key_code, full_key, info, held, held_field, event}
use Rattle.session.specs.Builder.{undead}
use Rattle.session.specs.InBlock.{info_in, plain_in, event_in, InfoIn, EventIn}
use Rattle.session.specs.declared.ElementState.{ElementState}
use Rattle.session.specs.declared.PartialKeyEventInfo.{PartialKeyEventInfo}
use Rattle.session.specs.declared.KeyEvent.{KeyEvent}
use Rattle.record.proofs.Records.{marks}
use Rattle.record.proofs.Written.{meet, both, pair-length, written_as, number-length, number_put, location-put, flag-length, location-length, code-length, marks_first, marks_length, opt_length, key-length, some_put}
use Rattle.record.proofs.layout.Keys.{fits_within, undead-within}

-- ---- what is kept of a press or a release

pub info-put :
    (n : Info) (at : ℕ) (x : List ℕ) {v k₁ k₂ k₃ k₄ : ℕ} {y₁ y₂ y₃ y₄ y₅ : List ℕ} →
    length ((full_key KEY_TEXT_MOST).put n.logical_key) ≡ 8 + KEY_TEXT_MOST → y₁ ≡ splice at (le 2 n.scancode) x →
    y₂ ≡ splice k₁ (flag.put n.repeat) y₁ → v ≡ location_number n.location → y₃ ≡ splice k₂ (v ∷ []) y₂ →
    y₄ ≡ splice k₃ ((full_key KEY_TEXT_MOST).put n.logical_key) y₃ →
    y₅ ≡ splice k₄ ((full_key KEY_TEXT_MOST).put n.key_without_modifiers) y₄ → k₁ ≡ at + 2 → k₂ ≡ at + 3 → k₃ ≡ at + 4 →
    k₄ ≡ at + 36 → y₅ ≡ splice at (info.put n) x
unfolding info via
info-put n at x {k₁} {k₂} {k₃} {k₄} {y₁} {y₂} {y₃} {y₄} h p₁ p₂ e₃ p₃ p₄ p₅ f₁ f₂ f₃ f₄ =
    let key = full_key KEY_TEXT_MOST in
    let l = n.logical_key in
    let w = n.key_without_modifiers in
    both (number 2) (pair flag (pair location (pair key key))) n.scancode (n.repeat, (n.location, (l, w))) at 2 k₁ x
    (number-length 2 n.scancode) f₁ (written_as at x (number_put 2 n.scancode) p₁)
    (both flag (pair location (pair key key)) n.repeat (n.location, (l, w)) k₁ 1 k₂ y₁ (flag-length n.repeat) (omega arith) p₂
    (both location (pair key key) n.location (l, w) k₂ 1 k₃ y₂ (location-length n.location) (omega arith)
    (written_as k₂ y₂ (location-put n.location e₃) p₃)
    (both key key l w k₃ 32 k₄ y₃ h (omega arith) p₄ p₅)))

info-key-length :
    (block : List ℕ) (n : PartialKeyEventInfo) → InfoIn block n →
    length ((full_key KEY_TEXT_MOST).put (info_in block n).logical_key) ≡ 8 + KEY_TEXT_MOST
unfolding info_in
info-key-length block n h =
    key-length KEY_TEXT_MOST (key_in block n.logical_key) (fits_within (key_in block n.logical_key) h.logical_key) (omega arith)

pub info-written :
    (block : List ℕ) (n : PartialKeyEventInfo) (at : ℕ) (x : List ℕ) {c v k₁ k₂ k₃ k₄ : ℕ} {b : Bool} {p : KeyLocation} {l w : LayoutKey}
    {y₁ y₂ y₃ y₄ y₅ : List ℕ} → InfoIn block n → y₁ ≡ splice at (le 2 c) x → y₂ ≡ splice k₁ (flag.put b) y₁ →
    v ≡ location_number p → y₃ ≡ splice k₂ (v ∷ []) y₂ → y₄ ≡ splice k₃ ((full_key KEY_TEXT_MOST).put (key_in block l)) y₃ →
    y₅ ≡ splice k₄ ((full_key KEY_TEXT_MOST).put (undead (key_in block w))) y₄ → k₁ ≡ at + 2 → k₂ ≡ at + 3 → k₃ ≡ at + 4 → k₄ ≡ at + 36 →
    ◌≡◌ {A = PartialKeyEventInfo}
    (record { scancode = c; is_repeat = b; location = p; logical_key = l; key_without_modifiers = w })
    n → y₅ ≡ splice at (info.put (info_in block n)) x
unfolding info_in
info-written block n at x {c} {v} {k₁} {k₂} {k₃} {k₄} {b} {p} {l} {w} h p₁ p₂ e₃ p₃ p₄ p₅ f₁ f₂ f₃ f₄ q =
    let m : PartialKeyEventInfo = record { scancode = c; is_repeat = b; location = p; logical_key = l; key_without_modifiers = w } in
    info-put (info_in block m) at x (info-key-length block m (subst (InfoIn block) (sym q) h)) p₁ p₂ e₃ p₃ p₄ p₅ f₁ f₂ f₃ f₄
    ∙ ap (λ (o : PartialKeyEventInfo). splice at (info.put (info_in block o)) x) q

pub info-length : (block : List ℕ) (n : PartialKeyEventInfo) → InfoIn block n → length (info.put (info_in block n)) ≡ INFO_SIZE
unfolding info via info_in
info-length block n h =
    let key = full_key KEY_TEXT_MOST in
    let l = key_in block n.logical_key in
    let w = key_in block n.key_without_modifiers in
    let m = info_in block n in
    pair-length (number 2) (pair flag (pair location (pair key key))) m.scancode (m.repeat, (m.location, (l, undead w))) 2 66
    (number-length 2 m.scancode)
    (pair-length flag (pair location (pair key key)) m.repeat (m.location, (l, undead w)) 1 65 (flag-length m.repeat)
    (pair-length location (pair key key) m.location (l, undead w) 1 64 (location-length m.location)
    (pair-length key key l (undead w) 32 32 (key-length KEY_TEXT_MOST l (fits_within l h.logical_key) (omega arith))
    (key-length KEY_TEXT_MOST (undead w) (undead-within w h.key_without_modifiers) (omega arith)))))

-- ---- an event

pub event-put :
    (e : Event) (at : ℕ) (x : List ℕ) {k₁ k₂ k₃ k₄ k₅ : ℕ} {y₁ y₂ y₃ y₄ y₅ y₆ : List ℕ} →
    length ((full_key TEXT_MOST).put e.logical_key) ≡ 8 + TEXT_MOST → length (opt_text.put e.text) ≡ 1 + TEXT_MOST →
    length (opt_text.put e.text_with_all_modifiers) ≡ 1 + TEXT_MOST → y₁ ≡ splice at (key_code.put e.physical_key) x →
    y₂ ≡ splice k₁ ((full_key TEXT_MOST).put e.logical_key) y₁ → y₃ ≡ splice k₂ (opt_text.put e.text) y₂ →
    y₄ ≡ splice k₃ (marks.put (e.location, (e.state, (e.repeat, e.synthetic)))) y₃ →
    y₅ ≡ splice k₄ (opt_text.put e.text_with_all_modifiers) y₄ →
    y₆ ≡ splice k₅ ((full_key KEY_TEXT_MOST).put e.key_without_modifiers) y₅ → k₁ ≡ at + 6 → k₂ ≡ at + 62 →
    k₃ ≡ at + 111 → k₄ ≡ at + 115 → k₅ ≡ at + 164 → y₆ ≡ splice at (event.put e) x
unfolding event via
event-put e at x {k₁} {k₂} {k₃} {k₄} {k₅} {y₁} {y₂} {y₃} {y₄} {y₅} h g i p₁ p₂ p₃ p₄ p₅ p₆ f₁ f₂ f₃ f₄ f₅ =
    let u = e.text_with_all_modifiers in
    let w = e.key_without_modifiers in
    let tail = pair opt_text (full_key KEY_TEXT_MOST) in
    let rest = pair location (pair state (pair flag (pair flag tail))) in
    both key_code (pair (full_key TEXT_MOST) (pair opt_text rest)) e.physical_key _ at 6 k₁ x (code-length e.physical_key) f₁ p₁
    (both (full_key TEXT_MOST) (pair opt_text rest) e.logical_key _ k₁ 56 k₂ y₁ h (omega arith) p₂
    (both opt_text rest e.text _ k₂ 49 k₃ y₂ g (omega arith) p₃
    (written_as k₃ y₃ (marks_first tail e.location e.state e.repeat e.synthetic (u, w))
    (both marks tail _ (u, w) k₃ 4 k₄ y₃ (marks_length e.location e.state e.repeat e.synthetic) (omega arith) p₄
    (both opt_text (full_key KEY_TEXT_MOST) u w k₄ 49 k₅ y₄ i (omega arith) p₅ p₆)))))

event-key-length :
    (block : List ℕ) (e : KeyEvent) → EventIn block e →
    length ((full_key TEXT_MOST).put (event_in block e).logical_key) ≡ 8 + TEXT_MOST
unfolding event_in
event-key-length block e h =
    let w = fits_within (key_in block e.logical_key) h.logical_key in
    key-length TEXT_MOST (key_in block e.logical_key) (omega arith) (omega arith)

event-text-length :
    (block : List ℕ) (e : KeyEvent) → EventIn block e → length (opt_text.put (event_in block e).text) ≡ 1 + TEXT_MOST
unfolding event_in
event-text-length block e h = opt_length (text_from (part_of block e.logical_key) e.text) h.text

pub event-written :
    (block : List ℕ) (e : KeyEvent) (at : ℕ) (x : List ℕ) {c : KeyCode} {l l₂ l₃ w : LayoutKey} {t t₂ : KeyText}
    {p : KeyLocation} {s : ElementState} {b d m : Bool} {k₁ k₂ k₃ k₄ k₅ : ℕ} {y₁ y₂ y₃ y₄ y₅ y₆ : List ℕ} → EventIn block e → y₁ ≡ splice at (key_code.put c) x →
    y₂ ≡ splice k₁ ((full_key TEXT_MOST).put (key_in block l)) y₁ → y₃ ≡ splice k₂ (opt_text.put (text_from (part_of block l₂) t)) y₂ →
    y₄ ≡ splice k₃ (marks.put (p, (s, (b, d)))) y₃ → y₅ ≡ splice k₄ (opt_text.put (text_from (part_of block l₃) t₂)) y₄ →
    y₆ ≡ splice k₅ ((full_key KEY_TEXT_MOST).put (plain_in block m w)) y₅ → k₁ ≡ at + 6 → k₂ ≡ at + 62 → k₃ ≡ at + 111 → k₄ ≡ at + 115 →
    k₅ ≡ at + 164 → l₂ ≡ l → l₃ ≡ l → t₂ ≡ t →
    ◌≡◌ {A = KeyEvent}
    (record {
      physical_key = c;
      logical_key = l;
      text = t;
      location = p;
      state = s;
      repeat = b;
      is_synthetic = d;
      dead = m;
      key_without_modifiers = w;
    })
    e → y₆ ≡ splice at (event.put (event_in block e)) x
unfolding event_in
event-written block e at x {c} {l} {w} {t} {p} {s} {b} {d} {m} {k₂} {k₄} {y₂} {y₄} h p₁ p₂ p₃ p₄ p₅ p₆ f₁ f₂ f₃ f₄ f₅ a₂ a₃ e₂ q =
    let o : KeyEvent =
    record {
      physical_key = c;
      logical_key = l;
      text = t;
      location = p;
      state = s;
      repeat = b;
      is_synthetic = d;
      dead = m;
      key_without_modifiers = w;
    } in
    let i = subst (EventIn block) (sym q) h in
    event-put (event_in block o) at x (event-key-length block o i) (event-text-length block o i) (event-text-length block o i) p₁ p₂
    (p₃ ∙ ap (λ (z : LayoutKey). splice k₂ (opt_text.put (text_from (part_of block z) t)) y₂) a₂) p₄
    (p₅ ∙ (λ j. splice k₄ (opt_text.put (text_from (part_of block (a₃ j)) (e₂ j))) y₄)) p₆ f₁ f₂ f₃ f₄ f₅
    ∙ ap (λ (z : KeyEvent). splice at (event.put (event_in block z)) x) q

-- ---- a held press with no units

no_units : (list_of 1 UNITS_MOST (number 2)).put [] ≡ replicate (1 + 2 * UNITS_MOST) 0
unfolding list_of put_many number le padded
no_units = refl

pub held-written :
    (h : Held) (at : ℕ) (x : List ℕ) {a k₁ k₂ k₃ k₄ : ℕ} {zs y₁ y₂ y₃ y₄ y₅ : List ℕ} →
    length (info.put h.info) ≡ INFO_SIZE → h.units ≡ [] → y₁ ≡ splice at (a ∷ []) x → y₂ ≡ splice k₁ (info.put h.info) y₁ →
    y₃ ≡ splice k₂ (le 2 h.vkey) y₂ → y₄ ≡ splice k₃ (flag.put h.mark) y₃ → y₅ ≡ splice k₄ zs y₄ → a ≡ 1 →
    zs ≡ replicate (1 + 2 * UNITS_MOST) 0 → k₁ ≡ at + 1 → k₂ ≡ at + 69 → k₃ ≡ at + 71 → k₄ ≡ at + 72 →
    y₅ ≡ splice at (held_field.put (Some h)) x
unfolding held via
held-written h at x {a} {k₁} {k₂} {k₃} {k₄} {zs} {y₁} {y₂} {y₃} {y₄} l u p₁ p₂ p₃ p₄ p₅ ea ez f₁ f₂ f₃ f₄ =
    let units = list_of 1 UNITS_MOST (number 2) in
    let z : zs ≡ units.put h.units = ez ∙ sym no_units ∙ sym (ap units.put u) in
    meet at 1 k₁ (a ∷ []) (held.put h) x refl f₁ p₁
    (both info (pair (number 2) (pair flag units)) h.info (h.vkey, (h.mark, h.units)) k₁ INFO_SIZE k₂ y₁ l (omega arith) p₂
    (both (number 2) (pair flag units) h.vkey (h.mark, h.units) k₂ 2 k₃ y₂ (number-length 2 h.vkey) (omega arith)
    (written_as k₂ y₂ (number_put 2 h.vkey) p₃)
    (both flag units h.mark h.units k₃ 1 k₄ y₃ (flag-length h.mark) (omega arith) p₄ (written_as k₄ y₄ z p₅))))
    ∙ ap (λ (i : ℕ). splice at (i ∷ held.put h) x) ea
    ∙ ap (λ (r : List ℕ). splice at r x) (sym (some_put h))
