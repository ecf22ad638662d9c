-- The event of the held press from its parts, each written where it goes, from the last to the first.
-- Assumes nothing.
use Rattle.std.specs.Prelude.{Option, None}
use mathlib.Core.Path.{◌≡◌, refl, sym, ap, subst, ◌∙◌}
use mathlib.Core.Bool.{Bool, true, false, not}
use mathlib.Core.List.{List, ◌++◌}
use Prim.Native.Nat.{ℕ, ◌+◌, ◌≤◌, ◌<◌, zero-le}
use native.Mathlib.Omega.{arith}
use lib.ListN.{length, get_or, replicate, length-append}
use Rattle.area.specs.Pick.{pick}
use Rattle.area.specs.Bytes.{le}
use Rattle.area.specs.Splice.{padded}
use Rattle.keys.specs.Key.{key_number, key_aux, key_value}
use Rattle.keys.specs.Text.{FullKey, character, unidentified, bare_of, text_in, text_from}
use Rattle.keys.specs.declared.KeyLocation.{KeyLocation}
use Rattle.keys.specs.declared.KeyText.{KeyText}
use Rattle.keys.specs.declared.NativeKeyCode.TheVariants.{Windows}
use Rattle.lookup.specs.Codes.{key_code_of}
use Rattle.lookup.specs.Layout.{part_of}
use Rattle.lookup.specs.declared.keyboard_layout.LayoutKey.{LayoutKey}
use Rattle.session.specs.Limits.{UNITS_MOST, TEXT_MOST, KEY_TEXT_MOST}
use Rattle.session.specs.Codec.{byte, number, pair, checked, via, put_many, list_of}
use Rattle.session.specs.Event.{Info, Held}
use Rattle.session.specs.Area.{bytes_of, text_bytes, opt_text, key_code, full_key, event}
use Rattle.session.specs.Builder.{typed_text, typed_key, finalize, dead_char_event}
use Rattle.session.specs.InBlock.{last_in, LastFits, last_key, completed_with}
use Rattle.session.specs.declared.ElementState.TheVariants.{Pressed}
use Rattle.session.specs.declared.LastText.{LastText}
use Rattle.session.specs.declared.LastText.TheVariants.{Typed, Layout}
use Rattle.session.specs.declared.LastKey.{LastKey}
use Rattle.session.specs.declared.LastKey.TheVariants as last
use Rattle.session.proofs.Area.{opt_sound}
use Rattle.session.proofs.Ranges.{typed_fits}
use Rattle.record.proofs.Fields.{text-width}
use Rattle.record.proofs.Records.{marks}
use Rattle.record.proofs.Written.{marks_first, marks_length, code-length, opt_length, key-length}
use Rattle.queue.specs.Stands.{FieldStands, EventStands}
use Rattle.queue.specs.Completing.{held_in, Completing, rest_of}
use Rattle.queue.proofs.Standing.{stands-down}
use Rattle.queue.proofs.held_event.Press.{held_in_range, key-size, still_completing}

-- the same bytes
pub stands_as :
    (place off : ℕ) {a b : List ℕ} {x y x' y' : List ℕ} → a ≡ b → FieldStands place off a x y x' y' → FieldStands place off b x y x' y'
stands_as place off {x} {y} {x'} {y'} e p = subst (λ (l : List ℕ). FieldStands place off l x y x' y') e p

-- ---- the bytes of the parts

pub event_of_parts :
    (h : Held) (k : FullKey) (t : Option (List ℕ)) →
    event.put (completed_with h k t)
    ≡ key_code.put (key_code_of h.info.scancode) ++ ((full_key TEXT_MOST).put k ++ (opt_text.put t ++ rest_of h))
unfolding event via pair completed_with finalize rest_of
event_of_parts h k t =
    ap (λ (r : List ℕ). key_code.put (key_code_of h.info.scancode) ++ ((full_key TEXT_MOST).put k ++ (opt_text.put t ++ r)))
    (sym (marks_first (pair opt_text (full_key KEY_TEXT_MOST)) h.info.location Pressed h.info.repeat false (typed_text h.units, h.info.key_without_modifiers)))

pub no_text : replicate 49 0 ≡ opt_text.put None
unfolding opt_text via text_bytes checked list_of byte put_many le padded
no_text = refl

-- a character's numbers are zeros
pub character-bytes : (t : Option (List ℕ)) → replicate 7 0 ++ opt_text.put t ≡ (full_key TEXT_MOST).put (character (bytes_of t))
unfolding full_key opt_text via checked pair number byte le bare_of text_in key_number key_aux key_value
character-bytes t = refl

-- ---- how many they are

pub typed_size : (us : List ℕ) → length us ≤ UNITS_MOST → length (opt_text.put (typed_text us)) ≡ 49
typed_size us h = opt_sound.sized (typed_text us) (typed_fits us h) ∙ text-width

pub last-size :
    (block us : List ℕ) (l : LastText) → length us ≤ UNITS_MOST → LastFits block l → length (opt_text.put (last_in block us l)) ≡ 49
unfolding last_in
last-size block us Typed h f = typed_size us h
last-size block us (Layout k t) h f = opt_length _ f

pub unidentified-size : (scancode : ℕ) → length ((full_key TEXT_MOST).put (unidentified (Windows scancode))) ≡ 56
unidentified-size scancode = key-length TEXT_MOST (unidentified (Windows scancode)) (unfold text_in in zero-le) (omega arith)

pub character-size : (t : Option (List ℕ)) → length (opt_text.put t) ≡ 49 → length ((full_key TEXT_MOST).put (character (bytes_of t))) ≡ 56
character-size t h =
    sym (ap length (character-bytes t)) ∙ length-append (replicate 7 0) (opt_text.put t) ∙ ap (λ (n : ℕ). 7 + n) h

pub known_size :
    (k u : FullKey) (known : Bool) → length ((full_key TEXT_MOST).put k) ≡ 56 → length ((full_key TEXT_MOST).put u) ≡ 56 →
    length ((full_key TEXT_MOST).put (pick known k u)) ≡ 56
known_size k u true p q = p
known_size k u false p q = q

pub last-key-size :
    (key : LastKey) (n : Info) (t : Option (List ℕ)) → length ((full_key TEXT_MOST).put n.logical_key) ≡ 56 → length (opt_text.put t) ≡ 49 →
    length ((full_key TEXT_MOST).put (last_key key n t)) ≡ 56
unfolding last_key
last-key-size last.Held n t p q = p
last-key-size last.Unidentified n t p q = unidentified-size n.scancode
last-key-size last.Text n t p q = character-size t q

-- ---- what completes it, by its case

pub last_typed : (block us : List ℕ) {l : LastText} → l ≡ Typed → opt_text.put (typed_text us) ≡ opt_text.put (last_in block us l)
unfolding last_in
last_typed block us e = sym (ap (λ (m : LastText). opt_text.put (last_in block us m)) e)

pub last-layout :
    (block us : List ℕ) {l : LastText} {k : LayoutKey} {t : KeyText} → l ≡ Layout k t →
    opt_text.put (text_from (part_of block k) t) ≡ opt_text.put (last_in block us l)
unfolding last_in
last-layout block us e = sym (ap (λ (m : LastText). opt_text.put (last_in block us m)) e)

pub layout_fits :
    (block : List ℕ) {l : LastText} {k : LayoutKey} {t : KeyText} → LastFits block l → l ≡ Layout k t →
    length (bytes_of (text_from (part_of block k) t)) ≤ TEXT_MOST
layout_fits block f e = subst (LastFits block) e f

pub known_held : (k u : FullKey) {known : Bool} → known ≡ true → (full_key TEXT_MOST).put k ≡ (full_key TEXT_MOST).put (pick known k u)
known_held k u e = sym (ap (λ (b : Bool). (full_key TEXT_MOST).put (pick b k u)) e)

pub known_not : (k u : FullKey) {known : Bool} → known ≡ false → (full_key TEXT_MOST).put u ≡ (full_key TEXT_MOST).put (pick known k u)
known_not k u e = sym (ap (λ (b : Bool). (full_key TEXT_MOST).put (pick b k u)) e)

module _ (n : Info) (t : Option (List ℕ)) {key : LastKey} where
  pub last-held : key ≡ last.Held → (full_key TEXT_MOST).put n.logical_key ≡ (full_key TEXT_MOST).put (last_key key n t)
  unfolding last_key
  last-held e = sym (ap (λ (l : LastKey). (full_key TEXT_MOST).put (last_key l n t)) e)

  pub last-unidentified :
      key ≡ last.Unidentified → (full_key TEXT_MOST).put (unidentified (Windows n.scancode)) ≡ (full_key TEXT_MOST).put (last_key key n t)
  unfolding last_key
  last-unidentified e = sym (ap (λ (l : LastKey). (full_key TEXT_MOST).put (last_key l n t)) e)

  pub last-character : key ≡ last.Text → (full_key TEXT_MOST).put (character (bytes_of t)) ≡ (full_key TEXT_MOST).put (last_key key n t)
  unfolding last_key
  last-character e = sym (ap (λ (l : LastKey). (full_key TEXT_MOST).put (last_key l n t)) e)

-- ---- the event of a dead character

-- the logical key where that of the press is known
abbrev pub known_key : Bool → Held → FullKey
known_key known h = pick known h.info.logical_key (unidentified (Windows h.info.scancode))

unmarked : (m : Bool) (k u : FullKey) → pick (not m) k u ≡ pick m u k
unmarked true k u = refl
unmarked false k u = refl

dead-event : (h : Held) → completed_with h (known_key (not h.mark) h) None ≡ dead_char_event h
unfolding completed_with dead_char_event finalize typed_key
dead-event h =
    ap (λ (k : FullKey). completed_with h k None) (unmarked h.mark h.info.logical_key (unidentified (Windows h.info.scancode)))

no_size : length (opt_text.put None) ≡ 49
no_size = sym (ap length no_text)

-- ---- the bytes behind the text, one by one

module _
    {x y x₁ y₁ : List ℕ} (place : ℕ) (b : (i : ℕ) → get_or x i 0 < 256) (c : Completing x y place)
    (plain : FieldStands place 164 ((full_key KEY_TEXT_MOST).put (held_in x).info.key_without_modifiers) x y x₁ y₁) where
  pub after_plain : Completing x₁ y₁ place × (held_in x₁ ≡ held_in x)
  after_plain = still_completing place 164 ((full_key KEY_TEXT_MOST).put (held_in x).info.key_without_modifiers) b c plain

  module _ {x₂ y₂ : List ℕ} (typed : FieldStands place 115 (opt_text.put (typed_text (held_in x₁).units)) x₁ y₁ x₂ y₂) where
    abbrev behind : List ℕ
    behind = opt_text.put (typed_text (held_in x).units) ++ (full_key KEY_TEXT_MOST).put (held_in x).info.key_without_modifiers

    from_typed : FieldStands place 115 behind x y x₂ y₂
    from_typed =
        stands-down place 115 49 (opt_text.put (typed_text (held_in x).units)) ((full_key KEY_TEXT_MOST).put (held_in x).info.key_without_modifiers)
        (typed_size (held_in x).units (held_in_range b c).1) plain
        (stands_as place 115 (ap (λ (h : Held). opt_text.put (typed_text h.units)) after_plain.1) typed)

    pub after_typed : Completing x₂ y₂ place × (held_in x₂ ≡ held_in x)
    after_typed = still_completing place 115 behind b c from_typed

    pub rest_stands :
        (l : KeyLocation) (r : Bool) {x₃ y₃ : List ℕ} → l ≡ (held_in x).info.location → r ≡ (held_in x).info.repeat →
        FieldStands place 111 (marks.put (l, (Pressed, (r, false)))) x₂ y₂ x₃ y₃ → FieldStands place 111 (rest_of (held_in x)) x y x₃ y₃
    unfolding rest_of
    rest_stands l r {x₃} {y₃} el er p =
        let n = (held_in x).info in
        let own : FieldStands place 111 (marks.put (n.location, (Pressed, (n.repeat, false)))) x₂ y₂ x₃ y₃ =
        stands_as place 111 (λ i. marks.put (el i, (Pressed, (er i, false)))) p in
        stands-down place 111 4 (marks.put (n.location, (Pressed, (n.repeat, false)))) behind (marks_length n.location Pressed n.repeat false) from_typed own

-- ---- the writes one by one: the press is the same behind each, and the last completes the event

module _
    {x y x₁ y₁ : List ℕ} (place : ℕ) (b : (i : ℕ) → get_or x i 0 < 256) (c : Completing x y place)
    (rest : FieldStands place 111 (rest_of (held_in x)) x y x₁ y₁) where
  pub after_rest : Completing x₁ y₁ place × (held_in x₁ ≡ held_in x)
  after_rest = still_completing place 111 (rest_of (held_in x)) b c rest

  module _
      {x₂ y₂ : List ℕ} (t : Option (List ℕ)) (lt : length (opt_text.put t) ≡ 49) (text : FieldStands place 62 (opt_text.put t) x₁ y₁ x₂ y₂) where
    from_text : FieldStands place 62 (opt_text.put t ++ rest_of (held_in x)) x y x₂ y₂
    from_text = stands-down place 62 49 (opt_text.put t) (rest_of (held_in x)) lt rest text

    pub after_text : Completing x₂ y₂ place × (held_in x₂ ≡ held_in x)
    after_text = still_completing place 62 (opt_text.put t ++ rest_of (held_in x)) b c from_text

    module _
        {x₃ y₃ : List ℕ} (k : FullKey) (lk : length ((full_key TEXT_MOST).put k) ≡ 56)
        (key : FieldStands place 6 ((full_key TEXT_MOST).put k) x₂ y₂ x₃ y₃) where
      from_key : FieldStands place 6 ((full_key TEXT_MOST).put k ++ (opt_text.put t ++ rest_of (held_in x))) x y x₃ y₃
      from_key = stands-down place 6 56 ((full_key TEXT_MOST).put k) (opt_text.put t ++ rest_of (held_in x)) lk from_text key

      pub after-key : Completing x₃ y₃ place × (held_in x₃ ≡ held_in x)
      after-key = still_completing place 6 ((full_key TEXT_MOST).put k ++ (opt_text.put t ++ rest_of (held_in x))) b c from_key

      pub event-stands :
          {x₄ y₄ : List ℕ} → FieldStands place 0 (key_code.put (key_code_of (held_in x₃).info.scancode)) x₃ y₃ x₄ y₄ →
          EventStands place (completed_with (held_in x) k t) x y x₄ y₄
      event-stands {x₄} {y₄} p =
          let h = held_in x in
          let code : FieldStands place 0 (key_code.put (key_code_of h.info.scancode)) x₃ y₃ x₄ y₄ =
          stands_as place 0 (ap (λ (g : Held). key_code.put (key_code_of g.info.scancode)) after-key.1) p in
          stands_as place 0 (sym (event_of_parts h k t))
          (stands-down place 0 6 (key_code.put (key_code_of h.info.scancode)) ((full_key TEXT_MOST).put k ++ (opt_text.put t ++ rest_of h))
          (code-length (key_code_of h.info.scancode)) from_key code)

  -- the event of a dead character: no text
  module _ {x₂ y₂ : List ℕ} (zeros : FieldStands place 62 (replicate 49 0) x₁ y₁ x₂ y₂) where
    no_text-stands : FieldStands place 62 (opt_text.put None) x₁ y₁ x₂ y₂
    no_text-stands = stands_as place 62 no_text zeros

    pub after_no_text : Completing x₂ y₂ place × (held_in x₂ ≡ held_in x)
    after_no_text = after_text None no_size no_text-stands

    module _
        {x₃ y₃ : List ℕ} (known : Bool) (key : FieldStands place 6 ((full_key TEXT_MOST).put (known_key known (held_in x₂))) x₂ y₂ x₃ y₃) where
      known_stands : FieldStands place 6 ((full_key TEXT_MOST).put (known_key known (held_in x))) x₂ y₂ x₃ y₃
      known_stands = stands_as place 6 (ap (λ (h : Held). (full_key TEXT_MOST).put (known_key known h)) after_no_text.1) key

      known_length : length ((full_key TEXT_MOST).put (known_key known (held_in x))) ≡ 56
      known_length = known_size (held_in x).info.logical_key _ known (key-size b c) (unidentified-size (held_in x).info.scancode)

      pub after_known : Completing x₃ y₃ place × (held_in x₃ ≡ held_in x)
      after_known = after-key None no_size no_text-stands (known_key known (held_in x)) known_length known_stands

      pub dead-stands :
          {x₄ y₄ : List ℕ} → known ≡ not (held_in x).mark →
          FieldStands place 0 (key_code.put (key_code_of (held_in x₃).info.scancode)) x₃ y₃ x₄ y₄ →
          EventStands place (dead_char_event (held_in x)) x y x₄ y₄
      dead-stands e p =
          stands_as place 0 (ap (λ (k : Bool). event.put (completed_with (held_in x) (known_key k (held_in x)) None)) e ∙ ap event.put (dead-event (held_in x)))
          (event-stands None no_size no_text-stands (known_key known (held_in x)) known_length known_stands p)

  -- that of the last character
  module _
      {x₂ y₂ : List ℕ} (block : List ℕ) (l : LastText) (fits : LastFits block l)
      (text : FieldStands place 62 (opt_text.put (last_in block (held_in x₁).units l)) x₁ y₁ x₂ y₂) where
    abbrev last_of : Option (List ℕ)
    last_of = last_in block (held_in x).units l

    last-stands : FieldStands place 62 (opt_text.put last_of) x₁ y₁ x₂ y₂
    last-stands = stands_as place 62 (ap (λ (h : Held). opt_text.put (last_in block h.units l)) after_rest.1) text

    last-length : length (opt_text.put last_of) ≡ 49
    last-length = last-size block (held_in x).units l (held_in_range b c).1 fits

    pub after-last-text : Completing x₂ y₂ place × (held_in x₂ ≡ held_in x)
    after-last-text = after_text last_of last-length last-stands

    module _
        {x₃ y₃ : List ℕ} (key : LastKey)
        (put : FieldStands place 6 ((full_key TEXT_MOST).put (last_key key (held_in x₂).info (last_in block (held_in x₂).units l))) x₂ y₂ x₃ y₃) where
      key-stands : FieldStands place 6 ((full_key TEXT_MOST).put (last_key key (held_in x).info last_of)) x₂ y₂ x₃ y₃
      key-stands =
          stands_as place 6 (ap (λ (h : Held). (full_key TEXT_MOST).put (last_key key h.info (last_in block h.units l))) after-last-text.1) put

      last-key-length : length ((full_key TEXT_MOST).put (last_key key (held_in x).info last_of)) ≡ 56
      last-key-length = last-key-size key (held_in x).info last_of (key-size b c) last-length

      pub after-last-key : Completing x₃ y₃ place × (held_in x₃ ≡ held_in x)
      after-last-key = after-key last_of last-length last-stands (last_key key (held_in x).info last_of) last-key-length key-stands

      pub last-event-stands :
          {x₄ y₄ : List ℕ} → FieldStands place 0 (key_code.put (key_code_of (held_in x₃).info.scancode)) x₃ y₃ x₄ y₄ →
          EventStands place (completed_with (held_in x) (last_key key (held_in x).info last_of) last_of) x y x₄ y₄
      last-event-stands p = event-stands last_of last-length last-stands (last_key key (held_in x).info last_of) last-key-length key-stands p
