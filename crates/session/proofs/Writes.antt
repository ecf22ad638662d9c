-- What the writes of the calls make of the areas: bytes written over one part of a session's area leave the area of the session with that
-- part changed, and events written one behind the other, their count and zeros leave the answer area of those events.
-- Assumes nothing.
use Rattle.std.specs.Prelude.{Option}
use mathlib.Core.Path.{◌≡◌, refl, sym, ap, ◌∙◌}
use mathlib.Core.Bool.{true}
use mathlib.Core.List.{List, [], ◌∷◌, ◌++◌, append_assoc, append-nil}
use Prim.Native.Nat.{ℕ, suc, ◌+◌, ◌-◌, ◌*◌, ◌^◌, ◌≤◌, ◌<◌}
use native.Mathlib.Omega.{arith}
use lib.ListN.{length, take, drop, replicate, length-append, length-replicate, take-append-drop, replicate-append-replicate}
use lib.Seq.{drop_at, take_at, drop-drop, length-take-le}
use Rattle.area.specs.Bytes.{le}
use Rattle.area.specs.Splice.{splice, padded}
use Rattle.area.specs.Zero.{zero_from}
use Rattle.area.proofs.Bytes.{length-le}
use Rattle.area.proofs.Splice.{splice_eq, chain, length-splice, part_length}
use Rattle.area.proofs.Zero.{zero_fill}
use Rattle.session.specs.Limits.{AREA, ENTRIES_MOST, COUNT_AT, ENTRIES_AT, ENTRY_SIZE, HELD_FIELD_SIZE, ANSWER_EVENT_SIZE}
use Rattle.session.specs.Codec.{Codec, number, pair, via, slot, put_many, list_of}
use Rattle.session.specs.Event.{Event, Held}
use Rattle.session.specs.Session.{Entry, Session, all_fit, is_session}
use Rattle.session.specs.Area.{event, entry, held_field, session, encode, answer, encode_answer}
use Rattle.session.proofs.Codec.{Sound, All, many_sized, rest, list_as, list_sized, number_zeros}
use Rattle.session.proofs.Area.{EntryFits, OptHeldFits, event-sound, event-width, entry-sound, entry-width, opt_held-sound, held-field-width, session_parts, events-each}

-- ---- bytes

-- as many bytes written over those that stand behind p
over :
    (at : ℕ) (p b b' r : List ℕ) {x : List ℕ} → x ≡ p ++ (b ++ r) → length p ≡ at → length b' ≡ length b →
    splice at b' x ≡ p ++ (b' ++ r)
over at p b b' r e l m =
    let x = p ++ (b ++ r) in
    ap (λ (t : List ℕ). splice at b' t) e
    ∙ splice_eq b' x at (omega (arith, length-append p (b ++ r), length-append b r))
    ∙ rw (take_at p (b ++ r) at l, m, ← drop-drop (length b) at x, drop_at p (b ++ r) at l, drop_at b r (length b) refl) (append_assoc p b' r)

module _ {A : Type 0} (X : Codec A) where
  pub many_append : (s t : List A) → put_many X (s ++ t) ≡ put_many X s ++ put_many X t
  unfolding put_many
  many_append [] t = refl
  many_append (a ∷ s) t = rw (append_assoc, many_append s t)

  pub many_one : (a : A) → put_many X (a ∷ []) ≡ X.put a
  unfolding put_many
  many_one a = append-nil (X.put a)

all_append : {A : Type 0} (F : A → Type 0) (s t : List A) → All F s → All F t → All F (s ++ t)
all_append F [] t h k = k
all_append F (a ∷ s) t h k = (h.0, all_append F s t h.1 k)

all_parts : {A : Type 0} (F : A → Type 0) (s t : List A) → All F (s ++ t) → All F s × All F t
all_parts F [] t h = (tt, h)
all_parts F (a ∷ s) t h = let i = all_parts F s t h.1 in ((h.0, i.0), i.1)

-- a list behind p, with zeros up to w
slot_list :
    {A : Type 0} {X : Codec A} {F : A → Type 0} (x : Sound X F) (w k n m : ℕ) (p : List ℕ) (s : List A) → n < 256 ^ k →
    length p ≡ m → m + (k + n * X.width) ≤ w → length s ≤ n → All F s →
    padded w (p ++ (list_of k n X).put s) ≡ p ++ (le k (length s) ++ (put_many X s ++ replicate (w - (m + (k + length s * X.width))) 0))
unfolding padded
slot_list {X} x w k n m p s q l g h f =
    let c = (list_of k n X).put s in
    let i : length c ≡ k + n * X.width = unfold list_of in list_sized k n q x s (h, f) in
    let j : length (p ++ c) ≡ m + (k + n * X.width) = length-append p c ∙ omega (arith, i) in
    let z = w - length (p ++ c) in
    let e : (n - length s) * X.width + z ≡ w - (m + (k + length s * X.width)) = omega (arith, j, rest (length s) n X.width h) in
    append_assoc p c (replicate {A = ℕ} z 0)
    ∙ ap (λ (t : List ℕ). p ++ t) (list_as k n q x s (replicate {A = ℕ} z 0) h f)
    ∙ rw (replicate-append-replicate {A = ℕ} ((n - length s) * X.width) z 0, e)

-- ---- the session area

-- where entry i stands
abbrev pub place_of : ℕ → ℕ
place_of i = ENTRIES_AT + ENTRY_SIZE * i

-- the area by its parts: tokens handed out, the held press, the number of entries, and what stands behind
abbrev parts : ℕ → Option Held → ℕ → List ℕ → List ℕ
parts h o n l = le 2 h ++ (held_field.put o ++ (le 2 n ++ l))

-- entries, and zeros behind
abbrev places : List Entry → List ℕ
places es = put_many entry es ++ replicate (AREA - place_of (length es)) 0

-- every field has its width
abbrev pub Stored : Session → Type 0
Stored s = OptHeldFits s.held × ((length s.entries ≤ ENTRIES_MOST) × All EntryFits s.entries)

pub stored : (s : Session) → is_session s ≡ true → Stored s
stored s w = (session_parts s w).1.1

encode_list :
    (s : Session) → encode s ≡ padded AREA (le 2 s.handed ++ (held_field.put s.held ++ (list_of 2 ENTRIES_MOST entry).put s.entries))
unfolding encode session slot via pair number
encode_list s = refl

held-length : (o : Option Held) → OptHeldFits o → length (held_field.put o) ≡ HELD_FIELD_SIZE
held-length o f = opt_held-sound.sized o f ∙ held-field-width

head_length : (h : ℕ) (o : Option Held) → OptHeldFits o → length (le 2 h ++ held_field.put o) ≡ COUNT_AT
head_length h o f = length-append (le 2 h) (held_field.put o) ∙ omega (arith, length-le 2 h, held-length o f)

entry_length : (e : Entry) → EntryFits e → length (entry.put e) ≡ ENTRY_SIZE
entry_length e f = entry-sound.sized e f ∙ entry-width

entries-length : (es : List Entry) → All EntryFits es → length (put_many entry es) ≡ ENTRY_SIZE * length es
entries-length es f = many_sized entry entry-sound es f ∙ rw entry-width (omega arith)

pub encode_as :
    (s : Session) → Stored s →
    encode s ≡ le 2 s.handed ++ (held_field.put s.held ++ (le 2 (length s.entries) ++ (put_many entry s.entries ++ replicate (AREA - place_of (length s.entries)) 0)))
encode_as s f =
    let h = le 2 s.handed in
    let o = held_field.put s.held in
    let es = s.entries in
    let l = head_length s.handed s.held f.0 in
    let e : AREA - (COUNT_AT + (2 + length es * entry.width)) ≡ AREA - place_of (length es) = rw entry-width (omega arith) in
    encode_list s
    ∙ ap (λ (t : List ℕ). padded AREA t) (sym (append_assoc h o ((list_of 2 ENTRIES_MOST entry).put es)))
    ∙ slot_list entry-sound AREA 2 ENTRIES_MOST COUNT_AT (h ++ o) es (omega arith) l (omega (arith, entry-width)) f.1.0 f.1.1
    ∙ append_assoc h o _
    ∙ ap (λ (k : ℕ). parts s.handed s.held (length es) (put_many entry es ++ replicate k 0)) e

-- what stands before the place behind some entries
abbrev before : ℕ → Option Held → ℕ → List Entry → List ℕ
before h o n es = le 2 h ++ (held_field.put o ++ (le 2 n ++ put_many entry es))

before_as :
    (h : ℕ) (o : Option Held) (n : ℕ) (es : List Entry) (r : List ℕ) → parts h o n (put_many entry es ++ r) ≡ before h o n es ++ r
before_as h o n es r = sym (rw (append_assoc, append_assoc, append_assoc) refl)

before-length :
    (h : ℕ) (o : Option Held) (n : ℕ) (es : List Entry) → OptHeldFits o → All EntryFits es → length (before h o n es) ≡ place_of (length es)
before-length h o n es f g =
    let p = put_many entry es in
    let q = le 2 n ++ p in
    length-append (le 2 h) (held_field.put o ++ q)
    ∙ omega (arith, length-append (held_field.put o) q, length-append (le 2 n) p, length-le 2 h, length-le 2 n, held-length o f, entries-length es g)

pub encode-length : (s : Session) → Stored s → length (encode s) ≡ AREA
encode-length s f =
    let n = length s.entries in
    let b = before s.handed s.held n s.entries in
    let z = replicate {A = ℕ} (AREA - place_of n) 0 in
    let i : n ≤ ENTRIES_MOST = f.1.0 in
    ap length (encode_as s f ∙ before_as s.handed s.held n s.entries z)
    ∙ length-append b z
    ∙ omega (arith, before-length s.handed s.held n s.entries f.0 f.1.1, length-replicate {A = ℕ} (AREA - place_of n) 0)

-- ---- tokens handed out, the held press

pub handed-put :
    (s : Session) → Stored s → (h : ℕ) →
    splice 0 (le 2 h) (encode s) ≡ encode (record { handed = h; held = s.held; entries = s.entries })
handed-put s f h =
    over 0 [] (le 2 s.handed) (le 2 h) _ (encode_as s f) refl (length-le 2 h ∙ sym (length-le 2 s.handed))
    ∙ sym (encode_as (record { handed = h; held = s.held; entries = s.entries }) f)

pub held-put :
    (s : Session) → Stored s → (o : Option Held) → OptHeldFits o →
    splice 2 (held_field.put o) (encode s) ≡ encode (record { handed = s.handed; held = o; entries = s.entries })
held-put s f o g =
    over 2 (le 2 s.handed) (held_field.put s.held) (held_field.put o) _ (encode_as s f) (length-le 2 s.handed) (held-length o g ∙ sym (held-length s.held f.0))
    ∙ sym (encode_as (record { handed = s.handed; held = o; entries = s.entries }) (g, f.1))

-- ---- the entries

-- the places of the entries A, of x and of B, and zeros
places_at :
    (A : List Entry) (x : Entry) (B : List Entry) →
    places (A ++ (x ∷ B)) ≡ put_many entry A ++ (entry.put x ++ (put_many entry B ++ replicate (AREA - place_of (length A + suc (length B))) 0))
unfolding put_many
places_at A x B = rw (length-append A (x ∷ B), many_append entry A (x ∷ B), append_assoc, append_assoc)

-- the number of entries written
count-put :
    (s : Session) (n : ℕ) (es : List Entry) → Stored (record { handed = s.handed; held = s.held; entries = es }) →
    splice COUNT_AT (le 2 (length es)) (parts s.handed s.held n (places es)) ≡ encode (record { handed = s.handed; held = s.held; entries = es })
count-put s n es f =
    let h = le 2 s.handed in
    let o = held_field.put s.held in
    let m = length es in
    let l = head_length s.handed s.held f.0 in
    over COUNT_AT (h ++ o) (le 2 n) (le 2 m) (places es) (sym (append_assoc h o (le 2 n ++ places es))) l (length-le 2 m ∙ sym (length-le 2 n))
    ∙ append_assoc h o (le 2 m ++ places es)
    ∙ sym (encode_as (record { handed = s.handed; held = s.held; entries = es }) f)

-- bytes written over as many behind the entries A, which makes the places those of es
place-put :
    (s : Session) → Stored s → (A es : List Entry) (b b' r : List ℕ) → All EntryFits A → length b' ≡ length b →
    places s.entries ≡ put_many entry A ++ (b ++ r) → places es ≡ put_many entry A ++ (b' ++ r) →
    splice (place_of (length A)) b' (encode s) ≡ parts s.handed s.held (length s.entries) (places es)
place-put s f A es b b' r g l p q =
    let h = s.handed in
    let o = s.held in
    let n = length s.entries in
    over (place_of (length A)) (before h o n A) b b' r (encode_as s f ∙ ap (parts h o n) p ∙ before_as h o n A (b ++ r)) (before-length h o n A f.0 g) l
    ∙ sym (ap (parts h o n) q ∙ before_as h o n A (b' ++ r))

pub put_stored :
    (s : Session) → Stored s → (e : Entry) → EntryFits e → length s.entries < ENTRIES_MOST →
    Stored (record { handed = s.handed; held = s.held; entries = s.entries ++ (e ∷ []) })
put_stored s f e g h =
    (f.0, (omega (arith, length-append s.entries (e ∷ [])), all_append EntryFits s.entries (e ∷ []) f.1.1 (g, tt)))

pub entry-put :
    (s : Session) → Stored s → (e : Entry) → EntryFits e → length s.entries < ENTRIES_MOST →
    splice COUNT_AT (le 2 (length s.entries + 1)) (splice (place_of (length s.entries)) (entry.put e) (encode s)) ≡ encode (record { handed = s.handed; held = s.held; entries = s.entries ++ (e ∷ []) })
unfolding put_many
entry-put s f e g h =
    let A = s.entries in
    let n = length A in
    let z = AREA - place_of (n + 1) in
    let k : AREA - place_of n ≡ ENTRY_SIZE + z = omega arith in
    let p : places A ≡ put_many entry A ++ (replicate ENTRY_SIZE 0 ++ replicate z 0) =
    rw (k, replicate-append-replicate {A = ℕ} ENTRY_SIZE z 0) in
    let l : length (entry.put e) ≡ length (replicate {A = ℕ} ENTRY_SIZE 0) = entry_length e g ∙ sym (length-replicate {A = ℕ} ENTRY_SIZE 0) in
    rw (place-put s f A (A ++ (e ∷ [])) (replicate ENTRY_SIZE 0) (entry.put e) (replicate z 0) f.1.1 l p (places_at A e []), ← length-append A (e ∷ []))
    (count-put s n (A ++ (e ∷ [])) (put_stored s f e g h))

module _ (s : Session) (f : Stored s) (A : List Entry) (x : Entry) (B : List Entry) (q : s.entries ≡ A ++ (x ∷ B)) where
  each : All EntryFits A × (EntryFits x × All EntryFits B)
  each = all_parts EntryFits A (x ∷ B) (rw q at f.1.1)

  count : length s.entries ≡ length A + suc (length B)
  count = ap length q ∙ length-append A (x ∷ B)

  pub over_stored :
      (e : Entry) → EntryFits e → Stored (record { handed = s.handed; held = s.held; entries = A ++ (e ∷ B) })
  over_stored e g =
      let i : length s.entries ≤ ENTRIES_MOST = f.1.0 in
      (f.0, (omega (arith, count, length-append A (e ∷ B)), all_append EntryFits A (e ∷ B) each.0 (g, each.1.1)))

  pub entry_over :
      (e : Entry) → EntryFits e →
      splice (place_of (length A)) (entry.put e) (encode s) ≡ encode (record { handed = s.handed; held = s.held; entries = A ++ (e ∷ B) })
  entry_over e g =
      let l = entry_length e g ∙ sym (entry_length x each.1.0) in
      place-put s f A (A ++ (e ∷ B)) (entry.put x) (entry.put e) _ each.0 l (ap places q ∙ places_at A x B) (places_at A e B)
      ∙ ap (λ (n : ℕ). parts s.handed s.held n (places (A ++ (e ∷ B)))) (count ∙ sym (length-append A (e ∷ B)))
      ∙ sym (encode_as (record { handed = s.handed; held = s.held; entries = A ++ (e ∷ B) }) (over_stored e g))

  pub drop_stored : Stored (record { handed = s.handed; held = s.held; entries = A ++ B })
  drop_stored =
      let i : length s.entries ≤ ENTRIES_MOST = f.1.0 in
      (f.0, (omega (arith, count, length-append A B), all_append EntryFits A B each.0 each.1.1))

  -- the entries B
  behind : take (ENTRY_SIZE * length B) (drop (place_of (length A) + ENTRY_SIZE) (encode s)) ≡ put_many entry B
  behind =
      let h = s.handed in
      let o = s.held in
      let n = length s.entries in
      let z = replicate {A = ℕ} (AREA - place_of (length A + suc (length B))) 0 in
      let r = entry.put x ++ (put_many entry B ++ z) in
      let e : encode s ≡ before h o n A ++ r = encode_as s f ∙ ap (parts h o n) (ap places q ∙ places_at A x B) ∙ before_as h o n A r in
      rw (e, ← drop-drop ENTRY_SIZE (place_of (length A)) (before h o n A ++ r), drop_at (before h o n A) r (place_of (length A)) (before-length h o n A f.0 each.0), drop_at (entry.put x) (put_many entry B ++ z) ENTRY_SIZE (entry_length x each.1.0))
      (take_at (put_many entry B) z (ENTRY_SIZE * length B) (entries-length B each.1.1))

  -- the entries B moved down over x, and zeros over the last place
  pub entry-drop :
      {y z : List ℕ} →
      y ≡ splice (place_of (length A)) (take (ENTRY_SIZE * length B) (drop (place_of (length A) + ENTRY_SIZE) (encode s))) (encode s) →
      z ≡ splice (place_of (length A + length B)) (replicate ENTRY_SIZE 0) y →
      splice COUNT_AT (le 2 (length A + length B)) z ≡ encode (record { handed = s.handed; held = s.held; entries = A ++ B })
  entry-drop {y} {z} u v =
      let a = length A in
      let b = length B in
      let m = put_many entry B in
      let w = AREA - place_of (a + suc b) in
      let i : length s.entries ≤ ENTRIES_MOST = f.1.0 in
      let k : ENTRY_SIZE + w ≡ AREA - place_of (a + b) = omega (arith, count) in
      let d : place_of (a + b) ≡ place_of a + ENTRY_SIZE * b = omega arith in
      let l : length (m ++ replicate ENTRY_SIZE 0) ≡ length (entry.put x ++ m) =
      length-append m (replicate ENTRY_SIZE 0) ∙ omega (arith, length-append (entry.put x) m, entry_length x each.1.0, length-replicate {A = ℕ} ENTRY_SIZE 0) in
      let o : places s.entries ≡ put_many entry A ++ ((entry.put x ++ m) ++ replicate w 0) =
      ap places q ∙ places_at A x B ∙ ap (λ (t : List ℕ). put_many entry A ++ t) (sym (append_assoc (entry.put x) m (replicate w 0))) in
      let n : places (A ++ B) ≡ put_many entry A ++ ((m ++ replicate ENTRY_SIZE 0) ++ replicate w 0) =
      rw (length-append A B, many_append entry A B, append_assoc, append_assoc, replicate-append-replicate {A = ℕ} ENTRY_SIZE w 0, k) in
      let t : z ≡ splice (place_of a) (m ++ replicate ENTRY_SIZE 0) (encode s) =
      chain (place_of a) (ENTRY_SIZE * b) m (replicate ENTRY_SIZE 0) (encode s) (entries-length B each.1.1) (u ∙ rw behind) (v ∙ rw d) in
      rw (t, place-put s f A (A ++ B) (entry.put x ++ m) (m ++ replicate ENTRY_SIZE 0) (replicate w 0) each.0 l o n, ← length-append A B)
      (count-put s (length s.entries) (A ++ B) drop_stored)

-- ---- no entry

zero_count : (n : ℕ) → le 2 0 ++ replicate n 0 ≡ replicate (2 + n) 0
zero_count n =
    let e : le 2 0 ≡ replicate 2 0 = unfold number in number_zeros 2 in
    ap (λ (t : List ℕ). t ++ replicate {A = ℕ} n 0) e ∙ replicate-append-replicate {A = ℕ} 2 n 0

pub emptied_zero :
    (s : Session) → Stored s → zero_from COUNT_AT (encode s) ≡ encode (record { handed = s.handed; held = s.held; entries = [] })
unfolding zero_from put_many
emptied_zero s f =
    let h = le 2 s.handed in
    let o = held_field.put s.held in
    let r = le 2 (length s.entries) ++ places s.entries in
    let t : take COUNT_AT (encode s) ≡ h ++ o =
    ap (λ (l : List ℕ). take COUNT_AT l) (encode_as s f ∙ sym (append_assoc h o r)) ∙ take_at (h ++ o) r COUNT_AT (head_length s.handed s.held f.0) in
    rw (t, encode-length s f) (append_assoc h o (replicate {A = ℕ} (AREA - COUNT_AT) 0))
    ∙ ap (λ (l : List ℕ). h ++ (o ++ l)) (sym (zero_count (AREA - ENTRIES_AT)))
    ∙ sym (encode_as (record { handed = s.handed; held = s.held; entries = [] }) (f.0, (omega arith, tt)))

pub emptied :
    (s : Session) → Stored s →
    splice COUNT_AT (replicate (AREA - COUNT_AT) 0) (encode s) ≡ encode (record { handed = s.handed; held = s.held; entries = [] })
emptied s f =
    let l = encode-length s f in
    ap (λ (n : ℕ). splice COUNT_AT (replicate (n - COUNT_AT) 0) (encode s)) (sym l) ∙ zero_fill COUNT_AT (encode s) (omega arith) ∙ emptied_zero s f

-- ---- the answer area

answer_list : (es : List Event) → encode_answer es ≡ padded AREA ((list_of 2 ENTRIES_MOST event).put es)
unfolding encode_answer answer slot
answer_list es = refl

pub events-length : (es : List Event) → all_fit es ≡ true → length (put_many event es) ≡ ANSWER_EVENT_SIZE * length es
events-length es f = many_sized event event-sound es (events-each es f) ∙ rw event-width (omega arith)

pub answer_as :
    (es : List Event) → all_fit es ≡ true → length es ≤ ENTRIES_MOST →
    encode_answer es ≡ le 2 (length es) ++ (put_many event es ++ replicate (AREA - (2 + ANSWER_EVENT_SIZE * length es)) 0)
answer_as es f h =
    let e : AREA - (0 + (2 + length es * event.width)) ≡ AREA - (2 + ANSWER_EVENT_SIZE * length es) = rw event-width (omega arith) in
    answer_list es
    ∙ slot_list event-sound AREA 2 ENTRIES_MOST 0 [] es (omega arith) refl (omega (arith, event-width)) h (events-each es f)
    ∙ ap (λ (k : ℕ). le 2 (length es) ++ (put_many event es ++ replicate k 0)) e

-- events es written over an area y₀, one behind the other: none yet, and one more
abbrev pub Handing : List Event → List ℕ → List ℕ → Type 0
Handing es y₀ y = y ≡ splice 2 (put_many event es) y₀

pub event_none : (y : List ℕ) → Handing [] y y
unfolding put_many splice
event_none y = refl

pub event-put :
    (es : List Event) (e : Event) (y₀ : List ℕ) (at : ℕ) {y z : List ℕ} → all_fit es ≡ true → at ≡ 2 + ANSWER_EVENT_SIZE * length es → Handing es y₀ y →
    z ≡ splice at (event.put e) y → Handing (es ++ (e ∷ [])) y₀ z
event-put es e y₀ at f a p q =
    chain 2 (ANSWER_EVENT_SIZE * length es) (put_many event es) (event.put e) y₀ (events-length es f) p (q ∙ rw a)
    ∙ ap (λ (t : List ℕ). splice 2 t y₀) (sym (many_append event es (e ∷ []) ∙ ap (λ (t : List ℕ). put_many event es ++ t) (many_one event e)))

-- then their count, and zeros behind
pub answer_done :
    (es : List Event) (y₀ : List ℕ) (at : ℕ) {y z w : List ℕ} → all_fit es ≡ true → length es ≤ ENTRIES_MOST → length y₀ ≡ AREA →
    at ≡ 2 + ANSWER_EVENT_SIZE * length es → Handing es y₀ y → z ≡ splice 0 (le 2 (length es)) y → w ≡ zero_from at z → w ≡ encode_answer es
unfolding zero_from
answer_done es y₀ at {y} {z} {w} f h l a p q v =
    let n = length es in
    let m = put_many event es in
    let k = ANSWER_EVENT_SIZE * n in
    let b = take k (drop 2 y₀) in
    let r = drop at y₀ in
    let i : length m ≡ k = events-length es f in
    let j : length b ≡ k = part_length 2 k y₀ (omega arith) in
    let c : length (take 2 y₀) ≡ 2 = length-take-le 2 y₀ (omega arith) in
    let s : y₀ ≡ take 2 y₀ ++ (b ++ r) =
    sym (ap (λ (t : List ℕ). take 2 y₀ ++ t) (rw (a, ← drop-drop k 2 y₀) (take-append-drop k (drop 2 y₀))) ∙ take-append-drop 2 y₀) in
    let g : z ≡ (le 2 n ++ m) ++ r =
    q
    ∙ over 0 [] (take 2 y₀) (le 2 n) (m ++ r) (p ∙ over 2 (take 2 y₀) b m r s c (i ∙ sym j)) refl (length-le 2 n ∙ sym c)
    ∙ sym (append_assoc (le 2 n) m r) in
    let d : length (le 2 n ++ m) ≡ at = length-append (le 2 n) m ∙ omega (arith, length-le 2 n) in
    let o : length z ≡ AREA = ap length q ∙ length-splice 0 (le 2 n) y ∙ ap length p ∙ length-splice 2 m y₀ ∙ l in
    v
    ∙ rw (o, g, take_at (le 2 n ++ m) r at d, a) (append_assoc (le 2 n) m (replicate {A = ℕ} (AREA - (2 + k)) 0))
    ∙ sym (answer_as es f h)
