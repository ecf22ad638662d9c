-- The entry that a finish finds by its token: what waits there, where its parts stand, and what is left where nothing waits.
-- Assumes nothing.
use Rattle.std.specs.Prelude.{Option, Some, None}
use mathlib.Core.Path.{◌≡◌, refl, sym, ap, ◌∙◌}
use mathlib.Core.Bool.{Bool, true, false, ◌&&◌}
use mathlib.Core.List.{List, [], ◌∷◌}
use Prim.Native.Nat.{ℕ, suc, ◌+◌, ◌-◌, ◌*◌, ◌≤◌, ◌<◌}
use native.Mathlib.Omega.{arith}
use lib.Dec.{eqb, ltb}
use borrow.Author.Tests.{ltb-true}
use lib.ListN.{get_or, length, take, drop, length-drop}
use lib.Seq.{drop-drop}
use Rattle.area.specs.Pick.{pick}
use Rattle.area.proofs.Splice.{part_rest}
use Rattle.segmentation.specs.Table.{Table}
use Rattle.keys.specs.Text.{bare_of}
use Rattle.keys.specs.declared.Key.{Key}
use Rattle.lookup.specs.declared.keyboard.KeyLParam.{KeyLParam}
use Rattle.session.specs.Limits.{AREA, ENTRIES_MOST, ENTRIES_AT, ENTRY_SIZE, KEY_TEXT_MOST}
use Rattle.session.specs.Event.{Info}
use Rattle.session.specs.declared.Message.{Message}
use Rattle.session.specs.Session.{press, release, character, Entry, token_of, info_fits, wait_fits}
use Rattle.session.specs.Area.{full_key, info, pressed, entry, decode, encode_answer}
use Rattle.session.specs.Builder.{Keyboard}
use Rattle.session.specs.Calls.{wait_in, find_wait}
use Rattle.message.proofs.Effects.{finish_lost}
use Rattle.session.proofs.Lists.{and_true}
use Rattle.session.proofs.Kept.{find_fits, WaitIn}
use Rattle.record.specs.Pending.{pending_of}
use Rattle.record.specs.declared.read.Pending.{Pending}
use Rattle.record.specs.declared.read.Pending.TheVariants as case
use Rattle.record.proofs.Records.{info_got}
use Rattle.record.proofs.read.Walk.{entry-at, entry-ok_at}
use Rattle.record.proofs.read.Places.{press_at, press-ok, release_at, release-ok, character_at, complete_at}
use Rattle.queue.specs.Changed.{Does}
use Rattle.queue.specs.Place.{place_of_token, StandsAt}
use Rattle.queue.specs.Room.{IsArea}
use Rattle.queue.specs.Stands.{info_place}
use Rattle.queue.proofs.Areas.{count_most, own_area}
use Rattle.queue.proofs.Sessions.{entries_fit_lem}
use Rattle.message.specs.Resolves.{EntryAt, finished_by}

-- ---- what the search finds is what waits at the place

found_by :
    (b : Bool) (t : ℕ) (x : Entry) (l : List Entry) (y : Entry) (r : List Entry) → eqb t (token_of x) ≡ b →
    place_of_token t (x ∷ l) < length (x ∷ l) → drop (place_of_token t (x ∷ l)) (x ∷ l) ≡ y ∷ r →
    (place_of_token t l < length l → drop (place_of_token t l) l ≡ y ∷ r → find_wait t l ≡ wait_in y) → find_wait t (x ∷ l) ≡ wait_in y
unfolding place_of_token find_wait
found_by true t x l y r e h d f =
    let g : x ∷ l ≡ y ∷ r = rw e at d in
    let k : x ≡ y = cc in rw (e, k) refl
found_by false t x l y r e h d f =
    let i : pick false 0 (suc (place_of_token t l)) < suc (length l) = rw e at h in
    rw e (f (omega arith) (rw e at d))

found : (t : ℕ) (l : List Entry) (y : Entry) (r : List Entry) → place_of_token t l < length l → drop (place_of_token t l) l ≡ y ∷ r → find_wait t l ≡ wait_in y
found t [] y r h d = absurd (omega arith)
found t (x ∷ l) y r h d = found_by (eqb t (token_of x)) t x l y r refl h d (found t l y r)

-- ---- no entry carries the token

lost_by :
    (b : Bool) (t : ℕ) (x : Entry) (l : List Entry) → eqb t (token_of x) ≡ b → length (x ∷ l) ≤ place_of_token t (x ∷ l) →
    (length l ≤ place_of_token t l → find_wait t l ≡ None) → find_wait t (x ∷ l) ≡ None
unfolding place_of_token find_wait
lost_by true t x l e h f = let g : suc (length l) ≤ pick true 0 (suc (place_of_token t l)) = rw e at h in absurd (omega arith)
lost_by false t x l e h f =
    let g : suc (length l) ≤ pick false 0 (suc (place_of_token t l)) = rw e at h in
    rw e (f (omega arith))

pub lost : (t : ℕ) (l : List Entry) → length l ≤ place_of_token t l → find_wait t l ≡ None
unfolding find_wait
lost t [] h = refl
lost t (x ∷ l) h = lost_by (eqb t (token_of x)) t x l refl h (lost t l)

-- ---- the area of a finish

module _ (x : List ℕ) (b : (i : ℕ) → get_or x i 0 < 256) (own : IsArea x) where
  -- nothing waits: nothing is done
  pub nothing_left :
      (k : Keyboard) (r : Table) (t : ℕ) (p : Option Message) {y : List ℕ} → find_wait t (decode x).entries ≡ None → y ≡ encode_answer [] →
      Does (finished_by (decode x) k r t p) x y
  nothing_left k r t p f e = rw (f, finish_lost (decode x) k r t p) (record { session = (own_area x b own).exact; answers = e })

  module _ (place : ℕ) (h : place < length (decode x).entries) where
    pub entry-within : ENTRIES_AT + ENTRY_SIZE * place + ENTRY_SIZE ≤ length x
    entry-within = omega (arith, count_most x b own, own.size)

    -- read from byte k of the area on
    pub entry_long : {k : ℕ} → k ≤ length x → k ≡ ENTRIES_AT + ENTRY_SIZE * place → ENTRY_SIZE ≤ length (take (length x - k) (drop k x))
    entry_long {k} _ e = rw (part_rest k x) (omega (arith, entry-within, length-drop k x))

-- ---- of which case it is

pub entry_found :
    (x y : List ℕ) (t place : ℕ) → StandsAt x t place → length y ≡ AREA → (k : Pending) {q : Pending} {n : ℕ} →
    q ≡ pending_of (entry.get (take (length x - n) (drop n x))) → q ≡ k → n ≡ ENTRIES_AT + ENTRY_SIZE * place → EntryAt k x y t place
entry_found x y t place s l k {n = n} e g i =
    record {
      stands = s;
      answers = l;
      case = ap (λ (s : List ℕ). pending_of (entry.get s)) (sym (part_rest n x ∙ ap (λ (m : ℕ). drop m x) i)) ∙ sym e ∙ g;
    }

-- ---- the bytes from the entry's first on, and from one of its parts on

module _ (k : Pending) (x y : List ℕ) (t place : ℕ) (a : EntryAt k x y t place) where
  abbrev here : List ℕ
  here = drop (ENTRIES_AT + ENTRY_SIZE * place) x

  pub waits_here : find_wait t (decode x).entries ≡ wait_in (entry.get here)
  waits_here =
      let e : place ≡ place_of_token t (decode x).entries = a.stands.found in
      let h : place < length (decode x).entries = a.stands.within in
      found t (decode x).entries (entry.get here) (drop (suc place) (decode x).entries) (omega arith)
      (ap (λ (i : ℕ). drop i (decode x).entries) (sym e) ∙ entry-at x place h)

  in_order_lem : entry.ok here ≡ true
  in_order_lem = entry-ok_at x place a.stands.area.passed a.stands.within

  module _ (b : (i : ℕ) → get_or x i 0 < 256) where
    pub few : place < ENTRIES_MOST
    few = let h : place < length (decode x).entries = a.stands.within in omega (arith, count_most x b a.stands.area)

    waits_fit : WaitIn (find_wait t (decode x).entries)
    waits_fit = find_fits t (decode x).entries (entries_fit_lem (decode x) (own_area x b a.stands.area).good).1

  -- the part from byte m of the entry on
  part : (m : ℕ) {k : ℕ} → k ≡ ENTRIES_AT + ENTRY_SIZE * place + m → take (length x - k) (drop k x) ≡ drop m here
  part m {k} e = part_rest k x ∙ ap (λ (n : ℕ). drop n x) e ∙ sym (drop-drop m (ENTRIES_AT + ENTRY_SIZE * place) x)

  long : (m n : ℕ) → m + n ≤ ENTRY_SIZE → ((i : ℕ) → get_or x i 0 < 256) → n ≤ length (drop m here)
  long m n h b =
      let s : length x ≡ AREA = a.stands.area.size in
      let f = few b in
      rw (drop-drop m (ENTRIES_AT + ENTRY_SIZE * place) x) (omega (arith, length-drop (ENTRIES_AT + ENTRY_SIZE * place + m) x))

-- ---- an open press, read from byte k of the area on

module _ (x y : List ℕ) (t place : ℕ) (a : EntryAt case.Press x y t place) (b : (i : ℕ) → get_or x i 0 < 256) where
  pub press-reads :
      {k : ℕ} → k ≤ length x → k ≡ ENTRIES_AT + ENTRY_SIZE * place + 4 →
      (5 ≤ length (take (length x - k) (drop k x))) × (pressed.ok (take (length x - k) (drop k x)) ≡ true)
  press-reads _ e =
      let l = drop (ENTRIES_AT + ENTRY_SIZE * place) x in
      rw (part case.Press x y t place a 4 e)
      (long case.Press x y t place a 4 5 (omega arith) b, press-ok l a.case (in_order_lem case.Press x y t place a))

  pub press_waits :
      (vkey : ℕ) (l : KeyLParam) {k : ℕ} → (vkey, l) ≡ pressed.get (take (length x - k) (drop k x)) → k ≡ ENTRIES_AT + ENTRY_SIZE * place + 4 →
      find_wait t (decode x).entries ≡ Some (press vkey l)
  press_waits vkey l g e =
      let h = drop (ENTRIES_AT + ENTRY_SIZE * place) x in
      waits_here case.Press x y t place a
      ∙ ap wait_in (press_at h a.case)
      ∙ ap (λ (q : ℕ × KeyLParam). Some (press q.0 q.1)) (sym (g ∙ ap pressed.get (part case.Press x y t place a 4 e)))

  pub press_range : (vkey : ℕ) (l : KeyLParam) → find_wait t (decode x).entries ≡ Some (press vkey l) → (vkey < 65536) × (l.scancode < 256)
  unfolding wait_fits
  press_range vkey l e =
      let f : (ltb vkey 65536 && ltb l.scancode 256) ≡ true = rw e at (waits_fit case.Press x y t place a b) in
      let g = and_true (ltb vkey 65536) (ltb l.scancode 256) f in (ltb-true vkey 65536 g.0, ltb-true l.scancode 256 g.1)

-- ---- an open release, as it is kept in its entry

-- what is kept of the release at a place
abbrev pub info_at : List ℕ → ℕ → Info
info_at x place = info.get (drop (info_place place) x)

module _ (x y : List ℕ) (t place : ℕ) (a : EntryAt case.Release x y t place) (b : (i : ℕ) → get_or x i 0 < 256) where
  kept_part : drop (info_place place) x ≡ drop 5 (drop (ENTRIES_AT + ENTRY_SIZE * place) x)
  kept_part = sym (drop-drop 5 (ENTRIES_AT + ENTRY_SIZE * place) x)

  pub release_passes : info.ok (drop (info_place place) x) ≡ true
  release_passes = rw kept_part (release-ok (drop (ENTRIES_AT + ENTRY_SIZE * place) x) a.case (in_order_lem case.Release x y t place a))

  pub release_waits : find_wait t (decode x).entries ≡ Some (release (info_at x place))
  release_waits =
      waits_here case.Release x y t place a
      ∙ ap wait_in (release_at (drop (ENTRIES_AT + ENTRY_SIZE * place) x) a.case)
      ∙ ap (λ (l : List ℕ). Some (release (info.get l))) (sym kept_part)

  -- its logical key is read from byte k of the area on
  pub key_reads : {k : ℕ} → k ≤ length x → k ≡ info_place place + 4 → 7 ≤ length (take (length x - k) (drop k x))
  key_reads {k} _ e = rw (part_rest k x) (omega (arith, few case.Release x y t place a b, a.stands.area.size, length-drop k x))

  pub key-read :
      {k : ℕ} {r : Key} → r ≡ bare_of ((full_key KEY_TEXT_MOST).get (take (length x - k) (drop k x))) → k ≡ info_place place + 4 →
      bare_of (info_at x place).logical_key ≡ r
  key-read {k} g e =
      let l = drop (info_place place) x in
      let q : take (length x - k) (drop k x) ≡ drop 4 l = part_rest k x ∙ rw e (sym (drop-drop 4 (info_place place) x)) in
      ap (λ (n : Info). bare_of n.logical_key) (info_got l) ∙ sym (g ∙ ap (λ (m : List ℕ). bare_of ((full_key KEY_TEXT_MOST).get m)) q)

  pub release_range : (n : Info) → find_wait t (decode x).entries ≡ Some (release n) → info_fits n ≡ true
  unfolding wait_fits
  release_range n e = rw e at (waits_fit case.Release x y t place a b)

-- ---- an open character

pub character_waits :
    (x y : List ℕ) (t place : ℕ) → EntryAt case.Character x y t place → find_wait t (decode x).entries ≡ Some character
character_waits x y t place a =
    waits_here case.Character x y t place a ∙ ap wait_in (character_at (drop (ENTRIES_AT + ENTRY_SIZE * place) x) a.case)

-- ---- a complete entry does not wait

pub completed : (x y : List ℕ) (t place : ℕ) → EntryAt case.Complete x y t place → find_wait t (decode x).entries ≡ None
completed x y t place a =
    waits_here case.Complete x y t place a ∙ ap wait_in (complete_at (drop (ENTRIES_AT + ENTRY_SIZE * place) x) a.case)
