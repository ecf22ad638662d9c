-- The bytes of an entry, and of an open press in it, part by part.
-- Assumes nothing.
use mathlib.Core.Path.{◌≡◌, refl, sym, ap, ◌∙◌}
use mathlib.Core.Bool.{Bool}
use mathlib.Core.List.{List, [], ◌∷◌, ◌++◌, append_assoc}
use Prim.Native.Nat.{ℕ, suc, ◌+◌, ◌-◌, ◌≤◌}
use native.Mathlib.Omega.{arith}
use lib.ListN.{length, replicate, length-append, length-replicate, replicate-append-replicate}
use Rattle.area.specs.Bytes.{le}
use Rattle.area.specs.Splice.{splice, padded}
use Rattle.area.proofs.Bytes.{length-le}
use Rattle.area.proofs.Splice.{padded_none, chain_down}
use Rattle.lookup.specs.declared.keyboard.KeyLParam.{KeyLParam}
use Rattle.session.specs.Limits.{ENTRY_SIZE, EVENT_SIZE, INFO_SIZE, WAIT_SIZE}
use Rattle.session.specs.Codec.{byte, number, nothing, pair, checked, via, slot, either}
use Rattle.session.specs.Event.{Event, Info}
use Rattle.session.specs.Session.{press, release, character, waiting, complete}
use Rattle.session.specs.Area.{flag, pressed, event, info, wait, entry}
use Rattle.record.proofs.Written.{meet, flag-length}

-- ---- an open press

pub pressed-written :
    (v : ℕ) (l : KeyLParam) (at : ℕ) (x : List ℕ) {w n k₁ k₂ k₃ : ℕ} {b d : Bool} {y₁ y₂ y₃ y₄ : List ℕ} →
    y₁ ≡ splice at (le 2 w) x → y₂ ≡ splice k₁ (n ∷ []) y₁ → y₃ ≡ splice k₂ (flag.put b) y₂ → y₄ ≡ splice k₃ (flag.put d) y₃ →
    w ≡ v → k₁ ≡ at + 2 → k₂ ≡ at + 3 → k₃ ≡ at + 4 →
    ◌≡◌ {A = KeyLParam} (record { scancode = n; extended = b; is_repeat = d }) l → y₄ ≡ splice at (pressed.put (v, l)) x
unfolding pressed via pair number byte
pressed-written v l at x {w} {n} {k₁} {k₂} {k₃} {b} {d} {y₁} {y₂} p₁ p₂ p₃ p₄ e f₁ f₂ f₃ q =
    meet at 2 k₁ (le 2 w) ((n ∷ []) ++ (flag.put b ++ flag.put d)) x (length-le 2 w) f₁ p₁
    (meet k₁ 1 k₂ (n ∷ []) (flag.put b ++ flag.put d) y₁ refl (omega arith) p₂
    (meet k₂ 1 k₃ (flag.put b) (flag.put d) y₂ (flag-length b) (omega arith) p₃ p₄))
    ∙ ap (λ (o : KeyLParam). splice at (pressed.put (w, o)) x) q
    ∙ ap (λ (u : ℕ). splice at (pressed.put (u, l)) x) e

pub pressed-length : (v : ℕ) (l : KeyLParam) → length (pressed.put (v, l)) ≡ 5
unfolding pressed via pair number byte flag checked le
pressed-length v l = refl

-- ---- zeros

-- zeros behind zeros
more_zeros : (w m : ℕ) (p : List ℕ) → length p + m ≤ w → padded w (p ++ replicate m 0) ≡ p ++ replicate (w - length p) 0
unfolding padded
more_zeros w m p h =
    let l : length (p ++ replicate {A = ℕ} m 0) ≡ length p + m = length-append p (replicate m 0) ∙ ap (λ (n : ℕ). length p + n) (length-replicate m 0) in
    let e : m + (w - (length p + m)) ≡ w - length p = omega arith in
    rw (l, append_assoc, replicate-append-replicate {A = ℕ} m (w - (length p + m)) 0, e)

padded_by : (w n : ℕ) (p : List ℕ) → length p ≡ n → padded w p ≡ p ++ replicate (w - n) 0
unfolding padded
padded_by w n p e = ap (λ (m : ℕ). p ++ replicate (w - m) 0) e

-- ---- the token of an entry and its mark, before r

pub marked :
    (t at : ℕ) (x : List ℕ) (u a k₁ k₂ : ℕ) (r : List ℕ) {y₁ y₂ z : List ℕ} → y₁ ≡ splice at (le 2 u) x →
    y₂ ≡ splice k₁ (a ∷ []) y₁ → z ≡ splice k₂ r y₂ → u ≡ t → k₁ ≡ at + 2 → k₂ ≡ at + 3 →
    z ≡ splice at (le 2 t ++ (a ∷ r)) x
marked t at x u a k₁ k₂ r {y₁} p₁ p₂ p e f₁ f₂ =
    meet at 2 k₁ (le 2 u) (a ∷ r) x (length-le 2 u) f₁ p₁ (meet k₁ 1 k₂ (a ∷ []) r y₁ refl (omega arith) p₂ p)
    ∙ ap (λ (n : ℕ). splice at (le 2 n ++ (a ∷ r)) x) e

-- ---- an open entry: its token, two or three marks, what it holds, zeros

press-put :
    (t v : ℕ) (l : KeyLParam) →
    entry.put (waiting t (press v l)) ≡ le 2 t ++ (0 ∷ 0 ∷ (pressed.put (v, l) ++ replicate (ENTRY_SIZE - 9) 0))
unfolding entry via pair number either slot wait
press-put t v l =
    let p = pressed.put (v, l) in
    let n : length p ≡ 5 = pressed-length v l in
    let s : padded WAIT_SIZE p ≡ p ++ replicate (WAIT_SIZE - 5) 0 = padded_by WAIT_SIZE 5 p n in
    let g : EVENT_SIZE - length {A = ℕ} (0 ∷ p) ≡ ENTRY_SIZE - 9 = omega arith in
    let z : padded EVENT_SIZE (0 ∷ (p ++ replicate (WAIT_SIZE - 5) 0)) ≡ 0 ∷ (p ++ replicate (ENTRY_SIZE - 9) 0) =
    more_zeros EVENT_SIZE (WAIT_SIZE - 5) (0 ∷ p) (omega arith) ∙ ap (λ (m : ℕ). 0 ∷ (p ++ replicate m 0)) g in
    ap (λ (r : List ℕ). le 2 t ++ (0 ∷ padded EVENT_SIZE (0 ∷ r))) s ∙ ap (λ (r : List ℕ). le 2 t ++ (0 ∷ r)) z

release-put :
    (t : ℕ) (n : Info) → length (info.put n) ≡ INFO_SIZE →
    entry.put (waiting t (release n)) ≡ le 2 t ++ (0 ∷ 1 ∷ 0 ∷ (info.put n ++ replicate (ENTRY_SIZE - 73) 0))
unfolding entry via pair number either slot wait
release-put t n h =
    ap (λ (r : List ℕ). le 2 t ++ (0 ∷ r)) (padded_by EVENT_SIZE (2 + INFO_SIZE) (1 ∷ 0 ∷ info.put n) (ap suc (ap suc h)))

character-put : (t : ℕ) → entry.put (waiting t character) ≡ le 2 t ++ (0 ∷ 1 ∷ 1 ∷ replicate (ENTRY_SIZE - 5) 0)
unfolding entry via pair number either slot wait nothing
character-put t =
    ap (λ (r : List ℕ). le 2 t ++ (0 ∷ padded EVENT_SIZE (1 ∷ 1 ∷ r))) (padded_none INFO_SIZE)
    ∙ ap (λ (r : List ℕ). le 2 t ++ (0 ∷ r)) (more_zeros EVENT_SIZE INFO_SIZE (1 ∷ 1 ∷ []) (omega arith))

pub press-written :
    (t v : ℕ) (l : KeyLParam) (at : ℕ) (x : List ℕ) {u a b w k₁ k₂ k₃ k₄ : ℕ} {m : KeyLParam} {zs y₁ y₂ y₃ y₄ y₅ : List ℕ} →
    y₁ ≡ splice at (le 2 u) x → y₂ ≡ splice k₁ (a ∷ []) y₁ → y₃ ≡ splice k₂ (b ∷ []) y₂ → y₄ ≡ splice k₃ (pressed.put (w, m)) y₃ →
    y₅ ≡ splice k₄ zs y₄ → u ≡ t → a ≡ 0 → b ≡ 0 → w ≡ v → m ≡ l → zs ≡ replicate (ENTRY_SIZE - 9) 0 → k₁ ≡ at + 2 → k₂ ≡ at + 3 →
    k₃ ≡ at + 4 → k₄ ≡ at + 9 → y₅ ≡ splice at (entry.put (waiting t (press v l))) x
press-written t v l at x {u} {a} {b} {w} {k₁} {k₂} {k₃} {k₄} {m} {zs} {y₁} {y₂} {y₃} p₁ p₂ p₃ p₄ p₅ eu ea eb ew em ez f₁ f₂ f₃ f₄ =
    let q = pressed.put (w, m) in
    marked t at x u a k₁ k₂ (b ∷ (q ++ zs)) p₁ p₂
    (meet k₂ 1 k₃ (b ∷ []) (q ++ zs) y₂ refl (omega arith) p₃ (meet k₃ 5 k₄ q zs y₃ (pressed-length w m) (omega arith) p₄ p₅)) eu f₁ f₂
    ∙ rw (ea, eb, ew, em, ez) (sym (ap (λ (r : List ℕ). splice at r x) (press-put t v l)))

pub release-written :
    (t : ℕ) (n : Info) (at : ℕ) (x : List ℕ) {u a b d k₁ k₂ k₃ k₄ k₅ : ℕ} {m : Info} {zs y₁ y₂ y₃ y₄ y₅ y₆ : List ℕ} →
    length (info.put n) ≡ INFO_SIZE → y₁ ≡ splice at (le 2 u) x → y₂ ≡ splice k₁ (a ∷ []) y₁ →
    y₃ ≡ splice k₂ (b ∷ []) y₂ → y₄ ≡ splice k₃ (d ∷ []) y₃ → y₅ ≡ splice k₄ (info.put m) y₄ → y₆ ≡ splice k₅ zs y₅ →
    u ≡ t → a ≡ 0 → b ≡ 1 → d ≡ 0 → m ≡ n → zs ≡ replicate (ENTRY_SIZE - 73) 0 → k₁ ≡ at + 2 → k₂ ≡ at + 3 → k₃ ≡ at + 4 → k₄ ≡ at + 5 →
    k₅ ≡ at + 73 → y₆ ≡ splice at (entry.put (waiting t (release n))) x
release-written t n at x {u} {a} {b} {d} {k₁} {k₂} {k₃} {k₄} {k₅} {m} {zs} {y₁} {y₂} {y₃} {y₄} h p₁ p₂ p₃ p₄ p₅ p₆ eu ea eb ed em ez f₁ f₂ f₃ f₄ f₅ =
    let q = info.put m in
    let l : length q ≡ INFO_SIZE = ap (λ (o : Info). length (info.put o)) em ∙ h in
    marked t at x u a k₁ k₂ (b ∷ d ∷ (q ++ zs)) p₁ p₂
    (meet k₂ 1 k₃ (b ∷ []) (d ∷ (q ++ zs)) y₂ refl (omega arith) p₃
    (meet k₃ 1 k₄ (d ∷ []) (q ++ zs) y₃ refl (omega arith) p₄ (meet k₄ INFO_SIZE k₅ q zs y₄ l (omega arith) p₅ p₆))) eu f₁ f₂
    ∙ rw (ea, eb, ed, em, ez) (sym (ap (λ (r : List ℕ). splice at r x) (release-put t n h)))

pub character-written :
    (t at : ℕ) (x : List ℕ) {u a b d k₁ k₂ k₃ k₄ : ℕ} {zs y₁ y₂ y₃ y₄ y₅ : List ℕ} → y₁ ≡ splice at (le 2 u) x →
    y₂ ≡ splice k₁ (a ∷ []) y₁ → y₃ ≡ splice k₂ (b ∷ []) y₂ → y₄ ≡ splice k₃ (d ∷ []) y₃ → y₅ ≡ splice k₄ zs y₄ → u ≡ t → a ≡ 0 →
    b ≡ 1 → d ≡ 1 → zs ≡ replicate (ENTRY_SIZE - 5) 0 → k₁ ≡ at + 2 → k₂ ≡ at + 3 → k₃ ≡ at + 4 → k₄ ≡ at + 5 →
    y₅ ≡ splice at (entry.put (waiting t character)) x
character-written t at x {u} {a} {b} {d} {k₁} {k₂} {k₃} {k₄} {zs} {y₁} {y₂} {y₃} p₁ p₂ p₃ p₄ p₅ eu ea eb ed ez f₁ f₂ f₃ f₄ =
    marked t at x u a k₁ k₂ (b ∷ d ∷ zs) p₁ p₂
    (meet k₂ 1 k₃ (b ∷ []) (d ∷ zs) y₂ refl (omega arith) p₃ (meet k₃ 1 k₄ (d ∷ []) zs y₃ refl (omega arith) p₄ p₅)) eu f₁ f₂
    ∙ rw (ea, eb, ed, ez) (sym (ap (λ (r : List ℕ). splice at r x) (character-put t)))

-- ---- a completed entry: its token, its mark, its event

complete-put : (t : ℕ) (e : Event) → entry.put (complete t e) ≡ le 2 t ++ (1 ∷ event.put e)
unfolding entry via pair number either
complete-put t e = refl

-- token and mark alone
pub head_written :
    (t at : ℕ) (x : List ℕ) {u a k : ℕ} {y₁ y₂ : List ℕ} → y₁ ≡ splice at (le 2 u) x → y₂ ≡ splice k (a ∷ []) y₁ → u ≡ t →
    a ≡ 1 → k ≡ at + 2 → y₂ ≡ splice at (le 2 t ++ (1 ∷ [])) x
head_written t at x {u} {a} {k} p₁ p₂ eu ea f =
    meet at 2 k (le 2 u) (a ∷ []) x (length-le 2 u) f p₁ p₂ ∙ rw (eu, ea)

-- .. before an event that stands there already
pub completed_headed :
    (at t : ℕ) (e : Event) (x : List ℕ) {y z : List ℕ} → y ≡ splice (at + 3) (event.put e) x →
    z ≡ splice at (le 2 t ++ (1 ∷ [])) y → z ≡ splice at (entry.put (complete t e)) x
completed_headed at t e x p q =
    let head = le 2 t ++ (1 ∷ []) in
    let l : length head ≡ 3 = length-append (le 2 t) (1 ∷ []) ∙ ap (λ (n : ℕ). n + 1) (length-le 2 t) in
    chain_down at 3 head (event.put e) x l p q
    ∙ ap (λ (r : List ℕ). splice at r x) (append_assoc (le 2 t) (1 ∷ []) (event.put e) ∙ sym (complete-put t e))
