-- The held press of a session's area, read and set.
-- Assumes nothing.
use Rattle.std.specs.Prelude.{Option, Some, None}
use mathlib.Core.Path.{◌≡◌, refl, sym, ap, ◌∙◌}
use mathlib.Core.Bool.{Bool, true, false, not}
use mathlib.Core.List.{List, [], ◌∷◌}
use Prim.Native.Nat.{ℕ, zero, suc, ◌+◌, ◌≤◌, ◌<◌}
use native.Mathlib.Omega.{arith}
use lib.ListN.{get_or, set, length, drop, replicate, length-append}
use lib.Seq.{set-get_or}
use borrow.Author.Tests.{leb-true}
use Rattle.area.specs.Splice.{splice}
use Rattle.area.proofs.Splice.{apart}
use Rattle.text.specs.Message.{char_units}
use Rattle.session.specs.Limits.{UNITS_MOST, HELD_FIELD_SIZE, HELD_FIELD_AT, HELD_AT, ENTRIES_AT}
use Rattle.session.specs.Event.{Event, Held}
use Rattle.session.specs.Session.{Session, units_within, held_fits}
use Rattle.session.specs.Area.{event, held, held_field, encode, decode}
use Rattle.session.specs.Builder.{with_units}
use Rattle.session.specs.Questions.{is_held}
use Rattle.session.proofs.Area.{OptHeldFits, opt_held-sound, held-field-width}
use Rattle.session.proofs.Writes.{held-put}
use Rattle.session.proofs.Fits.{units-fit}
use Rattle.record.proofs.read.Places.{held_at, held-ok, held_marked}
use Rattle.record.proofs.Written.{some_put, none_put}
use Rattle.queue.specs.Changed.{holding}
use Rattle.queue.specs.Completing.{held_in}
use Rattle.queue.specs.Room.{IsArea}
use Rattle.queue.specs.Stands.{event_place, EventStands}
use Rattle.queue.proofs.Areas.{AreaOf, kept, own_area, held-area}
use Rattle.queue.proofs.Sessions.{held_parts}

-- ---- read

within : (h : Held) → units_within (Some h) ≡ true → length h.units ≤ UNITS_MOST
unfolding units_within
within h e = leb-true (length h.units) UNITS_MOST e

module _ (x : List ℕ) (r : IsArea x) (e : is_held (decode x).held ≡ true) where
  pub held_there : (decode x).held ≡ Some (held_in x)
  held_there = held_at x e

  pub held_passes : held.ok (drop HELD_AT x) ≡ true
  held_passes = held-ok x e r.passed

  -- it is in range
  pub held_fits_lem : ((i : ℕ) → get_or x i 0 < 256) → (length (held_in x).units ≤ UNITS_MOST) × (held_fits (Some (held_in x)) ≡ true)
  held_fits_lem b =
      let o = held_parts (decode x) (own_area x b r).good in
      (within (held_in x) (rw held_there at o.0), rw held_there at o.1)

-- ---- whether a press is held, as the header's mark tells

pub none-held : (o : Option Held) (b : Bool) → b ≡ is_held o → not b ≡ true → o ≡ None
none-held None b e n = refl
none-held (Some h) b e n = let m : false ≡ true = rw e at n in cc

pub one-held : (o : Option Held) (b : Bool) → b ≡ is_held o → not b ≡ false → is_held o ≡ true
one-held None b e n = sym (rw e at n)
one-held (Some h) b e n = refl

-- ---- set

pub set_fits : (h : Held) → h.units ≡ [] → held_fits (Some h) ≡ true → OptHeldFits (Some h)
set_fits h u f = (f, rw u (omega arith))

-- another press written, or none
pub held-set :
    (x : List ℕ) → ((i : ℕ) → get_or x i 0 < 256) → IsArea x → (o : Option Held) → OptHeldFits o → {k : ℕ} {y : List ℕ} →
    y ≡ splice k (held_field.put o) x → k ≡ HELD_FIELD_AT → y ≡ encode (holding (decode x) o)
held-set x b r o f {k} p u =
    let q = kept x b r in
    p ∙ ap (λ (l : List ℕ). splice k (held_field.put o) l) (sym q.1) ∙ rw u (held-put (decode x) q.0 o f)

-- ---- units added: the mark that a press is held stands already

module _ (x : List ℕ) (b : (i : ℕ) → get_or x i 0 < 256) (r : IsArea x) (e : is_held (decode x).held ≡ true) (w : ℕ) where
  abbrev more : Held
  more = with_units (held_in x) (char_units w)

  more-length : length more.units ≡ length (held_in x).units + length (char_units w)
  unfolding with_units
  more-length = length-append (held_in x).units (char_units w)

  marked : (l : List ℕ) → splice HELD_FIELD_AT (1 ∷ l) x ≡ splice HELD_AT l x
  unfolding splice
  marked l = ap (λ (y : List ℕ). splice HELD_AT l y) (ap (λ (m : ℕ). set x HELD_FIELD_AT m) (sym (held_marked x e r.passed)) ∙ set-get_or x HELD_FIELD_AT 0)

  pub units_added :
      length (held_in x).units + length (char_units w) ≤ UNITS_MOST → {k : ℕ} {y : List ℕ} → y ≡ splice k (held.put more) x → k ≡ HELD_AT →
      y ≡ encode (holding (decode x) (Some more))
  units_added l p u =
      held-set x b r (Some more) (units-fit (held_in x) w (held_fits_lem x r e b).1, omega (arith, more-length))
      (p ∙ rw u (sym (marked (held.put more)) ∙ ap (λ (t : List ℕ). splice HELD_FIELD_AT t x) (sym (some_put more)))) refl

-- ---- forgotten: nothing is out of range

none_width : length (held_field.put None) ≡ HELD_FIELD_SIZE
none_width = opt_held-sound.sized None tt ∙ held-field-width

-- something that no entry counts may stand behind
pub held_forgotten :
    (x : List ℕ) → ((i : ℕ) → get_or x i 0 < 256) → IsArea x → (at : ℕ) (b : List ℕ) → ENTRIES_AT ≤ at → {k : ℕ} {y z : List ℕ} →
    y ≡ splice at b x → z ≡ splice k (held_field.put None) y → k ≡ HELD_FIELD_AT → z ≡ splice at b (encode (holding (decode x) None))
held_forgotten x w r at b h {k} p q u =
    q
    ∙ rw (u, p) (apart HELD_FIELD_AT at (held_field.put None) b x (omega (arith, none_width)))
    ∙ ap (λ (l : List ℕ). splice at b l) (held-set x w r None tt refl refl)

nothing-within : (units_within None ≡ true) × (held_fits None ≡ true)
unfolding units_within held_fits
nothing-within = (refl, refl)

pub forgotten : (s : Session) {x y : List ℕ} → AreaOf s x → y ≡ encode (holding (decode x) None) → AreaOf (holding s None) y
forgotten s a e = held-area s None a nothing-within.0 nothing-within.1 e

-- what `forget_held` says, of an area with nothing behind its entries
pub forgot_plainly :
    {x y : List ℕ} → ((i : ℕ) → get_or x i 0 < 256) → IsArea x →
    ((u : List ℕ) (at : ℕ) (b : List ℕ) → ((i : ℕ) → get_or u i 0 < 256) → IsArea u → ENTRIES_AT ≤ at → x ≡ splice at b u → y ≡ splice at b (encode (holding (decode u) None))) →
    y ≡ encode (holding (decode x) None)
unfolding splice
forgot_plainly {x} w r f = f x ENTRIES_AT [] w r (omega arith) refl

-- ---- forgotten while an event stands where it goes

-- zeros over bytes leave bytes
set-byte : (x : List ℕ) (k : ℕ) → ((i : ℕ) → get_or x i 0 < 256) → (i : ℕ) → get_or (set x k 0) i 0 < 256
set-byte [] k w i = w i
set-byte (a ∷ x) zero w zero = omega arith
set-byte (a ∷ x) zero w (suc i) = w (suc i)
set-byte (a ∷ x) (suc k) w zero = w zero
set-byte (a ∷ x) (suc k) w (suc i) = set-byte x k (λ j. w (suc j)) i

zeros_bytes : (n at : ℕ) (x : List ℕ) → ((i : ℕ) → get_or x i 0 < 256) → (i : ℕ) → get_or (splice at (replicate n 0) x) i 0 < 256
unfolding splice
zeros_bytes zero at x w = w
zeros_bytes (suc n) at x w = zeros_bytes n (suc at) (set x at 0) (set-byte x at w)

module _ (x : List ℕ) (w : (i : ℕ) → get_or x i 0 < 256) (r : IsArea x) where
  abbrev pub unheld : List ℕ
  unheld = encode (holding (decode x) None)

  pub unheld_bytes : (i : ℕ) → get_or unheld i 0 < 256
  unheld_bytes i =
      let e : splice HELD_FIELD_AT (replicate HELD_FIELD_SIZE 0) x ≡ unheld =
      ap (λ (b : List ℕ). splice HELD_FIELD_AT b x) (sym none_put) ∙ held-set x w r None tt refl refl in
      rw e at (zeros_bytes HELD_FIELD_SIZE HELD_FIELD_AT x w i)

  pub unheld_stands :
      (place : ℕ) (e : Event) {y x₁ y₁ x₂ : List ℕ} → EventStands place e x y x₁ y₁ →
      ((u : List ℕ) (at : ℕ) (b : List ℕ) → ((i : ℕ) → get_or u i 0 < 256) → IsArea u → ENTRIES_AT ≤ at → x₁ ≡ splice at b u → x₂ ≡ splice at b (encode (holding (decode u) None))) →
      EventStands place e unheld y x₂ y₁
  unfolding splice
  unheld_stands place e s f =
      record {
        first = λ i. (f x ENTRIES_AT [] w r (omega arith) (s.first i).0, (s.first i).1);
        later = λ n. (f x (event_place place + 0) (event.put e) w r (omega arith) (s.later n).0, (s.later n).1);
      }
