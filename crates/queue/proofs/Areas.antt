-- The areas of sessions, as the checks pass them and as the writes leave them.
-- Assumes nothing.
use Rattle.std.specs.Prelude.{Option}
use mathlib.Core.Path.{◌≡◌, refl, sym, ap, ◌∙◌}
use mathlib.Core.Bool.{true}
use mathlib.Core.List.{List}
use Prim.Native.Nat.{ℕ, ◌≤◌, ◌<◌}
use lib.ListN.{get_or, length}
use Rattle.area.proofs.Bytes.{each-byte}
use Rattle.session.specs.Limits.{ENTRIES_MOST, TOKENS_MOST}
use Rattle.session.specs.Event.{Held}
use Rattle.session.specs.Session.{Session, units_within, held_fits, is_session}
use Rattle.session.specs.Area.{encode, decode, session_ok}
use Rattle.session.proofs.Area.{session_back, session_exact}
use Rattle.session.proofs.Writes.{Stored, stored}
use Rattle.queue.specs.Changed.{holding}
use Rattle.queue.specs.Room.{IsArea, HasRoom}
use Rattle.queue.proofs.Sessions.{held-session}

-- ---- an area that passed

-- it is that of its session, each field of its width
pub kept : (x : List ℕ) → ((i : ℕ) → get_or x i 0 < 256) → IsArea x → Stored (decode x) × (encode (decode x) ≡ x)
kept x b r =
    let e = session_exact x (each-byte x b) r.size r.passed in
    (stored (decode x) e.0, e.1)

pub count_most : (x : List ℕ) → ((i : ℕ) → get_or x i 0 < 256) → IsArea x → length (decode x).entries ≤ ENTRIES_MOST
count_most x b r = (kept x b r).0.1.0

-- ---- x is the area of the session s

pub record AreaOf (s : Session) (x : List ℕ) : Type 0 where
  pub area : IsArea x
  pub back : decode x ≡ s
  pub good : is_session s ≡ true
  pub exact : x ≡ encode s

pub area_of : (s : Session) (x : List ℕ) → is_session s ≡ true → x ≡ encode s → AreaOf s x
area_of s x g e =
    let b = session_back s g in
    record { area = record { size = ap length e ∙ b.0; passed = ap session_ok e ∙ b.1 }; back = ap decode e ∙ b.2; good = g; exact = e }

-- the area of its own session
pub own_area : (x : List ℕ) → ((i : ℕ) → get_or x i 0 < 256) → IsArea x → AreaOf (decode x) x
own_area x b r =
    let e = session_exact x (each-byte x b) r.size r.passed in
    record { area = r; back = refl; good = e.0; exact = sym e.1 }

-- another press held, or none
pub held-area :
    (s : Session) (h : Option Held) {x y : List ℕ} → AreaOf s x → units_within h ≡ true → held_fits h ≡ true → y ≡ encode (holding (decode x) h) →
    AreaOf (holding s h) y
held-area s h a u f e = area_of _ _ (held-session s h a.good u f) (e ∙ ap (λ (t : Session). encode (holding t h)) a.back)

-- room for another entry, said of the session
pub room_of : (s : Session) {x : List ℕ} → AreaOf s x → length s.entries < ENTRIES_MOST → s.handed < TOKENS_MOST → HasRoom x
room_of s a n t = record { area = a.area; entry = rw a.back n; token = rw a.back t }
