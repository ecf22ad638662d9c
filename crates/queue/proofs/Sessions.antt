-- A session stays one where its held press changes and where a complete entry goes behind the last.
-- Assumes nothing.
use Rattle.std.specs.Prelude.{Option}
use mathlib.Core.Path.{◌≡◌, refl}
use mathlib.Core.Bool.{true, and-eq-true_iff}
use mathlib.Core.List.{List, [], ◌∷◌, ◌++◌}
use Prim.Native.Nat.{ℕ, suc, ◌+◌, ◌≤◌, ◌<◌}
use native.Mathlib.Omega.{arith}
use lib.Dec.{ltb, leb}
use lib.ListN.{length, length-append}
use borrow.Author.Tests.{ltb-true, lt-ltb, leb-true, le-leb}
use Rattle.session.specs.Limits.{OPEN_MOST, ENTRIES_MOST, TOKENS_MOST}
use Rattle.session.specs.Event.{Event, Held}
use Rattle.session.specs.Session.{Entry, waiting, complete, Session, token_of, open_count, rising, first_open, units_within, in_order, event_fits, held_fits, entry_fits, entries_fit, is_session}
use Rattle.session.proofs.Kept.{Keeps, count-append, fit_append}

-- ---- what makes a session

record Parts (s : Session) : Type 0 where
  rises : rising 0 s.handed s.entries ≡ true
  first : first_open s.handed s.entries ≡ true
  keeps : Keeps s

parts_of : (s : Session) → is_session s ≡ true → Parts s
unfolding is_session in_order
parts_of s h =
    let a = (and-eq-true_iff (in_order s) _).0 h in
    let b = (and-eq-true_iff (entries_fit s.entries) (held_fits s.held)).0 a.1 in
    let c = (and-eq-true_iff (rising 0 s.handed s.entries) _).0 a.0 in
    let d = (and-eq-true_iff (first_open s.handed s.entries) _).0 c.1 in
    let e = (and-eq-true_iff (leb (open_count s.entries) OPEN_MOST) _).0 d.1 in
    let f = (and-eq-true_iff (leb (length s.entries) ENTRIES_MOST) _).0 e.1 in
    let g = (and-eq-true_iff (leb s.handed TOKENS_MOST) (units_within s.held)).0 f.1 in
    record {
      rises = c.0;
      first = d.0;
      keeps = record {
        few = leb-true (open_count s.entries) OPEN_MOST e.0;
        fit = leb-true (length s.entries) ENTRIES_MOST f.0;
        tokens = leb-true s.handed TOKENS_MOST g.0;
        short = g.1;
        stored = b.0;
        press_in = b.1;
      };
    }

session_of : (s : Session) → Parts s → is_session s ≡ true
unfolding is_session in_order
session_of s p =
    let k = p.keeps in
    rw (p.rises, p.first, le-leb _ OPEN_MOST k.few, le-leb _ ENTRIES_MOST k.fit, le-leb _ TOKENS_MOST k.tokens, k.short, k.stored, k.press_in) refl

-- its entries
pub entries_fit_lem : (s : Session) → is_session s ≡ true → (length s.entries ≤ ENTRIES_MOST) × (entries_fit s.entries ≡ true)
entries_fit_lem s h = let k = (parts_of s h).keeps in (k.fit, k.stored)

-- the press that is held
pub held_parts : (s : Session) → is_session s ≡ true → (units_within s.held ≡ true) × (held_fits s.held ≡ true)
held_parts s h = let k = (parts_of s h).keeps in (k.short, k.press_in)

-- ---- another press held, or none

pub held-session :
    (s : Session) (h : Option Held) → is_session s ≡ true → units_within h ≡ true → held_fits h ≡ true →
    is_session (record { handed = s.handed; entries = s.entries; held = h }) ≡ true
held-session s h w u f =
    let p = parts_of s w in
    let k = p.keeps in
    session_of (record { handed = s.handed; entries = s.entries; held = h })
    (record {
      rises = p.rises;
      first = p.first;
      keeps = record { few = k.few; fit = k.fit; tokens = k.tokens; short = u; stored = k.stored; press_in = f };
    })

-- ---- an entry behind the last one

-- under the next token
rising-behind :
    (lo hi : ℕ) (l : List Entry) (x : Entry) → token_of x ≡ hi → lo ≤ hi → rising lo hi l ≡ true → rising lo (hi + 1) (l ++ (x ∷ [])) ≡ true
unfolding rising
rising-behind lo hi [] x t h r = rw (t, le-leb lo hi h, lt-ltb hi (hi + 1) (omega arith)) refl
rising-behind lo hi (y ∷ l) x t h r =
    let a = (and-eq-true_iff (leb lo (token_of y)) _).0 r in
    let b = (and-eq-true_iff (ltb (token_of y) hi) (rising (suc (token_of y)) hi l)).0 a.1 in
    let k = ltb-true (token_of y) hi b.0 in
    rw (a.0, lt-ltb (token_of y) (hi + 1) (omega arith), rising-behind (suc (token_of y)) hi l x t (omega arith) b.1) refl

first-behind : (h k : ℕ) (l m : List Entry) → 0 < length l → first_open h l ≡ true → first_open k (l ++ m) ≡ true
unfolding first_open
first-behind h k [] m n f = absurd (omega arith)
first-behind h k (waiting t w ∷ l) m n f = refl
first-behind h k (complete t e ∷ l) m n f = f

complete_fits : (t : ℕ) (e : Event) → event_fits e ≡ true → entries_fit (complete t e ∷ []) ≡ true
unfolding entries_fit entry_fits
complete_fits t e f = rw f refl

complete_open : (t : ℕ) (e : Event) → open_count (complete t e ∷ []) ≡ 0
unfolding open_count
complete_open t e = refl

pub complete-session :
    (s : Session) (e : Event) → is_session s ≡ true → 0 < length s.entries → event_fits e ≡ true → length s.entries < ENTRIES_MOST →
    s.handed < TOKENS_MOST →
    is_session (record { handed = s.handed + 1; held = s.held; entries = s.entries ++ (complete s.handed e ∷ []) }) ≡ true
complete-session s e w n f l t =
    let p = parts_of s w in
    let k = p.keeps in
    let x = complete s.handed e in
    session_of (record { handed = s.handed + 1; held = s.held; entries = s.entries ++ (x ∷ []) })
    (record {
      rises = rising-behind 0 s.handed s.entries x refl (omega arith) p.rises;
      first = first-behind s.handed (s.handed + 1) s.entries (x ∷ []) n p.first;
      keeps = record {
        few = omega (arith, k.few, count-append s.entries (x ∷ []), complete_open s.handed e);
        fit = omega (arith, length-append s.entries (x ∷ []));
        tokens = omega arith;
        short = k.short;
        stored = fit_append s.entries (x ∷ []) k.stored (complete_fits s.handed e f);
        press_in = k.press_in;
      };
    })
