-- The calls and the book sort messages by tests of their own: the two agree.
-- Assumes nothing.
use Rattle.std.specs.Prelude.{Option, Some, None}
use mathlib.Core.Path.{◌≡◌, refl, sym, subst}
use mathlib.Core.Bool.{Bool, true, false, not, ◌||◌}
use Prim.Native.Nat.{ℕ}
use lib.Dec.{eqb}
use borrow.Author.Tests.{eqb-true}
use Rattle.area.specs.Pick.{pick}
use Rattle.area.specs.Look.{assoc}
use Rattle.session.specs.Given.{Inputs}
use Rattle.session.specs.declared.Message.{Message}
use Rattle.session.specs.Builder.{keyboard_of}
use Rattle.session.specs.Focus.{focus_events}
use Rattle.session.specs.Calls.{Sort, key_down, key_up, char, dead_char, ignored, focus, sort_of, seen, holds, more_coming}
use Rattle.session.specs.Book.{Book, press_kind, release_kind, book_open, book_character, book_dead_character, book_focus, book_message, unless_quit, makes_held, more_to_come}

-- what the book does with a message that the calls sort so
unfoldable pub book_by : Sort → Book → Inputs → Message → Book
book_by key_down b i m = book_open b i m b.held
book_by key_up b i m = book_open b i m b.held
book_by char b i m = book_character b i m b.held
book_by dead_char b i m = book_dead_character b b.held
book_by (focus st) b i m = book_focus b (focus_events (keyboard_of i) st)
book_by ignored b i m = b

-- what the book calls a message that the calls sort so
unfoldable pub Called : Sort → ℕ → Type 0
Called key_down k = press_kind k ≡ true
Called key_up k = (press_kind k ≡ false) × (release_kind k ≡ true)
Called char k = (press_kind k ≡ false) × (release_kind k ≡ false)
Called dead_char k = Unit {0}
Called (focus st) k = Unit {0}
Called ignored k = Unit {0}

-- a kind is one of ten, or none of them
tested : (P : ℕ → Type 0) (n k : ℕ) → P n → (eqb k n ≡ false → P k) → P k
tested P n k p q = go (eqb k n) refl
  where
    go : (b : Bool) → eqb k n ≡ b → P k
    go true e = subst P (sym (eqb-true k n e)) p
    go false e = q e

module _ (b : Book) (i : Inputs) (w l : ℕ) where
  abbrev of : ℕ → Message
  of k = record { kind = k; wparam = w; lparam = l }

  abbrev Agrees : ℕ → Type 0
  Agrees k = (book_message b i (of k) ≡ book_by (sort_of (of k)) b i (of k)) × Called (sort_of (of k)) k

  system : (f4 : Bool) → (pick f4 b (book_open b i (of 0x104) b.held) ≡ book_by (pick f4 ignored key_down) b i (of 0x104)) × Called (pick f4 ignored key_down) 0x104
  unfolding book_by Called
  system true = (refl, tt)
  system false = (refl, refl)

  agrees : (k : ℕ) → Agrees k
  unfolding book_message sort_of assoc book_by Called
  agrees k =
      tested Agrees 0x100 k (refl, refl) (λ e0.
      tested Agrees 0x104 k (system (eqb w 0x73)) (λ e4.
      tested Agrees 0x101 k (refl, (refl, refl)) (λ e1.
      tested Agrees 0x105 k (refl, (refl, refl)) (λ e5.
      tested Agrees 0x102 k (refl, (refl, refl)) (λ e2.
      tested Agrees 0x106 k (refl, (refl, refl)) (λ e6.
      tested Agrees 0x103 k (refl, tt) (λ e3.
      tested Agrees 0x107 k (refl, tt) (λ e7.
      tested Agrees 0x7 k (refl, tt) (λ g.
      tested Agrees 0x8 k (refl, tt) (λ d. rw (e0, e4, e1, e5, e2, e6, e3, e7, g, d) (refl, tt)))))))))))

pub book_sorted : (b : Book) (i : Inputs) (m : Message) → book_message b i m ≡ book_by (sort_of m) b i m
book_sorted b i m = (agrees b i m.wparam m.lparam m.kind).0

pub called : (b : Book) (i : Inputs) (m : Message) → Called (sort_of m) m.kind
called b i m = (agrees b i m.wparam m.lparam m.kind).1

-- ---- what was peeked

pub quit_alike : (p : Option Message) → seen p ≡ unless_quit p
unfolding seen unless_quit assoc
quit_alike None = refl
quit_alike (Some m) = refl

none_of : (a b c d : Bool) → pick a false (pick b false (pick c false (pick d false true))) ≡ not ((a || c) || (b || d))
none_of true b c d = refl
none_of false true true d = refl
none_of false true false d = refl
none_of false false true d = refl
none_of false false false true = refl
none_of false false false false = refl

pub held_alike : (p : Option Message) → holds p ≡ makes_held p
unfolding holds makes_held assoc
held_alike None = refl
held_alike (Some m) = none_of (eqb m.kind 0x100) (eqb m.kind 0x101) (eqb m.kind 0x104) (eqb m.kind 0x105)

either_of : (a b : Bool) → pick a true (pick b true false) ≡ (a || b)
either_of true b = refl
either_of false true = refl
either_of false false = refl

pub more_alike : (p : Option Message) → more_coming p ≡ more_to_come p
unfolding more_coming more_to_come assoc
more_alike None = refl
more_alike (Some m) = either_of (eqb m.kind 0x102) (eqb m.kind 0x106)
