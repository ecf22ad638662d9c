-- The pass forward finds the breaks of the rules.
-- Assumes nothing.
use mathlib.Core.Path.{◌≡◌, refl, ap, ◌∙◌}
use mathlib.Core.Bool.{Bool, true, false, not, ◌&&◌, ◌||◌}
use mathlib.Core.List.{List, [], ◌∷◌}
use Prim.Native.Nat.{ℕ, suc, ◌+◌, ◌%◌}
use native.Mathlib.Nat.{zero-add}
use native.Mathlib.Omega.{arith}
use lib.Dec.{eqb, ltb}
use borrow.Author.Tests.{eqb-true, eqb-false, eq-eqb, ne_eqb, lt-ltb, le-ltb, ltb-true, ltb-false}
use Rattle.area.specs.Pick.{pick}
use Rattle.segmentation.specs.declared.Props.{Props}
use Rattle.segmentation.specs.declared.grapheme.Behind.{Behind}
use Rattle.segmentation.specs.Classes.{Other, RI}
use Rattle.segmentation.specs.Rules.{gb3, gb4, gb5, gb6, gb7, gb8, gb9, gb9a, gb9b, gb11, gb12_13, pictograph, joiner, indicators, break_at, one, breaks_after, pieces}
use Rattle.segmentation.specs.Forward.{break_by, start, next_of, breaks_in}

-- ---- the state behind the scalar values of left, the nearest first
last_of : List Props → ℕ
last_of [] = Other
last_of (p ∷ left) = p.class

behind : List Props → Behind
behind left =
    record {
      last = last_of left;
      odd = eqb (indicators left % 2) 1;
      pictograph = pictograph left;
      joiner = joiner left;
    }

-- one more turns odd and even round
turned : (n : ℕ) → eqb (suc n % 2) 1 ≡ not (eqb (n % 2) 1)
turned n = go (eqb (n % 2) 1) refl
  where
    go : (t : Bool) → eqb (n % 2) 1 ≡ t → eqb (suc n % 2) 1 ≡ not t
    go true e = let h = eqb-true (n % 2) 1 e in ne_eqb (suc n % 2) 1 (λ k. omega arith)
    go false e = let h = eqb-false (n % 2) 1 e in eq-eqb (suc n % 2) 1 (omega arith)

odd-next :
    (p : Props) (left : List Props) →
    eqb (indicators (p ∷ left) % 2) 1 ≡ (eqb p.class RI && not (eqb (indicators left % 2) 1))
unfolding indicators
odd-next p left = go (eqb p.class RI)
  where
    go : (t : Bool) → eqb (pick t (suc (indicators left)) 0 % 2) 1 ≡ (t && not (eqb (indicators left % 2) 1))
    go true = turned (indicators left)
    go false = refl

behind-start : behind [] ≡ start
unfolding behind last_of indicators pictograph joiner
behind-start = refl

behind-next : (p : Props) (left : List Props) → behind (p ∷ left) ≡ next_of (behind left) p
unfolding behind last_of pictograph joiner
behind-next p left = rw (odd-next p left)

-- ---- the ladder of rules as one sum of bits
ladder :
    (a b c d e f g h i j k : Bool) →
    pick a false
    (pick b true (pick c true (pick d false (pick e false (pick f false (pick g false (pick h false (pick i false (pick j false (pick k false true))))))))))
    ≡ (not a && ((b || c) || not ((d || (e || f)) || ((g || (h || i)) || (j || k)))))
ladder true b c d e f g h i j k = refl
ladder false true c d e f g h i j k = refl
ladder false false true d e f g h i j k = refl
ladder false false false true e f g h i j k = refl
ladder false false false false true f g h i j k = refl
ladder false false false false false true g h i j k = refl
ladder false false false false false false true h i j k = refl
ladder false false false false false false false true i j k = refl
ladder false false false false false false false false true j k = refl
ladder false false false false false false false false false true k = refl
ladder false false false false false false false false false false true = refl
ladder false false false false false false false false false false false = refl

break-by : (a : Props) (left : List Props) (b : Props) → break_at a left b ≡ break_by (behind (a ∷ left)) b
unfolding break_at behind last_of
break-by a left b =
    ladder
    (gb3 a.class b.class)
    (gb4 a.class)
    (gb5 b.class)
    (gb6 a.class b.class)
    (gb7 a.class b.class)
    (gb8 a.class b.class)
    (gb9 b.class)
    (gb9a b.class)
    (gb9b a.class)
    (gb11 (a ∷ left) b)
    (gb12_13 (a ∷ left) b)

-- ---- some break, and none
some_break : (t : Bool) (n : ℕ) (r : Bool) → ltb 0 n ≡ r → ltb 0 (one t + n) ≡ (t || r)
some_break true n r e = lt-ltb 0 (1 + n) (omega arith)
some_break false n r e = rw (zero-add n) e

after-by : (a : Props) (left bs : List Props) → ltb 0 (breaks_after a left bs) ≡ breaks_in (behind (a ∷ left)) bs
unfolding breaks_after breaks_in
after-by a left [] = refl
after-by a left (b ∷ bs) =
    some_break (break_at a left b) (breaks_after b (a ∷ left) bs) (breaks_in (behind (b ∷ (a ∷ left))) bs)
    (after-by b (a ∷ left) bs)
    ∙ rw (break-by a left b, behind-next b (a ∷ left))

one_more : (n : ℕ) → ltb 1 (1 + n) ≡ ltb 0 n
one_more n = go (ltb 0 n) refl
  where
    go : (t : Bool) → ltb 0 n ≡ t → ltb 1 (1 + n) ≡ t
    go true e = lt-ltb 1 (1 + n) (omega (arith, ltb-true 0 n e))
    go false e = le-ltb 1 (1 + n) (omega (arith, ltb-false 0 n e))

-- several pieces are some break behind the first scalar value
pub several_by : (p : Props) (ps : List Props) → ltb 1 (pieces (p ∷ ps)) ≡ breaks_in (next_of start p) ps
unfolding pieces
several_by p ps =
    one_more (breaks_after p [] ps)
    ∙ after-by p [] ps
    ∙ ap (λ (s : Behind). breaks_in s ps) (behind-next p [] ∙ ap (λ (s : Behind). next_of s p) behind-start)
