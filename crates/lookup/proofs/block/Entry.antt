-- One entry of a list: what `entry_ok` says of its bytes.
-- Assumes nothing.
use Rattle.std.proofs.Common.{◌≡◌, ℕ, ◌+◌, ◌-◌, ◌≤◌, Bool, true, false, ltb, List, length, Some, None, refl, arith}
use borrow.Author.Tests.{ltb-false}
use Rattle.area.specs.Pick.{pick}
use Rattle.area.proofs.Pick.{no_yes, yes_no}
use Rattle.text.specs.Unicode.{well_formed}
use Rattle.keys.specs.Key.{key_ok}
use Rattle.lookup.specs.Sizes.{ENTRY_HEAD}
use Rattle.lookup.specs.Maps.{len_ok}
use Rattle.lookup.specs.Block.{key_of, number_of, aux_of, len_of, val_of, entry_text, entry_ok}

-- An entry that is there.
pub record There (p : ℕ → Bool) (lo : ℕ) (l : List ℕ) : Type 0 where
  pub room : ENTRY_HEAD + len_of l ≤ length l
  pub least : ltb (key_of l) lo ≡ false
  pub key : p (key_of l) ≡ true
  pub fields : key_ok (number_of l) (aux_of l) (val_of l) ≡ true
  pub len : len_ok (number_of l) (len_of l) ≡ true
  pub text : well_formed (entry_text l) ≡ true

pub there : (p : ℕ → Bool) (lo : ℕ) (l : List ℕ) → entry_ok p lo l ≡ true → There p lo l
unfolding entry_ok
there p lo l e =
    let a = no_yes (ltb (length l) ENTRY_HEAD) _ e in
    let b = no_yes (ltb (key_of l) lo) _ a.1 in
    let c = yes_no (p (key_of l)) _ b.1 in
    let d = yes_no (key_ok (number_of l) (aux_of l) (val_of l)) _ c.1 in
    let f = yes_no (len_ok (number_of l) (len_of l)) _ d.1 in
    let g = no_yes (ltb (length l - ENTRY_HEAD) (len_of l)) _ f.1 in
    let h = ltb-false (length l) ENTRY_HEAD a.0 in
    let k = ltb-false (length l - ENTRY_HEAD) (len_of l) g.0 in
    record { room = omega arith; least = b.0; key = c.0; fields = d.0; len = f.0; text = g.1 }

-- what was found, told apart by whether it is there
module _ {A : Type 0} (b : Bool) (x : A) where
  pub found : {r : A} → Some r ≡ pick b (Some x) None → (b ≡ true) × (r ≡ x)
  found e = go b e
    where
      go : (b : Bool) {r : A} → Some r ≡ pick b (Some x) None → (b ≡ true) × (r ≡ x)
      go true e = (refl, cc)
      go false e = absurd (cc)

  pub not_found : None ≡ pick b (Some x) None → b ≡ false
  not_found e = go b e
    where
      go : (b : Bool) → None ≡ pick b (Some x) None → b ≡ false
      go true e = absurd (cc)
      go false e = refl
