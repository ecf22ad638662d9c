-- The text that a key of a layout gives is within its field.
-- Assumes nothing.
use Rattle.std.specs.Prelude.{Option, Some, None}
use mathlib.Core.Path.{◌≡◌}
use mathlib.Core.Bool.{true, and-eq-true_iff}
use mathlib.Core.List.{List}
use Prim.Native.Nat.{ℕ, ◌≤◌, zero-le}
use lib.Dec.{ltb, leb}
use lib.ListN.{length}
use borrow.Author.Tests.{leb-true}
use Rattle.keys.specs.Text.{FullKey, to_text}
use Rattle.session.specs.Area.{bytes_of}
use Rattle.session.specs.Limits.{TEXT_MOST}
use Rattle.session.specs.Session.{opt_text_fits, text_fits}
use Rattle.session.proofs.Ranges.{KeyFits, to_text_fits}

-- a text that fits its field, or none
pub opt_within : (o : Option (List ℕ)) → opt_text_fits o ≡ true → length (bytes_of o) ≤ TEXT_MOST
unfolding opt_text_fits text_fits
opt_within None h = zero-le
opt_within (Some t) h =
    let a = (and-eq-true_iff (ltb 0 (length t)) _).0 h in
    leb-true (length t) TEXT_MOST ((and-eq-true_iff (leb (length t) TEXT_MOST) _).0 a.1).0

pub text-within : (k : FullKey) → KeyFits k → length (bytes_of (to_text k)) ≤ TEXT_MOST
text-within k h = opt_within (to_text k) (to_text_fits k h)
