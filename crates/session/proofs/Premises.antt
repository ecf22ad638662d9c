-- Demand 3's premises on ranges exclude nothing that a call can bring: of a `&[u8]` the language knows that each place is below 256.
-- Assumes nothing.
use mathlib.Core.List.{List, [], ◌∷◌}
use Prim.Native.Nat.{ℕ, ◌<◌}
use lib.ListN.{get_or}
use Rattle.area.proofs.Bytes.{each-byte}
use Rattle.session.specs.Given.{inputs_of}
use Rattle.session.specs.Run.{Call, Closing, CallsInRange, ClosingsInRange}
use Rattle.session.proofs.Lists.{All}

-- what a `&[u8]` holds, as the proofs of the code have it
abbrev pub Lent : List ℕ → Type 0
Lent l = (i : ℕ) → get_or l i 0 < 256

pub calls_in_range : (cs : List Call) → All (λ (c : Call). Lent (inputs_of c.given).block) cs → CallsInRange cs
calls_in_range [] h = tt
calls_in_range (c ∷ cs) h = (each-byte (inputs_of c.given).block h.0, calls_in_range cs h.1)

pub closings_in_range : (ks : List Closing) → All (λ (k : Closing). Lent k.inputs.block) ks → ClosingsInRange ks
closings_in_range [] h = tt
closings_in_range (k ∷ ks) h = (each-byte k.inputs.block h.0, closings_in_range ks h.1)
