-- `near_fused::size` meets its contract. Assumes nothing.
use mathlib.Core.Path.{sym, ap, subst}
use lib.Bits.{and_mask}
use lib.Dec.{T}
use lib.Ieee.{binary64, fits, of_bits, to_bits}
use Rattle.near_fused.proofs.Tests.{size-no-nan}
use Rattle.near_fused.proofs.size.Goals as goal

held : (c : goal.Start) → T (fits binary64 c.args.x)
held c = subst T (sym c.well_formed.0.1) tt

pub float_from_bits-result : goal.float_from_bits-result
float_from_bits-result c = rw (and_mask (to_bits binary64 c.args.x) 63) (size-no-nan c.args.x (held c) c.requires)

pub returns : goal.returns
returns c = ap (of_bits binary64) (and_mask (to_bits binary64 c.args.x) 63)
