-- `near_fused::high` meets its contract. Assumes nothing.
use mathlib.Core.Path.{sym, ap, subst}
use lib.Dec.{T}
use lib.Ieee.{binary64, fits, of_bits}
use Rattle.near_fused.proofs.Tests.{cut_word, cut-no-nan}
use Rattle.near_fused.proofs.high.Goals as goal

held : (c : goal.Start) → T (fits binary64 c.args.x)
held c = subst T (sym c.well_formed.0.1) tt

pub float_from_bits-result : goal.float_from_bits-result
float_from_bits-result c = cut-no-nan c.args.x (held c) c.requires

pub returns : goal.returns
returns c = ap (of_bits binary64) (cut_word c.args.x (held c) c.requires)
