-- `narrowing::narrow` meets its contract: `magnitude` rounds, and the sign is put in front again. Assumes nothing.
use mathlib.Core.Path.{sym, subst}
use lib.Dec.{T}
use lib.Ieee.{binary64, fits}
use Rattle.rounding.proofs.Comparing.{differs-no-nan}
use Rattle.narrowing.proofs.SignBit.{of_nan, size_of, joined-lt, joined-no-nan, joined-reads}
use borrow.Author.Rules.{rules}
use Rattle.narrowing.proofs.narrow.Statement.{statement}
use Rattle.narrowing.proofs.narrow.Tie as tie

held : (c : tie.Start) → T (fits binary64 c.args.x)
held c = subst T (sym c.well_formed.0.1) tt

returns : tie.Need-returns-then-x
returns c = of_nan c.before.args.x c.if-x.true

float-to-bits-n : tie.Need-float_to_bits-n
float-to-bits-n c = differs-no-nan c.before.args.x c.if-x.false

magnitude-requires : tie.Need-magnitude-r-requires
magnitude-requires c κs = size_of c.before.args.x (held c.before) c.if-x.false

cast-result : tie.Need-overflow_cast-result
cast-result c =
    record {
      fits =
          joined-lt c.before.before.args.x (held c.before.before) c.magnitude-r.result
          c.magnitude-r.ensures;
    }

float-from-bits-result : tie.Need-float_from_bits-result
float-from-bits-result c =
    joined-no-nan c.before.before.args.x (held c.before.before) c.magnitude-r.result c.magnitude-r.ensures

returns-2 : tie.Need-returns
returns-2 c =
    joined-reads c.before.before.args.x (held c.before.before) c.magnitude-r.result c.magnitude-r.ensures

pub narrow_spec : {M : Type 1} → statement M
narrow_spec =
    tie.close (tie.spec returns float-to-bits-n magnitude-requires (λ c. search rules) cast-result
    float-from-bits-result returns-2)
