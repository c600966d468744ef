-- `fused64::fused_plain` meets its contract: the digits of three values, and the sum of the two terms made of them.
-- Assumes nothing.
use Rattle.std.proofs.Common.{◌≡◌, true, ◌∙◌, arith}
use lib.Ieee.{Float, binary64, fits, to_bits}
use Rattle.float_digits.specs.declared.Scaled.{Scaled}
use Rattle.float_digits.specs.Pattern.{plain, unpacked}
use Rattle.float_digits.proofs.PlainValues.{plain-no-nan}
use Rattle.float_digits.proofs.UnpackMeaning.{Scaling, scaling}
use Rattle.fused64.specs.Wide.{val}
use Rattle.fused64.proofs.Terms.{product-ranged, addend-ranged, terms-sum}
use Rattle.fused64.proofs.fused_plain.Goals as goal
use Rattle.fused64.proofs.fused_plain.Goals.{After-unpack-x, After-unpack-y, After-unpack-z}

taken : (x : Float) (r : Scaled) → fits binary64 x ≡ true → plain x ≡ true → r ≡ unpacked (to_bits binary64 x)
    → Scaling x r
taken x r held p e = rw e (scaling x (rw held tt) (rw p tt))

first : (c : After-unpack-x) → Scaling c.args.a c.unpack-x.result
first c =
    taken c.args.a c.unpack-x.result c.well_formed.0.1 c.requires.fact_1 c.unpack-x.ensures

second : (c : After-unpack-y) → Scaling c.args.b c.unpack-y.result
second c =
    taken c.args.b c.unpack-y.result c.well_formed.1.0.1
    c.requires.fact_2 c.unpack-y.ensures

third : (c : After-unpack-z) → Scaling c.args.c c.unpack-z.result
third c =
    taken c.args.c c.unpack-z.result c.well_formed.1.1.0.1
    c.requires.fact_3 c.unpack-z.ensures

pub float_to_bits-a : goal.float_to_bits-a
float_to_bits-a c = plain-no-nan c.args.a (rw c.requires.fact_1 tt)

pub float_to_bits-b : goal.float_to_bits-b
float_to_bits-b c = plain-no-nan c.args.b (rw c.requires.fact_2 tt)

pub float_to_bits-c : goal.float_to_bits-c
float_to_bits-c c = plain-no-nan c.args.c (rw c.requires.fact_3 tt)

pub product-m-requires : goal.product-m-requires
product-m-requires c = record {
  fact_1 = (first (goal.at.product-m-requires c).After-unpack-x).below;
  fact_2 =
      (second (goal.at.product-m-requires c).After-unpack-y).below;
}

pub differ-requires : goal.differ-requires
differ-requires c = record {
  fact_1 = (first (goal.at.differ-requires c).After-unpack-x).sign;
  fact_2 =
      (second (goal.at.differ-requires c).After-unpack-y).sign;
}

pub overflow_add-p : goal.overflow_add-p
overflow_add-p c =
    omega (
      arith,
      (first (goal.at.overflow_add-p c).After-unpack-x).bounded,
      (second (goal.at.overflow_add-p c).After-unpack-y).bounded,
    )

pub overflow_add-q : goal.overflow_add-q
overflow_add-q c = omega (arith, (third (goal.at.overflow_add-q c).After-unpack-z).bounded)

pub combined-requires : goal.combined-requires
combined-requires c =
    let a = c.args in record {
      fact_1 = product-ranged a.a a.b c.unpack-x.result c.unpack-y.result c.differ.result c.product-m.result.hi
          c.product-m.result.lo (first (goal.at.combined-requires c).After-unpack-x)
          (second (goal.at.combined-requires c).After-unpack-y) c.differ.ensures.0 c.product-m.ensures;
      fact_2 = addend-ranged a.c c.unpack-z.result (third (goal.at.combined-requires c).After-unpack-z);
    }

pub returns : goal.returns
returns c =
    let a = c.args in
    c.combined.ensures
    ∙ terms-sum a.a a.b a.c c.unpack-x.result c.unpack-y.result c.unpack-z.result
    c.differ.result (val c.product-m.result.hi c.product-m.result.lo) (first (goal.at.returns c).After-unpack-x)
    (second (goal.at.returns c).After-unpack-y) (third (goal.at.returns c).After-unpack-z)
    c.differ.ensures.1 c.product-m.ensures
