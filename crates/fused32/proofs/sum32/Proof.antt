-- `fused32::sum32` meets its contract. A sum that is not clear is finite, and so are its parts. Assumes nothing.
use Rattle.std.proofs.Common.{T, sym, refl, ap, ◌∙◌, subst, rules}
use lib.Ieee.{binary32, binary64, fits, neg, add}
use lib.Ieee.Scale.{finite}
use Rattle.rounding.proofs.SumSymmetry.{neg-neg}
use Rattle.fused32.specs.Parts.{Short}
use Rattle.fused32.proofs.SumCases.{both, clear-code}
use Rattle.fused32.proofs.LargerPart.{short-neg, negatives, negative-bounded, negative-above}
use Rattle.fused32.proofs.Parts.{short}
use Rattle.fused32.proofs.Sums.{sum-under, zero-sum}
use Rattle.fused32.proofs.sum32.Statement.{statement}
use Rattle.fused32.proofs.sum32.Tie as tie

held-p : (c : tie.Start) → T (fits binary64 c.args.p)
held-p c = subst T (sym c.well_formed.0.1) tt

held-c : (c : tie.Start) → T (fits binary64 c.args.c)
held-c c = subst T (sym c.well_formed.1.0.1) tt

-- The sum and its parts, once it is known that the sum is not clear.
bounded : (c : tie.Else-is_clear) → T (finite (add binary64 c.before.before.args.p c.before.before.args.c))
bounded c = c.before.is_clear.ensures.plain c.if-is_clear.false

abbrev first : (c : tie.Else-is_clear) → Short c.before.before.args.p
first c =
    let a = c.before.before in
    short a.args.p (held-p a) (both a.args.p a.args.c (bounded c)).0

abbrev second : (c : tie.Else-is_clear) → Short c.before.before.args.c
second c =
    let a = c.before.before in
    short a.args.c (held-c a) (both a.args.p a.args.c (bounded c)).1

returns : tie.Need-returns-then-is_clear
returns c =
    let a = c.before.before.before in
    c.narrow.ensures
    ∙ clear-code a.args.p a.args.c (held-p a) (held-c a)
    (c.before.before.is_clear.ensures.clear c.before.if-is_clear.true)

positive-sum-requires : tie.Need-positive_sum-requires
positive-sum-requires c κs =
    record {
      first = first c.before;
      second = second c.before;
      sum = record { is = refl; bounded = bounded c.before };
      above = c.if-s.true;
    }

positive-sum-requires-2 : tie.Need-positive_sum-requires-then-s-2
positive-sum-requires-2 c κs =
    let e = c.before.before in
    let a = e.before.before in
    record {
      first = short-neg (first e);
      second = short-neg (second e);
      sum = record {
        is = sym (negatives a.args.p a.args.c (first e) (second e) (bounded e) c.if-s-2.true binary64);
        bounded = negative-bounded a.args.p a.args.c (first e) (second e) (bounded e);
      };
      above = negative-above a.args.p a.args.c (first e) (second e) (bounded e) c.if-s-2.true;
    }

returns-3 : tie.Need-returns-then-s-2
returns-3 c =
    let e = c.before.before.before in
    let a = e.before.before in
    ap neg (c.positive_sum-then-s-2.ensures
    ∙ negatives a.args.p a.args.c (first e) (second e) (bounded e) c.before.if-s-2.true binary32)
    ∙ neg-neg (add binary32 a.args.p a.args.c)

returns-4 : tie.Need-returns
returns-4 c =
    let e = c.before.before.before in
    let a = e.before.before in
    c.narrow-2.ensures
    ∙ zero-sum a.args.p a.args.c (first e) (second e)
    (sum-under a.args.p a.args.c (first e) (second e) (bounded e)) c.before.before.if-s.false
    c.before.if-s-2.false

pub sum32_spec : {M : Type 1} → statement M
sum32_spec =
    tie.close (tie.spec (λ c κs. search rules) (λ c κs. search rules) returns positive-sum-requires (λ c. search rules)
    positive-sum-requires-2 returns-3 (λ c κs. search rules) returns-4)
