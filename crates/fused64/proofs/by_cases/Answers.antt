-- `fused64::by_cases` meets its contract, case by case. Assumes nothing.
use Rattle.std.proofs.Common.{◌≡◌, true, false, ◌&&◌, T, sym, ◌∙◌}
use lib.Ieee.Bits.{is_true}
use lib.Ieee.Fits.{and_l, and_r}
use Rattle.float_digits.specs.Pattern.{plain}
use Rattle.fused64.proofs.SpecialCases.{factor-not-plain, addend-not-plain}
use Rattle.fused64.proofs.by_cases.Goals as goal
use Rattle.fused64.proofs.by_cases.Goals.{Else-is_plain, Then-both_plain}

both : (c : Then-both_plain) → (plain c.args.a && plain c.args.b) ≡ true
both c = sym c.both_plain.ensures ∙ c.if-both_plain.true

neither : (c : Else-is_plain) → plain c.args.c ≡ false
neither c = sym c.is_plain.ensures ∙ c.if-is_plain.false

pub fused_plain-requires : goal.fused_plain-requires
fused_plain-requires c =
    let a = c.args in
    let t : T (plain a.a && plain a.b) = rw (both (goal.at.fused_plain-requires c).Then-both_plain) tt in
    record {
      fact_1 = is_true (plain a.a) (and_l (plain a.a) (plain a.b) t);
      fact_2 =
          is_true (plain a.b) (and_r (plain a.a) (plain a.b) t);
      fact_3 = sym c.is_plain.ensures ∙ c.if-is_plain.true;
    }

pub returns-then-c : goal.returns-then-c
returns-then-c c =
    let a = c.args in
    (addend-not-plain a.a a.b a.c (both (goal.at.returns-then-c c).Then-both_plain)
    (neither (goal.at.returns-then-c c).Else-is_plain)).0 c.if-c.true

pub returns-then-both_plain : goal.returns-then-both_plain
returns-then-both_plain c =
    let a = c.args in
    c.one_nan.ensures
    ∙ (addend-not-plain a.a a.b a.c (both (goal.at.returns-then-both_plain c).Then-both_plain)
    (neither (goal.at.returns-then-both_plain c).Else-is_plain)).1
    c.if-c.false

pub returns : goal.returns
returns c =
    let a = c.args in
    c.one_nan-2.ensures ∙ factor-not-plain a.a a.b a.c (sym c.both_plain.ensures ∙ c.if-both_plain.false)
