-- `fused32::positive_sum` meets its contract: the larger part goes first. Assumes nothing.
use Rattle.std.proofs.Common.{T, sym, ap, ◌∙◌, subst}
use lib.Ieee.{Float, binary32, binary64, add, lt, of_bits}
use lib.Ieee.Scale.{finite}
use Rattle.fused32.specs.Parts.{Above}
use Rattle.fused32.proofs.LargerPart.{first-larger, second-larger, swapped}
use Rattle.fused32.proofs.positive_sum.Goals as goal

bounded : {p c s : Float} → Above p c s → T (finite (add binary64 p c))
bounded h = subst (λ (z : Float). T (finite z)) h.sum.is h.sum.bounded

pub odd_sum-requires : goal.odd_sum-requires
odd_sum-requires c =
    let h = c.requires in record {
      fact_1 = second-larger c.args.p c.args.c h.first h.second (bounded h)
          (ap (lt (of_bits binary64 0)) (sym h.sum.is) ∙ h.above) c.if-p-c.true;
      fact_2 = record {
        is = h.sum.is ∙ swapped c.args.p c.args.c h.first h.second binary64;
        bounded = h.sum.bounded;
      };
    }

pub returns-then-p-c : goal.returns-then-p-c
returns-then-p-c c =
    c.odd_sum.ensures ∙ sym (swapped c.args.p c.args.c c.requires.first c.requires.second binary32)

pub odd_sum-requires-2 : goal.odd_sum-requires-2
odd_sum-requires-2 c =
    let h = c.requires in record {
      fact_1 = first-larger c.args.p c.args.c h.first h.second (bounded h)
          (ap (lt (of_bits binary64 0)) (sym h.sum.is) ∙ h.above) c.if-p-c.false;
      fact_2 = h.sum;
    }
