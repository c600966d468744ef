-- `wav_samples::floats::block_of_two` meets its contract, whether or not all are known to be numbers. Assumes nothing.
use mathlib.Core.Path.{sym, ap, ◌∙◌, subst}
use Prim.Native.Nat.{ℕ}
use lib.Dec.{lit≤}
use lib.ListN.{length}
use Rattle.loop_laws.proofs.Lists.{length-list}
use Rattle.wav_samples.specs.Frames.{Inside, patterns}
use Rattle.wav_samples.proofs.Blocks.{kept-numbers, kept-samples}
use Rattle.wav_samples.proofs.floats.block_of_two.Goals as goal
use Rattle.wav_samples.proofs.floats.block_of_two.Goals.{Start}

inside : (c : Start) → Inside (length c.args.part.now) 49 8 c.args.first
inside c = subst (λ (n : ℕ). Inside (length c.args.part.now) n 8 c.args.first) c.requires.1 c.requires.0

pub gathered-requires : goal.gathered-requires
gathered-requires c = inside (goal.at.gathered-requires c).Start

pub numbers-requires : goal.numbers-requires
numbers-requires c =
    (inside (goal.at.numbers-requires c).Start, lit≤ tt, c.gathered.ensures.none_above)

pub handed-requires : goal.handed-requires
handed-requires c =
    let p = patterns c.args.part.now 8 c.args.first in
    let e = c.gathered.ensures.kept_after in (
      ap length e ∙ length-list p 49 ∙ sym c.requires.1,
      rw c.requires.1
          (kept-numbers p 49 _ e 0x7f80_0000 (c.numbers.ensures c.if-numbers.true)),
    )

pub returns-then-numbers : goal.returns-then-numbers
returns-then-numbers c =
    let p = patterns c.args.part.now 8 c.args.first in
    c.handed.ensures ∙ rw c.requires.1 (kept-samples p 49 _ c.gathered.ensures.kept_after)
