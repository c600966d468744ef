-- `aiff_samples::filling::fill` meets its contract: each sample is what its number means. Assumes nothing.
use Prim.Native.Nat.{ℕ, ◌*◌}
use lib.Ieee.{binary64}
use Rattle.sample_kind.specs.declared.SampleKind.{SampleKind}
use Rattle.sample_kind.specs.Kinds.{width_of}
use Rattle.whole_samples.specs.Whole.{whole_of}
use Rattle.aiff_samples.proofs.filling.fill.Goals as goal

pub returns-clause-out_after : goal.returns-clause-out_after
returns-clause-out_after c =
    c.fill_by.ensures.out_after (λ (kind : SampleKind) (n : ℕ). whole_of binary64 (width_of kind * 8) n) (λ n x l p. p)
    (λ n x l p. p)
