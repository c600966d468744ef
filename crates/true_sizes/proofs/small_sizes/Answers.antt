-- `true_sizes::small_sizes` meets its contract by those of its calls. Assumes nothing.
use Rattle.true_sizes.specs.Sizes.{entry_count}
use Rattle.true_sizes.proofs.Lent.{small_cut}
use Rattle.true_sizes.proofs.small_sizes.Goals as goal

pub returns : goal.returns
returns c =
    let b = c.args.opening.now in
    rw (
      c.both.ensures,
      c.all_small.ensures,
      c.looked_at.ensures.value,
      small_cut b (entry_count b),
      c.low_first.ensures,
    )
