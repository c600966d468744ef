-- `sinc_read_f32::sums::over` meets its contract: the rows are longer than the samples. Assumes nothing.
use mathlib.Core.Path.{◌∙◌}
use Rattle.sinc_read_f32.proofs.Chains.{one-chain}
use Rattle.sinc_read_f32.proofs.sums.over.Goals as goal

pub returns : goal.returns
returns c =
    let a = c.args in
    c.chain.ensures
    ∙ one-chain a.samples.now a.table.now a.row a.next a.blend a.sum c.requires.0 c.requires.1
