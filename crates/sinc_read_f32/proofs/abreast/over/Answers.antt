-- `sinc_read_f32::abreast::over` meets its contract: the rows of both tables are longer than the samples.
-- Assumes nothing.
use mathlib.Core.Path.{◌∙◌}
use Rattle.sinc_read_f32.proofs.Chains.{one-chain}
use Rattle.sinc_read_f32.proofs.abreast.over.Goals as goal

pub returns : goal.returns
returns c =
    let a = c.args in record {
      a_value = c.chains.ensures.a_value
          ∙ one-chain a.samples.now a.one.now a.row a.next a.blend a.a c.requires.0 c.requires.1;
      b_value = c.chains.ensures.b_value
          ∙ one-chain a.samples.now a.two.now a.row a.next a.blend a.b c.requires.2 c.requires.3;
    }
