-- `wav_store::looking::cut` meets its contract, by the laws of `Sight` about one sample. Assumes nothing.
use denote.Floats.{passes}
use lib.Ieee.{binary64, fits}
use Rattle.wav_store.proofs.Sight.{cut-no-nan, cut-tells}
use Rattle.wav_store.proofs.looking.cut.Goals as goal

pub float_to_bits-result : goal.float_to_bits-result
float_to_bits-result c = rw c.below_two.ensures (cut-no-nan c.args.x)

pub returns : goal.returns
returns c =
    let x = c.args.x in
    rw c.below_two.ensures (cut-tells x (passes (fits binary64 x) c.well_formed.0.1))
