-- `wav_store::whole` meets its contract: a remainder and a quotient show what the product would. Assumes nothing.
use mathlib.Core.Path.{◌∙◌}
use Rattle.wav_store.proofs.Stores.{some_bytes, counted}
use Rattle.wav_store.proofs.whole.Goals as goal

pub nonzero_rem-size : goal.nonzero_rem-size
nonzero_rem-size c = rw c.width-wide.ensures (some_bytes c.args.kind)

pub nonzero_div-size : goal.nonzero_div-size
nonzero_div-size c = rw c.width-wide.ensures (some_bytes c.args.kind)

pub returns : goal.returns
returns c =
    let a = c.args in
    rw c.width-wide.ensures at c.both.ensures ∙ counted a.size a.count _ (some_bytes a.kind)
