-- `wav_store::looking::all_pass` meets its contract: the fold tests each element. Assumes nothing.
use mathlib.Core.Path.{◌∙◌}
use mathlib.Core.Bool.{true, ◌&&◌}
use Rattle.std.proofs.Common.{rules}
use Rattle.std.proofs.lemmas.Iterator.{YieldsList-from_slice}
use Rattle.std.proofs.lemmas.Iterator.Consumers.{fold_from_yields_List}
use Rattle.wav_store.proofs.Looked.{all-folded}
use Rattle.wav_store.proofs.looking.all_pass.Goals as goal

pub returns : goal.returns
returns g c test h =
    let xs = c.args.samples.now in
    fold_from_yields_List _ (λ t x. t && test x) true _ c.fold.ensures.ran (YieldsList-from_slice xs cc)
    (λ a x b q k. search rules)
    ∙ all-folded test xs
