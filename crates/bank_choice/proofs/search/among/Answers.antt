-- `bank_choice::search::among` meets its contract: wherever the guess lies, going down and up again ends at the first
-- set that is not slower; and if the first set is not slower, that is 0. Assumes nothing.
use Rattle.std.proofs.Common.{sym, ◌∙◌, arith}
use Rattle.bank_choice.specs.Choosing.{slower_of}
use Rattle.bank_choice.proofs.SetCounts.{least}
use Rattle.bank_choice.proofs.Partition.{found}
use Rattle.bank_choice.proofs.search.among.Goals as goal

pub slower-requires : goal.slower-requires
slower-requires c = omega (arith, least c.args.max_rate)

pub guess-requires : goal.guess-requires
guess-requires c = omega (arith, least c.args.max_rate)

pub returns-else-slower : goal.returns-else-slower
returns-else-slower c =
    let a = c.args in
    found (slower_of a.max_rate a.steps a.r) a.steps 0 (omega arith) (λ j h. absurd (omega arith))
    (λ h. sym c.slower.ensures ∙ c.if-slower.false)
