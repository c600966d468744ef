use Rattle.std.proofs.Common.{◌≡◌, ℕ, ◌<◌, true}
use Rattle.bank_choice.specs.Choosing.{slower_of}
use Rattle.bank_choice.proofs.search.up.Given as goal

abbrev pub invariant-loop-e : goal.invariant-loop-e
invariant-loop-e l = (j : ℕ) → j < l.e → slower_of l.max_rate l.steps l.r j ≡ true
