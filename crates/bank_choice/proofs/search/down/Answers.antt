-- `bank_choice::search::down` meets its contract: if a set is slower, so is every set before it, by `RatesGrow`.
-- Assumes nothing.
use Rattle.std.proofs.Common.{◌≡◌, ℕ, ◌+◌, ◌-◌, ◌<◌, true, sym, ◌∙◌, arith}
use lib.Ieee.{Float}
use Rattle.bank_choice.specs.Rates.{bank_ok, steps_of}
use Rattle.bank_choice.specs.Choosing.{slower_of}
use Rattle.bank_choice.proofs.RatesGrow.{slower-before}
use Rattle.bank_choice.proofs.search.down.Goals as goal

-- Set e is slower.
stops : (top : Float) (steps : ℕ) (r : Float) (e : ℕ) → bank_ok top ≡ true → steps ≡ steps_of top → e < steps
    → slower_of top steps r e ≡ true → (j : ℕ) → j < e + 1 → slower_of top steps r j ≡ true
stops top steps r e ok n l s j h = rw n (slower-before top ok r j e (omega arith) (omega arith) (rw n at s))

pub returns-then-slower : goal.returns-then-slower
returns-then-slower c = (
  omega arith,
  stops c.args.max_rate c.args.steps c.args.r (c.loop-e.e - 1) c.requires.0 c.requires.1 (omega arith)
      (sym c.slower.ensures ∙ c.if-slower.true),
)
