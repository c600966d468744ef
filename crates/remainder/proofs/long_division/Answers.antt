-- `remainder::long_division` meets its contract: before each turn r is the remainder of m followed by the zeros that
-- have been brought down. Assumes nothing.
use Rattle.std.proofs.Common.{◌≡◌, ℕ, ◌+◌, ◌*◌, ◌%◌, ◌^◌, sym, ap, ◌∙◌, mod-lt, mul_assoc, mul-one, arith, pow-add}
use Rattle.remainder.proofs.Division.{step-mod}
use Rattle.remainder.proofs.long_division.Goals as goal

-- One zero more.
onward : (m n i : ℕ) → m * 2 ^ i % n * 2 % n ≡ m * 2 ^ (i + 1) % n
onward m n i =
    step-mod (m * 2 ^ i) 2 n
    ∙ ap (λ (z : ℕ). z % n) (mul_assoc m (2 ^ i) 2 ∙ ap (λ (z : ℕ). m * z) (sym (pow-add 2 i 1)))

pub loop-init : goal.loop-init
loop-init c = ap (λ (z : ℕ). z % c.args.n) (sym (mul-one c.args.m))

pub overflow_mul-r : goal.overflow_mul-r
overflow_mul-r c = omega (arith, mod-lt (c.args.m * 2 ^ c.loop.counter) c.requires.fact_1)

pub loop-preserved : goal.loop-preserved
loop-preserved c = rw c.loop.invariant (onward c.args.m c.args.n c.loop.counter)
