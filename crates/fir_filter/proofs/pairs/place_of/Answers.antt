-- `fir_filter::pairs::place_of` meets its contract: before the head, or behind it from the end. Assumes nothing.
use mathlib.Core.Path.{◌≡◌, sym, ap, ◌∙◌}
use Prim.Native.Nat.{ℕ, ◌+◌, ◌-◌, ◌%◌, ◌<◌}
use native.Mathlib.Nat.{mod-eq_of_lt}
use native.Mathlib.Omega.{arith}
use Rattle.fir_filter.proofs.Places.{first_run}
use Rattle.fir_filter.proofs.pairs.place_of.Goals as goal

behind : (head lag len : ℕ) → lag < len → head < lag → head + (len - lag) ≡ (head + len - lag) % len
behind head lag len l h =
    let e : head + len - lag ≡ head + (len - lag) = omega arith in
    sym (ap (λ (n : ℕ). n % len) e ∙ mod-eq_of_lt (omega arith))

pub returns-then-lag-head : goal.returns-then-lag-head
returns-then-lag-head c =
    sym (first_run c.args.head c.args.len c.args.lag c.requires.0 c.if-lag-head.true)

pub returns-else-lag-head : goal.returns-else-lag-head
returns-else-lag-head c =
    behind c.args.head c.args.lag c.args.len c.requires.1 c.if-lag-head.false
