-- `bank_read::lent::set_at` meets its contract: the part lent is as long as a set. Assumes nothing.
use mathlib.Core.Path.{◌≡◌}
use Prim.Native.Nat.{◌+◌, ◌-◌, ◌*◌}
use native.Mathlib.Omega.{arith}
use Rattle.bank_read.specs.Bank.{set_at}
use Rattle.bank_read.proofs.lent.set_at.Goals as goal

pub returns : goal.returns
unfolding set_at
returns c = let k = c.args.k in let e : k * 1081648 + 1081648 - k * 1081648 ≡ 1081648 = omega arith in rw e
