-- `woven::sample_at` meets its contract, by whether the sample is there. Assumes nothing.
use mathlib.Core.Path.{◌≡◌, sym}
use mathlib.Core.List.{List}
use Prim.Native.Nat.{ℕ, ◌<◌}
use native.Mathlib.Omega.{arith}
use lib.Ieee.{Float, of_bits}
use lib.ListN.{length, get_or, get_or-eq_default}
use lib.Seq.{drop-cons}
use Rattle.constants.specs.Numbers.{zero-f}
use Rattle.woven.proofs.sample_at.Goals as goal

-- An element of a list does not depend on the default for missing elements.
there : (l : List Float) (j : ℕ) (d e : Float) → j < length l → get_or l j d ≡ get_or l j e
there l j d e h = cc (drop-cons l j d h, drop-cons l j e h)

pub returns-then-k-samples : goal.returns-then-k-samples
returns-then-k-samples c = there c.args.samples.now c.args.k _ zero-f (omega arith)

pub returns-else-k-samples : goal.returns-else-k-samples
unfolding of_bits
returns-else-k-samples c = sym (get_or-eq_default c.args.samples.now zero-f {n = c.args.k} (omega arith))
