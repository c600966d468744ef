-- `whole_samples::signed24` meets its contract, by the law over the width. Assumes nothing.
use mathlib.Core.Path.{◌≡◌, refl, ap, ◌∙◌}
use Prim.Native.Nat.{ℕ, ◌+◌, ◌%◌, ◌^◌, ◌<◌}
use native.Mathlib.Nat.{mod-lt}
use native.Mathlib.Omega.{arith}
use lib.Dec.{lit≤}
use lib.IntN.{ℤ, pos, ◌-ℤ◌}
use mir.Syntax.{w32}
use mir.Val.{to_z}
use mir.ValLaws.{to_z_pos}
use Rattle.whole_samples.specs.Whole.{signed}
use Rattle.whole_samples.proofs.Signs.{turned, signed-few, fits-i32, kept}
use Rattle.whole_samples.proofs.signed24.Goals as goal

few : (n : ℕ) → (n % 16777216 + 8388608) % 16777216 < 2 ^ 31
few n = let l = mod-lt (n % 16777216 + 8388608) {m = 16777216} (lit≤ tt) in omega arith

-- What the code computes is the signed number.
worked : (n : ℕ) → to_z w32 ((n % 16777216 + 8388608) % 16777216) -ℤ pos 8388608 ≡ signed 24 n
worked n =
    ap (λ (z : ℤ). z -ℤ pos 8388608) (to_z_pos w32 ((n % 16777216 + 8388608) % 16777216) (few n))
    ∙ turned 8388608 16777216 (n % 16777216) refl (mod-lt n (lit≤ tt))

pub overflow_sub-result : goal.overflow_sub-result
overflow_sub-result c = rw (worked c.args.n) (fits-i32 (signed 24 c.args.n)
    (signed-few 24 c.args.n (lit≤ tt) (lit≤ tt)))

pub returns : goal.returns
returns c = kept (worked c.args.n) (signed-few 24 c.args.n (lit≤ tt) (lit≤ tt))
