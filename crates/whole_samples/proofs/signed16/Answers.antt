-- `whole_samples::signed16` meets its contract, by the law over the width. Assumes nothing.
use mathlib.Core.Path.{◌≡◌, refl, ap, ◌∙◌}
use Prim.Native.Nat.{ℕ, ◌+◌, ◌%◌, ◌^◌, ◌<◌}
use native.Mathlib.Nat.{mod-lt}
use native.Mathlib.Omega.{arith}
use lib.Dec.{lit≤}
use lib.IntN.{ℤ, pos, ◌-ℤ◌}
use mir.Syntax.{w32}
use mir.Val.{to_z}
use mir.ValLaws.{to_z_pos}
use Rattle.whole_samples.specs.Whole.{signed}
use Rattle.whole_samples.proofs.Signs.{turned, signed-few, fits-i32, kept}
use Rattle.whole_samples.proofs.signed16.Goals as goal

few : (n : ℕ) → (n % 65536 + 32768) % 65536 < 2 ^ 31
few n = let l = mod-lt (n % 65536 + 32768) {m = 65536} (lit≤ tt) in omega arith

-- What the code computes is the signed number.
worked : (n : ℕ) → to_z w32 ((n % 65536 + 32768) % 65536) -ℤ pos 32768 ≡ signed 16 n
worked n =
    ap (λ (z : ℤ). z -ℤ pos 32768) (to_z_pos w32 ((n % 65536 + 32768) % 65536) (few n))
    ∙ turned 32768 65536 (n % 65536) refl (mod-lt n (lit≤ tt))

pub overflow_sub-result : goal.overflow_sub-result
overflow_sub-result c = rw (worked c.args.n) (fits-i32 (signed 16 c.args.n)
    (signed-few 16 c.args.n (lit≤ tt) (lit≤ tt)))

pub returns : goal.returns
returns c = kept (worked c.args.n) (signed-few 16 c.args.n (lit≤ tt) (lit≤ tt))
