-- `xorshift::step` meets its contract: step by step, the machine's exclusive or of two words is the definition's.
-- Assumes nothing.
use Prim.Native.Nat.{ℕ, ◌*◌, ◌/◌, ◌%◌, ◌^◌, ◌<◌}
use mathlib.Core.Path.{◌≡◌}
use native.Mathlib.Nat.{lt_of_le_of_lt, mod-lt}
use lib.Bits.{bit_xor}
use lib.Pow.{shr_le, pow_pos}
use Rattle.wrapping_u64.specs.Xor.{xor}
use Rattle.wrapping_u64.proofs.Digitwise.{xor_is, xor_below}
use Rattle.xorshift.specs.Xorshift.{step_of}
use Rattle.xorshift.proofs.step.Goals as goal

right : (n x : ℕ) → x < 2 ^ 64 → bit_xor x (x / 2 ^ n) ≡ xor x (x / 2 ^ n)
right n x h = xor_is 64 x (x / 2 ^ n) h (lt_of_le_of_lt (shr_le x n) h)

left : (n x : ℕ) → x < 2 ^ 64 → bit_xor x (x * 2 ^ n % 2 ^ 64) ≡ xor x (x * 2 ^ n % 2 ^ 64)
left n x h = xor_is 64 x (x * 2 ^ n % 2 ^ 64) h (mod-lt _ (pow_pos 64))

pub returns : goal.returns
unfolding step_of
returns c =
    let x = c.args.x in
    let a = xor x (x / 2 ^ 12) in
    let b = xor a (a * 2 ^ 25 % 2 ^ 64) in
    rw (
      c.shl.ensures,
      right 12 x c.ranges.x.fits,
      left 25 a (xor_below 64 _ _),
      right 27 b (xor_below 64 _ _),
    )
