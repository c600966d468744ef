-- G8. Every state is a word, and after one that is not 0 comes one that is not 0: each of the three xor-shifts gives 0
-- only at 0. Assumes nothing.
use mathlib.Core.Path.{◌≡◌}
use Prim.Native.Nat.{ℕ, ◌*◌, ◌/◌, ◌%◌, ◌^◌, ◌<◌}
use Rattle.wrapping_u64.specs.Xor.{xor}
use Rattle.wrapping_u64.proofs.Digitwise.{xor_below}
use Rattle.wrapping_u64.proofs.XorShifts.{right_zero, left-zero}
use Rattle.xorshift.specs.Xorshift.{step_of}

pub step-word : (x : ℕ) → step_of x < 2 ^ 64
unfolding step_of
step-word x = xor_below 64 _ _

pub step-zero : (x : ℕ) → x < 2 ^ 64 → step_of x ≡ 0 → x ≡ 0
unfolding step_of
step-zero x hx h =
    let a = xor x (x / 2 ^ 12) in
    let b = xor a (a * 2 ^ 25 % 2 ^ 64) in
    right_zero 11 x hx (left-zero 24 a (xor_below 64 _ _) (right_zero 26 b (xor_below 64 _ _) h))
