-- A 24-bit value fits an `i32`, and the size of the difference of two is below 2^24. Assumes nothing.
use Rattle.std.proofs.Common.{◌≡◌, ℕ, zero, suc, ◌-◌, ◌^◌, ◌<◌, ◌≤◌, Bool, true, false, cond, ltb, leb, ℤ, pos}
use Rattle.std.proofs.Common.{negsuc, ◌-ℤ◌, nat_abs, arith, w32, SFits, leb-true}
use lib.IntN.{sub_ℕ}
use lib.Signed.{mag}
use Rattle.residual.specs.Refusals.{in24}
use Rattle.report_tests.proofs.BothTests.{left-true}

pub mag-24 : (x : ℤ) → in24 x ≡ true → mag x < 2 ^ 23
mag-24 (pos n) h = omega (arith, leb-true n 8388607 h)
mag-24 (negsuc n) h = omega (arith, leb-true n 8388607 (left-true (leb n 8388607) true h))

pub fits-24 : (x : ℤ) → in24 x ≡ true → SFits w32 x
fits-24 x h = record { sfits = omega (arith, mag-24 x h) }

size-sub : (a b : ℕ) → a ≤ 2 ^ 23 → b ≤ 2 ^ 23 → nat_abs (sub_ℕ a b) < 2 ^ 24
size-sub a b ha hb = go (ltb a b)
  where
    go : (t : Bool) → nat_abs (cond t (negsuc (b - suc a)) (pos (a - b))) < 2 ^ 24
    go true = omega arith
    go false = omega arith

size : (x y : ℤ) → mag x < 2 ^ 23 → mag y < 2 ^ 23 → nat_abs (x -ℤ y) < 2 ^ 24
size (pos a) (pos zero) hx hy = omega arith
size (pos a) (pos (suc b)) hx hy = size-sub a (suc b) (omega arith) (omega arith)
size (pos a) (negsuc b) hx hy = omega arith
size (negsuc a) (pos zero) hx hy = size-sub 0 (suc a) (omega arith) (omega arith)
size (negsuc a) (pos (suc b)) hx hy = omega arith
size (negsuc a) (negsuc b) hx hy = size-sub (suc b) (suc a) (omega arith) (omega arith)

pub below-24 : (x y : ℤ) → in24 x ≡ true → in24 y ≡ true → nat_abs (x -ℤ y) < 2 ^ 24
below-24 x y hx hy = size x y (mag-24 x hx) (mag-24 y hy)
