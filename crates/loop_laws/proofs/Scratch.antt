-- The first n elements of a longer buffer, lent as `[0..n]` to be written and then lent again to be read. Assumes
-- nothing.
use mathlib.Core.Path.{◌≡◌}
use mathlib.Core.List.{List, ◌++◌}
use Prim.Native.Nat.{ℕ, ◌-◌, ◌≤◌}
use native.Mathlib.Omega.{arith}
use lib.ListN.{length, take, length-append, length-take}
use lib.Seq.{take_at}
use lib.Ieee.{Float}

pub length_front : (xs : List Float) (n : ℕ) → n ≤ length xs → length (take (n - 0) xs) ≡ n
length_front xs n h = simp length-take (omega arith)

-- The buffer after ys has been written.
module _ (ys rest : List Float) (n : ℕ) (l : length ys ≡ n) where
  pub front_fits : n ≤ length (ys ++ rest)
  front_fits = simp length-append (omega arith)

  pub front-again : take (n - 0) (ys ++ rest) ≡ ys
  front-again = let e : n - 0 ≡ n = omega arith in rw e (take_at ys rest n l)
