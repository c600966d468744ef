-- The bias and its ends have no more digits than an f64, so that each is exact. Assumes nothing.
use mathlib.Core.Path.{◌≡◌, refl, subst}
use mathlib.Core.Bool.{Bool, true, false}
use Prim.Native.Nat.{ℕ, suc, ◌+◌, ◌-◌, ◌*◌, ◌^◌, ◌≤◌, ◌<◌}
use native.Mathlib.Nat.{le_of_lt, lt_of_le_of_lt, mul-le-mul, two-pow-succ}
use native.Mathlib.Omega.{arith}
use lib.Dec.{lit<}
use lib.Pow.{pow_pos, pow_mono}
use lib.Ieee.{binary64, round}
use lib.Ieee.Exact.{HasValue, round_exact}
use Rattle.biased_sum.specs.Biased.{digit, near_of, far-of, Frame}
use Rattle.biased_sum.specs.Beginning.{ends_for}
use Rattle.biased_sum.proofs.Grid.{L}

pub own : (s : Bool) (q j : ℕ) → q < 2 ^ 53 → j ≤ 1200 → HasValue (round binary64 s (q * 2 ^ j) L) s (q * 2 ^ j) L
own s q j few J =
    round_exact binary64 s (q * 2 ^ j) L q j (pow_pos 1074) few
    (lt_of_le_of_lt (mul-le-mul (le_of_lt few) (pow_mono J)) (lit< tt)) refl

-- The far end is an even number of units.
pub far-even : (k : ℕ) → (2 ^ 52 + 2 ^ 23) * 2 ^ suc (925 + k) ≡ far-of k
far-even k = let t : 2 ^ suc (925 + k) ≡ digit k + digit k = two-pow-succ (925 + k) in omega arith

module _ (k : ℕ) (K : k < 252) where
  near : (s : Bool) → HasValue (round binary64 s (near_of k) L) s (near_of k) L
  near s = own s (2 ^ 53 - 2 ^ 23) (925 + k) (lit< tt) (omega arith)

  far : (s : Bool) → HasValue (round binary64 s (far-of k) L) s (far-of k) L
  far s =
      subst (λ (z : ℕ). HasValue (round binary64 s z L) s z L) (far-even k)
      (own s (2 ^ 52 + 2 ^ 23) (suc (925 + k)) (lit< tt) (omega arith))

  pub framed : (s : Bool) → Frame s k (ends_for s k).bias (ends_for s k).low (ends_for s k).high
  unfolding ends_for
  framed true =
      record {
        small = K;
        bias = own true (2 ^ 53 - 2 ^ 24) (925 + k) (lit< tt) (omega arith);
        lower = far true;
        upper = near true;
      }
  framed false =
      record {
        small = K;
        bias = own false (2 ^ 53 - 2 ^ 24) (925 + k) (lit< tt) (omega arith);
        lower = near false;
        upper = far false;
      }
