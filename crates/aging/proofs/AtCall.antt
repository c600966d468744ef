-- What a call of either run reads, which stores its sample and then reads: the rings are those of the run's samples
-- with this one, so that the laws of Rings and Taps hold of them. Assumes nothing.
use mathlib.Core.Path.{◌≡◌, ◌∙◌, ap}
use mathlib.Core.List.{List, [], ◌∷◌, ◌++◌}
use Prim.Native.Nat.{ℕ, suc, ◌+◌}
use native.Mathlib.Nat.{add-zero}
use native.Mathlib.Omega.{arith}
use lib.IntN.{ℤ}
use lib.ListN.{length, length-append}
use lib.Ieee.{Float}
use Rattle.reads.specs.Local.{Alike}
use Rattle.variable_delay.specs.Reader.{stored}
use Rattle.runs.specs.Filled.{stored_from}
use Rattle.aging.specs.Damage.{Avoid, NoneAfter, Aged}
use Rattle.aging.proofs.Rings as rings
use Rattle.aging.proofs.Taps as taps

stored_last : (before : ℕ) (xs ss : List Float) (x : Float)
    → stored (before + length ss) (stored_from before xs ss) x ≡ stored_from before xs (ss ++ x ∷ [])
unfolding stored_from
stored_last before xs [] x = ap (λ (n : ℕ). stored n xs x) (add-zero before)
stored_last before xs (s ∷ ss) x =
    ap (λ (n : ℕ). stored n (stored_from (before + 1) (stored before xs s) ss) x) (tick before (length ss))
    ∙ stored_last (before + 1) (stored before xs s) ss x
  where
    tick : (a b : ℕ) → a + suc b ≡ a + 1 + b
    tick a b = omega arith

module _ (before : ℕ) (xs ss ts : List Float) (e : length ss ≡ length ts) (x y : Float) where
  as_long : length (ss ++ x ∷ []) ≡ length (ts ++ y ∷ [])
  as_long = rw (length-append ss (x ∷ []), length-append ts (y ∷ []), e)

  one_more : before + length ss + 1 ≡ before + length (ss ++ x ∷ [])
  one_more = rw (length-append ss (x ∷ [])) (omega arith)

  -- The count a and the rings ys and zs are what the samples ss and ts left.
  module _ {a : ℕ} {ys zs : List Float} (count : a ≡ before + length ss) (one : ys ≡ stored_from before xs ss)
      (other : zs ≡ stored_from before xs ts) where
    ring-one : stored a ys x ≡ stored_from before xs (ss ++ x ∷ [])
    ring-one = rw (count, one) (stored_last before xs ss x)

    ring-other : stored a zs y ≡ stored_from before xs (ts ++ y ∷ [])
    ring-other = rw (count, other, e) (stored_last before xs ts y)

    pub alike : (z : ℤ) (n : ℕ) → Avoid before (length xs) (ss ++ x ∷ []) (ts ++ y ∷ []) z n
        → Alike (stored a ys x) (a + 1) (stored a zs y) (a + 1) z n
    alike z n avoid =
        rw (ring-one, ring-other, count, one_more)
        (taps.alike before xs (ss ++ x ∷ []) (ts ++ y ∷ []) as_long z n avoid)

    pub aged : (m : ℕ) → NoneAfter m (ss ++ x ∷ []) (ts ++ y ∷ []) → Aged (length xs) m (ss ++ x ∷ [])
        → stored a ys x ≡ stored a zs y
    aged m none old =
        rw (ring-one, ring-other) (rings.aged before xs (ss ++ x ∷ []) (ts ++ y ∷ []) as_long m none old)
