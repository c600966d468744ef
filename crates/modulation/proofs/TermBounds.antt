-- A term of sums, differences and products, each rounded once. If its variables lie between ends, so does its value,
-- between ends that are computed from theirs. The first factor of a product must not be negative. Assumes nothing.
use mathlib.Core.Path.{refl}
use mathlib.Core.Bool.{Bool, true, false, ◌&&◌, cond}
use Prim.Native.Nat.{ℕ}
use lib.Dec.{T}
use lib.IntN.{pos}
use lib.Ieee.{Float, fin, binary64, add, sub, mul, le}
use lib.Ieee.Fits.{and_l, and_r}
use lib.Ieee.Scale.{finite}
use Rattle.interval.proofs.Between.{Between, point, widen, sum-between, difference-between}
use Rattle.interval.proofs.Products.{product-between}

pub data Term : Type 0 where
  var : ℕ → Term
  num : Float → Term
  plus : Term → Term → Term
  minus : Term → Term → Term
  times : Term → Term → Term

abbrev pub value : (ℕ → Float) → Term → Float
value ρ (var i) = ρ i
value ρ (num c) = c
value ρ (plus x y) = add binary64 (value ρ x) (value ρ y)
value ρ (minus x y) = sub binary64 (value ρ x) (value ρ y)
value ρ (times x y) = mul binary64 (value ρ x) (value ρ y)

pub record Ends : Type 0 where
  pub low : Float
  pub high : Float

abbrev zero : Float
zero = fin false 0 (pos 0)

abbrev summed : Ends → Ends → Ends
summed u v = record { low = add binary64 u.low v.low; high = add binary64 u.high v.high }

abbrev parted : Ends → Ends → Ends
parted u v = record { low = sub binary64 u.low v.high; high = sub binary64 u.high v.low }

abbrev multiplied : Ends → Ends → Ends
multiplied u v =
    record {
      low = mul binary64 (cond (le zero v.low) u.low u.high) v.low;
      high = mul binary64 (cond (le zero v.high) u.high u.low) v.high;
    }

unfoldable pub ends : (ℕ → Ends) → Term → Ends
ends σ (var i) = σ i
ends σ (num c) = record { low = c; high = c }
ends σ (plus x y) = summed (ends σ x) (ends σ y)
ends σ (minus x y) = parted (ends σ x) (ends σ y)
ends σ (times x y) = multiplied (ends σ x) (ends σ y)

-- Every end is finite, and no first factor of a product is negative.
abbrev real : Ends → Bool
real u = finite u.low && finite u.high

unfoldable pub sure : (ℕ → Ends) → Term → Bool
unfolding ends
sure σ (var i) = true
sure σ (num c) = finite c
sure σ (plus x y) = real (ends σ (plus x y)) && (sure σ x && sure σ y)
sure σ (minus x y) = real (ends σ (minus x y)) && (sure σ x && sure σ y)
sure σ (times x y) = (le zero (ends σ x).low && real (ends σ (times x y))) && (sure σ x && sure σ y)

reals : (u : Ends) → T (real u) → T (finite u.low) × T (finite u.high)
reals u t = (and_l (finite u.low) (finite u.high) t, and_r (finite u.low) (finite u.high) t)

three : (a b c : Bool) → T (a && (b && c)) → T a × T b × T c
three true true true t = (tt, tt, tt)
three true true false t = absurd t
three true false c t = absurd t
three false b c t = absurd t

-- The term lies between two numbers, by a test that is computed.
unfoldable pub lies : (ℕ → Ends) → Term → Float → Float → Bool
lies σ e l h = real (record { low = l; high = h }) && (sure σ e && (le l (ends σ e).low && le (ends σ e).high h))

module _ (σ : ℕ → Ends) (ρ : ℕ → Float) (inside : (i : ℕ) → Between (σ i).low (σ i).high (ρ i)) where
  bounded : (e : Term) → T (sure σ e) → Between (ends σ e).low (ends σ e).high (value ρ e)
  unfolding ends sure
  bounded (var i) t = inside i
  bounded (num c) t = point c t
  bounded (plus x y) t =
      let (here, left, right) = three (real (ends σ (plus x y))) (sure σ x) (sure σ y) t in
      let (p, q) = reals (ends σ (plus x y)) here in
      sum-between binary64 (bounded x left) (bounded y right) refl refl p q
  bounded (minus x y) t =
      let (here, left, right) = three (real (ends σ (minus x y))) (sure σ x) (sure σ y) t in
      let (p, q) = reals (ends σ (minus x y)) here in
      difference-between binary64 (bounded x left) (bounded y right) refl refl p q
  bounded (times x y) t =
      let (here, left, right) = three (le zero (ends σ x).low && real (ends σ (times x y))) (sure σ x) (sure σ y) t in
      let (p, q) = reals (ends σ (times x y)) (and_r (le zero (ends σ x).low) (real (ends σ (times x y))) here) in
      product-between binary64 (and_l (le zero (ends σ x).low) (real (ends σ (times x y))) here) (bounded x left)
      (bounded y right) refl refl p q

  pub lies-between : (e : Term) {l h : Float} → T (lies σ e l h) → Between l h (value ρ e)
  unfolding lies
  lies-between e {l} {h} t =
      let (fixed, safe, fits) =
      three (real (record { low = l; high = h })) (sure σ e) (le l (ends σ e).low && le (ends σ e).high h) t in
      let (p, q) = reals (record { low = l; high = h }) fixed in
      widen (bounded e safe) p q (and_l (le l (ends σ e).low) (le (ends σ e).high h) fits)
      (and_r (le l (ends σ e).low) (le (ends σ e).high h) fits)
