-- From a whole number near x / H to the guess. The multiplier need not be exactly 1 / H: what `near_inverse` tests is
-- near enough. Assumes nothing.
use mathlib.Core.Path.{◌≡◌}
use mathlib.Core.Bool.{Bool, ◌&&◌}
use Prim.Native.Nat.{ℕ, ◌+◌, ◌*◌, ◌^◌, ◌≤◌, ◌<◌}
use native.Mathlib.Nat.{mul-pos}
use native.Mathlib.Omega.{arith}
use lib.Dec.{T, leb, leb→le, lit≤, lit<}
use lib.Ieee.{Float}
use lib.Ieee.Fits.{and_l, and_r}
use lib.Ieee.Scale.{finite}
use Rattle.rounding_error.specs.Fraction.{Frac, frac, nil, times, Same, Within, Mag}
use Rattle.rounding_error.specs.Value.{val}
use Rattle.rounding_error.proofs.Same.{sums, same-sym, times-comm, times-one}
use Rattle.rounding_error.proofs.Within.{flip, chain, from, to, rescale}
use Rattle.rounding_error.proofs.ProductErrors.{within-times, within-times-at}
use Rattle.rounding_error.proofs.Value.{val_pos}
use Rattle.polynomials.specs.Range.{at_most}
use Rattle.polynomials.proofs.Squares.{at-most-mag}
use Rattle.elementary.specs.Reduction.{H}
use Rattle.elementary.specs.Steps.{Guess}

abbrev pub u : ℕ
u = 2 ^ 30

-- ---- a multiplier that is near enough: at most 0.64, and times H within 5 / 100000 of 1
abbrev upto : ℕ → ℕ → Frac → Frac → Bool
upto g e x y = leb (g * (x.p * y.d + y.n * x.d)) (g * (y.p * x.d + x.n * y.d) + e * (x.d * y.d))

abbrev both : ℕ → ℕ → Frac → Frac → Bool
both g e x y = upto g e x y && upto g e y x

abbrev pub near_inverse : Float → Bool
near_inverse i = finite i && (both 100 64 (val i) nil && both 100000 5 (times (val i) H) (frac 1 0 1))

pub record Inverse (i : Float) : Type 0 where
  pub number : T (finite i)
  pub small : Within 100 64 (val i) nil
  pub unit : Within 100000 5 (times (val i) H) (frac 1 0 1)

within : (g e : ℕ) (x y : Frac) → 0 < x.d → 0 < y.d → T (both g e x y) → Within g e x y
within g e x y X Y t =
    record {
      left = X;
      right = Y;
      above = leb→le _ _ (and_l (upto g e x y) (upto g e y x) t);
      below = leb→le _ _ (and_r (upto g e x y) (upto g e y x) t);
    }

pub inverse-of : (i : Float) → T (near_inverse i) → Inverse i
inverse-of i t =
    let b = and_r (finite i) _ t in
    record {
      number = and_l (finite i) _ t;
      small = within 100 64 (val i) nil (val_pos i) (lit< tt) (and_l (both 100 64 (val i) nil) _ b);
      unit =
          within 100000 5 (times (val i) H) (frac 1 0 1) (mul-pos (val_pos i) (lit< tt)) (lit< tt)
          (and_r (both 100 64 (val i) nil) _ b);
    }

-- ---- |x - (j - 256) * H| ≤ 8/10
few : (j : ℕ) {X : Frac} → Mag 256 X → Within 10 8 X (times (frac j 256 1) H) → (1 ≤ j) × (j ≤ 511)
few j {X} m w =
    let b : Within 10 2560 X nil = rescale (lit< tt) (lit≤ tt) m in
    let c = chain (flip w) b in
    (omega (arith, c.below), omega (arith, c.above))

pub guess-of : (j : ℕ) (x : Float) → T (at_most 256 x) → Within 10 8 (val x) (times (frac j 256 1) H) → Guess x j
guess-of j x h w = let f = few j (at-most-mag 256 x h) w in record { low = f.0; high = f.1; near = w }

rotate-core : (hp hn hd xp xn xd ip in' id : ℕ) → let l =
    times (frac hp hn hd) (times (frac xp xn xd) (frac ip in' id)) in
    let r = times (frac xp xn xd) (times (frac ip in' id) (frac hp hn hd)) in
    l.p * r.d + r.n * l.d ≡ r.p * l.d + l.n * r.d
rotate-core hp hn hd xp xn xd ip in' id = simp sums

rotate : (h x i : Frac) → 0 < h.d → 0 < x.d → 0 < i.d → Same (times h (times x i)) (times x (times i h))
rotate h x i P Q R =
    record {
      left = mul-pos P (mul-pos Q R);
      right = mul-pos Q (mul-pos R P);
      cross = rotate-core h.p h.n h.d x.p x.n x.d i.p i.n i.d;
    }

pub near-x : {i : Float} → Inverse i → (j : ℕ) (X : Frac) → Mag 256 X
    → Within u (2 ^ 29 + 1) (frac j 256 1) (times X (val i)) → Within 10 8 X (times (frac j 256 1) H)
near-x {i} I j X m w =
    let a : Within 1000 786 (times H (frac j 256 1)) (times H (times X (val i))) =
    rescale (lit< tt) (lit≤ tt) (within-times-at H-mag w) in
    let b : Within 1000 13 (times X (times (val i) H)) X =
    rescale (lit< tt) (lit≤ tt) (to (times-one X m.left) (within-times m I.unit)) in
    to (times-comm H (frac j 256 1) (lit< tt) (lit< tt)) (flip (rescale (lit< tt) (lit≤ tt)
    (chain a (from (same-sym (rotate H X (val i) (lit< tt) m.left I.small.left)) b))))
  where
    H-mag : Within 1000 1571 H nil
    H-mag = omega arith
