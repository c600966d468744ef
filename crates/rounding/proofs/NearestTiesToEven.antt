-- `round` is IEEE 754's rounding to nearest, a tie to even, for either sign: infinite from the midpoint above the
-- largest value on, and below it the nearest of all values of either sign. One of the other sign lies no nearer than
-- zero does. Assumes nothing.
use mathlib.Core.Path.{◌≡◌, refl}
use mathlib.Core.Logic.{inl, inr}
use mathlib.Core.Bool.{Bool}
use Prim.Native.Nat.{ℕ, ◌+◌, ◌-◌, ◌*◌, ◌^◌, ◌≤◌, ◌<◌, zero-le}
use native.Mathlib.Nat.{lt_irrefl, mul-pos, add-mul, zero-mul, eq-zero-or-pos}
use native.Mathlib.Omega.{arith}
use lib.IntN.{ℤ, pos}
use lib.Dec.{T}
use lib.Ieee.{Float, fin, Format, binary32, up, down, round, fits, low}
use lib.Ieee.Fits.{down_pos, round-fits}
use lib.Ieee.Exact.{HasValue}
use lib.Ieee.Scale.{grid, overflow}
use Rattle.rounding.specs.Operations.{narrowed}
use Rattle.rounding.specs.Nearest.{off, LastEven, Nearest, RoundedOnce}
use Rattle.rounding.proofs.RoundsToItself.{value-unique}
use Rattle.rounding.proofs.Grid.{round-value}
use Rattle.rounding.proofs.Nearest.{round-nearest}
use Rattle.rounding.proofs.Ties.{round-even}
use Rattle.rounding.proofs.Overflow.{round-finite, round-infinite}
use Rattle.rounding.proofs.Distances.{no-nearer, as-near, apart-le, apart-eq}

-- ---- zero
zero_held : (f : Format) (s : Bool) → T (fits f (fin s 0 (pos 0)))
unfolding fits
zero_held f s = tt

zero-value : (s : Bool) (c : ℕ) → HasValue (fin s 0 (pos 0)) s 0 c
zero-value s c = (refl, zero-mul c)

zero-even : (f : Format) (R : ℕ) → R ≡ 0 → LastEven f R
zero-even f R e = record { q = 0; k = 0; is = e; few = zero-le; full = λ h. absurd (lt_irrefl 0 h); even = refl }

module _ (f : Format) (s : Bool) (num den : ℕ) (D : 0 < den) (fine : grid f num den < overflow f) where
  abbrev n : ℕ
  n = num * 2 ^ low f

  abbrev R : ℕ
  R = grid f num den

  value : HasValue (round f s num den) s R (2 ^ low f)
  value = round-value f s num den fine

  like : (y : Float) (t : Bool) (Y : ℕ) → T (fits f y) → HasValue y t Y (2 ^ low f)
      → n - R * den + (R * den - n) ≤ n - Y * den + (Y * den - n)
  like y t Y held v = no-nearer n den R Y (round-nearest f s t num den R Y y D value held v)

  from_zero : n - R * den + (R * den - n) ≤ n
  from_zero =
      let o : 0 * den ≡ 0 = zero-mul den in
      omega (arith, like (fin s 0 (pos 0)) s 0 (zero_held f s) (zero-value s (2 ^ low f)))

  tie-zero : (Y : ℕ) → n - R * den + (R * den - n) ≡ n + Y * den → LastEven f R
  tie-zero Y e = elim (eq-zero-or-pos R) [
    | inl z ↦ zero-even f R z
    | inr p ↦
        let o : 0 * den ≡ 0 = zero-mul den in
        let d : 0 < R * den = mul-pos p D in
        round-even f s s num den R 0 (fin s 0 (pos 0)) D value (zero_held f s) (zero-value s (2 ^ low f))
        (λ z. lt_irrefl 0 (rw z at p)) (omega (arith, from_zero, add-mul R 0 den))
  ]

  tie-even : (y : Float) (t : Bool) (Y : ℕ) → T (fits f y) → HasValue y t Y (2 ^ low f) → (y ≡ round f s num den → ⊥)
      → off f s num den s R ≡ off f s num den t Y → LastEven f R
  tie-even y t Y held v ne e = elim (apart-eq s t n (R * den) (Y * den) e) [
    | inl (i, h) ↦
        let other : R ≡ Y → ⊥ =
        λ z. ne (value-unique f y (round f s num den) s R held (round-fits f s num den) (rw (i, ← z) at v) value) in
        round-even f s t num den R Y y D value held v other (as-near n den R Y D other h)
    | inr h ↦ tie-zero Y h
  ]

  nearest-value : Nearest f s num den (round f s num den)
  nearest-value =
      record {
        size = R;
        held = round-fits f s num den;
        value = value;
        nearest = λ y t Y held v. apart-le s t n (R * den) (Y * den) (like y t Y held v) from_zero;
        even = tie-even;
      }

pub round-once : (f : Format) (s : Bool) (num den : ℕ) → 0 < den → RoundedOnce f s num den (round f s num den)
round-once f s num den D =
    record {
      above = (round-infinite f num den D s).0;
      below = λ h. nearest-value f s num den D (round-finite f num den D h);
    }

pub narrowed-nearest : (s : Bool) (m : ℕ) (e : ℤ) → RoundedOnce binary32 s (m * up e) (down e) (narrowed (fin s m e))
unfolding narrowed
narrowed-nearest s m e = round-once binary32 s (m * up e) (down e) (down_pos e)
