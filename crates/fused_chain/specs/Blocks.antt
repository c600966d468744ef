-- What the parts of a run of taps promise one another: a run from one turn to another, and four turns at once.
-- Definitions only.
use Rattle.std.specs.Prelude.{◌≡◌, ℕ, ◌+◌, ◌≤◌, T, List, length, slice_index_or, Float}
use Rattle.std.specs.Float.{nan, binary32, binary64}
use Rattle.std.specs.Float.Ieee.{mul, fits}
use Rattle.std.specs.Float.Ieee.Scale.{finite}
use Rattle.fused_chain.specs.Chain.{coefficient_of, chain_of}

-- The lists reach as far as turn `to`, and the sum is an f32.
pub record Ready (xs row0 row1 : List Float) (from to : ℕ) (sum : Float) : Type 0 where
  pub order : from ≤ to
  pub samples : to ≤ length xs
  pub row : to ≤ length row0
  pub next : to ≤ length row1
  pub held : T (fits binary32 sum)

-- If `sum` is a chain's sum before turn `from`, r is its sum before turn `to`.
pub record Carries (xs row0 row1 : List Float) (blend : Float) (from to : ℕ) (sum r : Float) : Type 0 where
  pub held : T (fits binary32 r)
  pub is : (a : Float) → sum ≡ chain_of xs row0 row1 blend a from → r ≡ chain_of xs row0 row1 blend a to

-- A run that may stop early, at turn k.
pub record Runs (xs row0 row1 : List Float) (blend : Float) (from to : ℕ) (sum : Float) (k : ℕ)
    (r : Float) : Type 0 where
  pub first : from ≤ k
  pub last : k ≤ to
  pub carried : Carries xs row0 row1 blend from k sum r

-- The value p is exactly the product of two f32 values.
pub record Product (x c p : Float) : Type 0 where
  pub sample : T (fits binary32 x)
  pub coefficient : T (fits binary32 c)
  pub is : p ≡ mul binary64 x c

abbrev pub TapProduct : List Float → List Float → List Float → Float → ℕ → Float → Type 0
TapProduct xs row0 row1 blend k p = Product (slice_index_or xs k nan)
    (coefficient_of blend (slice_index_or row0 k nan) (slice_index_or row1 k nan)) p

pub record FiniteFour (a b c d : Float) : Type 0 where
  pub first : T (finite a)
  pub second : T (finite b)
  pub third : T (finite c)
  pub fourth : T (finite d)

pub record Multiplied (xs row0 row1 : List Float) (blend : Float) (k : ℕ) (a b c d : Float) : Type 0 where
  pub first : TapProduct xs row0 row1 blend k a
  pub second : TapProduct xs row0 row1 blend (k + 1) b
  pub third : TapProduct xs row0 row1 blend (k + 2) c
  pub fourth : TapProduct xs row0 row1 blend (k + 3) d
  pub bounded : FiniteFour a b c d
