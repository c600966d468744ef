-- The answer on each path of the step is the definition's. Assumes nothing.
use mathlib.Core.Path.{◌≡◌}
use mathlib.Core.Bool.{true, false}
use lib.Ieee.{Float, nan, le}
use Rattle.near_fused.specs.Step.{inside_of, ordered_of, upper_end, lower_end, near_of}

module _ (v mu c : Float) where
  pub outside : inside_of mu ≡ false → nan ≡ near_of v mu c
  unfolding near_of
  outside a = rw a

  module _ (a : inside_of mu ≡ true) where
    pub no_number : ordered_of v c ≡ false → nan ≡ near_of v mu c
    unfolding near_of
    no_number b = rw (a, b)

    module _ (b : ordered_of v c ≡ true) where
      pub in-doubt : le (upper_end v mu c) (lower_end v mu c) ≡ false → nan ≡ near_of v mu c
      unfolding near_of
      in-doubt t = rw (a, b, t)

      pub sure : le (upper_end v mu c) (lower_end v mu c) ≡ true → upper_end v mu c ≡ near_of v mu c
      unfolding near_of
      sure t = rw (a, b, t)
