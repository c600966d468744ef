-- What the loop over a stretch keeps when it goes two items on at a time, from what the two items gave.
-- Assumes nothing.
use mathlib.Core.Path.{◌≡◌}
use mathlib.Core.List.{List}
use Prim.Native.Nat.{ℕ, ◌+◌, ◌<◌}
use native.Mathlib.Omega.{arith}
use lib.ListN.{length, get_or, set}
use lib.Ieee.{Float}
use Rattle.variable_delay.specs.declared.VariableDelay.{VariableDelay}
use Rattle.stretch_call.specs.Items.{leaves}
use Rattle.sinc_stretch_f32.specs.Items.{Neighbours}
use Rattle.sinc_stretch_f32.specs.Reader.{left_f32}
use Rattle.sinc_stretch_f32.proofs.Turns.{On, counts, answer, ends, goes_on}

module _ (table : List Float) (taps phases : ℕ) (d₀ : VariableDelay) (ring₀ xs ds out₀ : List Float)
    {ring out : List Float} {i k : ℕ} (g : On table taps phases d₀ ring₀ xs ds out₀ ring out i k) (z : Float)
    (l : k + 1 < length xs) {n m : ℕ} {a b : Float} {ys : List Float}
    (e : Neighbours table taps phases i ring (get_or xs k z) (get_or ds k z) (get_or xs (k + 1) z)
    (get_or ds (k + 1) z) n m a b
    ys) where
  abbrev end : List Float → List Float → ℕ → ℕ → ℕ → Type 0
  end ring out i k n =
      leaves (answer (counts d₀ i) k n) ring out ≡ left_f32 table taps phases d₀ ring₀ xs ds out₀

  pub first_ends : (n ≡ 0 → ⊥) → end ys out i k n
  first_ends h =
      rw (e.ended h) (ends table taps phases d₀ ring₀ xs ds out₀ g z (omega (arith, l)) e.one h)

  module _ (none : n ≡ 0) where
    pub half-way : On table taps phases d₀ ring₀ xs ds out₀ e.between (set out k a) (i + 1) (k + 1)
    half-way = goes_on table taps phases d₀ ring₀ xs ds out₀ g z (omega (arith, l)) e.one none

    pub second-ends : (m ≡ 0 → ⊥) → end ys (set out k a) (i + 1) (k + 1) m
    second-ends h = ends table taps phases d₀ ring₀ xs ds out₀ half-way z l (e.two none) h

    pub both-on : m ≡ 0
        → On table taps phases d₀ ring₀ xs ds out₀ ys (set (set out k a) (k + 1) b) (i + 1 + 1) (k + 1 + 1)
    both-on h = goes_on table taps phases d₀ ring₀ xs ds out₀ half-way z l (e.two none) h
