-- W2e. The nearest f32 is finite if the size is below the midpoint above the largest, 2^128 - 2^103. Assumes nothing.
use mathlib.Core.Path.{◌≡◌, refl, sym, ap, ◌∙◌}
use mathlib.Core.Logic.{inl, inr}
use mathlib.Core.Bool.{Bool, true, false, ◌&&◌}
use Prim.Native.Nat.{ℕ, ◌+◌, ◌-◌, ◌*◌, ◌^◌, ◌<◌}
use native.Mathlib.Nat.{mul-pos, mul-one}
use native.Mathlib.Omega.{arith}
use borrow.Author.Tests.{lt-ltb, le-ltb}
use lib.Dec.{ltb, lit<}
use lib.IntN.{ℤ, pos}
use lib.Ieee.{Float, nan, inf, fin, Format, binary32, up, down, low, lt, round}
use lib.Ieee.Bits.{is_true}
use lib.Ieee.Fits.{down_pos}
use lib.Ieee.Scale.{finite, grid}
use Rattle.rounding.specs.Nearest.{limit}
use Rattle.rounding.specs.Operations.{narrowed}
use Rattle.rounding.proofs.Grid.{round-value}
use Rattle.rounding.proofs.NumberOrders.{lt-or-ge, and-true}
use Rattle.rounding.proofs.Overflow.{round-finite, round-infinite}
use Rattle.rounding.proofs.Values.{value-finite}

pub finite-round : (f : Format) (s : Bool) (n d : ℕ) → 0 < d → finite (round f s n d) ≡ ltb n (limit f * d)
finite-round f s n d D = elim (lt-or-ge n (limit f * d)) [
  | inl l ↦
      is_true _ (value-finite (round f s n d) s (grid f n d) (2 ^ low f) (round-value f s n d (round-finite f n d D l)))
      ∙ sym (lt-ltb n (limit f * d) l)
  | inr g ↦ ap finite ((round-infinite f n d D s).0 g) ∙ sym (le-ltb n (limit f * d) g)
]

-- The midpoint with either sign.
abbrev pub midpoint : Bool → Float
midpoint s = fin s (2 ^ 25 - 1) (pos 103)

some : (e : ℤ) → 0 < limit binary32 * down e
some e = mul-pos (lit< tt) (down_pos e)

first : (a b : ℕ) → 0 < a → 0 < a + b
first a b h = omega arith

second : (a b : ℕ) → 0 < b → 0 < a + b
second a b h = omega arith

pub in-range : (x : Float) → (lt (midpoint true) x && lt x (midpoint false)) ≡ finite (narrowed x)
unfolding lt narrowed
in-range nan = refl
in-range (inf true) = refl
in-range (inf false) = refl
in-range (fin false m e) =
    rw (lt-ltb 0 (limit binary32 * down e + m * up e * 1) (first _ _ (some e)), mul-one (m * up e))
    (sym (finite-round binary32 false (m * up e) (down e) (down_pos e)))
in-range (fin true m e) =
    rw (lt-ltb 0 (m * up e * 1 + limit binary32 * down e) (second _ _ (some e)), mul-one (m * up e))
    (and-true (ltb (m * up e) (limit binary32 * down e))
    ∙ sym (finite-round binary32 true (m * up e) (down e) (down_pos e)))
