-- The fast path of a reading: at a position in range, from the integer part that the code holds, the run of four taps
-- starts where it should, its indices fit, and the sum over it is the definition's value. Assumes nothing.
use mathlib.Core.Path.{◌≡◌, ◌∙◌, ap}
use mathlib.Core.Bool.{true}
use mathlib.Core.List.{List}
use Prim.Native.Nat.{ℕ, ◌+◌, ◌^◌, ◌≤◌, ◌<◌}
use native.Mathlib.Omega.{arith}
use lib.Dec.{lit<, lit≤}
use lib.IntN.{ℤ, pos, negsuc, ◌-ℤ◌}
use lib.ListN.{length, get_or}
use lib.Signed.{mag}
use lib.Ieee.{Float, nan, binary32, binary64, sub, of_int}
use mir.Syntax.{w64}
use mir.Val.{SFits, to_z, of_z}
use mir.ValLaws.{to_z-of_z}
use Rattle.magnitude.specs.Bounds.{AtMost}
use Rattle.magnitude.proofs.OrderAndBounds.{at-most-mono}
use Rattle.rounding.specs.Operations.{narrowed}
use Rattle.integer_part.specs.Parts.{floor_of, fraction_of}
use Rattle.integer_part.proofs.Fractions.{fraction-at-most}
use Rattle.integer_part.proofs.Floors.{floor-mag}
use Rattle.integer_part.proofs.IntegerSizes.{sum_fits}
use Rattle.ring.specs.Places.{position_ok}
use Rattle.ring.specs.Quick.{start_of}
use Rattle.ring.specs.declared.Start.{Start}
use Rattle.ring.proofs.Positions.{position-at-most}
use Rattle.ring.proofs.HeldRuns as run
use Rattle.cubic_farrow.specs.Cubic.{weighed}
use Rattle.cubic_farrow_f32.specs.Draft.{read_of}
use Rattle.cubic_farrow_f32.proofs.BothWays as ways

-- The fraction is no larger than 1, as its narrowing asks.
pub fraction-small : (p : Float) → position_ok p ≡ true → {f : Float} → f ≡ fraction_of p → AtMost 1 f
fraction-small p ok e =
    rw e (fraction-at-most p (at-most-mono {a = 2 ^ 36} {b = 2 ^ 52} p (lit≤ tt) (position-at-most p ok)))

module _ (p : Float) (ok : position_ok p ≡ true) {z : ℤ} (held : SFits w64 z) (floor : z ≡ floor_of p) where
  -- The integer part, as the code holds it.
  abbrev Z : ℤ
  Z = to_z w64 (of_z w64 z)

  whole : Z ≡ floor_of p
  whole = to_z-of_z w64 z held ∙ floor

  pub before-fits : SFits w64 (Z -ℤ pos 1)
  before-fits =
      let small : mag Z ≤ 2 ^ 36 = rw whole (floor-mag (2 ^ 36) _ (lit< tt) (position-at-most _ ok)) in
      sum_fits Z (negsuc 0) (omega (arith, small))

  -- The fraction, from that integer part.
  rest : narrowed (fraction_of p) ≡ narrowed (sub binary64 p (of_int binary64 Z))
  unfolding fraction_of
  rest = rw whole

  -- The place where the run starts.
  module _ (xs : List Float) (count : ℕ) {s : Start}
      (found : s ≡ start_of (length xs) count (to_z w64 (of_z w64 (Z -ℤ pos 1))) 4) (all : s.held ≡ true) where
    start : s ≡ start_of (length xs) count (Z -ℤ pos 1) 4
    start = rw (to_z-of_z w64 _ before-fits) at found

    pub inside : s.place < length xs
    inside = run.inside xs count 4 (Z -ℤ pos 1) s start all (lit< tt)

    pub reads : s.place + 4 ≤ length xs → {f mu r : Float} → f ≡ fraction_of p → mu ≡ narrowed f
        → r ≡ weighed binary32 mu (get_or xs s.place nan) (get_or xs (s.place + 1) nan) (get_or xs (s.place + 2) nan)
        (get_or xs (s.place + 3) nan)
        → r ≡ read_of xs count p
    reads fits {f} {mu} e m w =
        rw ok (ways.side_by_side xs count p Z whole mu (m ∙ ap narrowed e ∙ rest) s start all fits w)
