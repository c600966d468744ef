-- `sinc_row::small` meets its contract: its two comparisons are one comparison of the magnitude. Assumes nothing.
use mathlib.Core.Path.{◌≡◌, refl, sym, ◌∙◌}
use mathlib.Core.Bool.{true, false}
use Prim.Native.Nat.{ℕ, ◌+◌, ◌*◌, ◌<◌}
use native.Mathlib.Nat.{mul-pos}
use native.Mathlib.Omega.{arith}
use borrow.Author.Tests.{ltb-false, lt-ltb}
use lib.IntN.{ℤ}
use lib.Ieee.{Float, nan, inf, fin, round, lt, neg, of_bits, up, down}
use lib.Ieee.Fits.{down_pos}
use Rattle.sinc_row.specs.Coefficient.{small_of, abs_of}
use Rattle.sinc_row.proofs.small.Goals as goal

-- The bound is above zero.
module _ (n : ℕ) (d : ℤ) (p : 0 < n * up d) where
  under : (x : Float) → lt x (fin false n d) ≡ true → lt (fin true n d) x ≡ lt (abs_of x) (fin false n d)
  unfolding lt
  under nan h = refl
  under (inf true) h = refl
  under (inf false) h = sym h
  under (fin false m e) h =
      lt-ltb 0 (n * up d * down e + m * up e * down d) (omega (arith, mul-pos p (down_pos e))) ∙ sym h
  under (fin true m e) h = refl

  not-under : (x : Float) → lt x (fin false n d) ≡ false → false ≡ lt (abs_of x) (fin false n d)
  unfolding lt
  not-under nan h = refl
  not-under (inf true) h = refl
  not-under (inf false) h = refl
  not-under (fin false m e) h = sym h
  not-under (fin true m e) h =
      absurd (omega (arith, ltb-false 0 (m * up e * down d + n * up d * down e) h, mul-pos p (down_pos e)))

pub returns-then-x : goal.returns-then-x
unfolding small_of round neg of_bits
returns-then-x c = under _ _ (omega arith) c.args.x c.if-x.true

pub returns-else-x : goal.returns-else-x
unfolding small_of round of_bits
returns-else-x c = not-under _ _ (omega arith) c.args.x c.if-x.false
