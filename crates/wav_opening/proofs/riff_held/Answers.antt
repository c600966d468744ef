-- `wav_opening::riff_held` meets its contract: a RIFF that ends in the file is at least 8 bytes shorter than it.
-- Assumes nothing.
use mathlib.Core.Path.{◌≡◌, refl, sym, ◌∙◌}
use mathlib.Core.Bool.{Bool, true, false}
use Prim.Native.Nat.{ℕ, ◌+◌, ◌-◌, ◌≤◌}
use native.Mathlib.Omega.{arith}
use borrow.Author.Tests.{le-leb, lt-leb, leb-true, leb-false}
use lib.Dec.{leb}
use Rattle.wav_opening.specs.Opening.{true_riff}
use Rattle.wav_opening.proofs.riff_held.Goals as goal

moved : (r n : ℕ) → 8 ≤ n → leb r (n - 8) ≡ leb (8 + r) n
moved r n h = by (leb r (n - 8)) refl
  where
    by : (t : Bool) → leb r (n - 8) ≡ t → leb r (n - 8) ≡ leb (8 + r) n
    by true e = e ∙ sym (le-leb (8 + r) n (omega (arith, leb-true r (n - 8) e)))
    by false e = e ∙ sym (lt-leb (8 + r) n (omega (arith, leb-false r (n - 8) e)))

pub returns-then-length-lt8 : goal.returns-then-length-lt8
returns-then-length-lt8 c =
    let a = c.args in
    sym (lt-leb (8 + true_riff a.opening.now a.length) a.length (omega arith))

pub returns : goal.returns
returns c = rw (← c.true_riff.ensures) (moved c.true_riff.result c.args.length
    (omega arith))
