-- `room_marks::lengths_agree` meets its contract: a product that does not fit a word is no number of floats. Assumes
-- nothing.
use mathlib.Core.Path.{◌≡◌, refl}
use mathlib.Core.Bool.{Bool, true, false, ◌&&◌}
use Prim.Native.Nat.{◌*◌}
use native.Mathlib.Omega.{arith}
use borrow.Author.Tests.{ne_eqb}
use lib.Dec.{eqb}
use lib.ListN.{length}
use Rattle.constants.specs.Numbers.{set_length}
use Rattle.room_marks.proofs.lengths_agree.Goals as goal

no : (a : Bool) → false ≡ a && false
no true = refl
no false = refl

pub returns : goal.returns
returns c =
    let n = length c.args.marks.now in
    let many = c.if-marks-le-MOST_SLOTS.false in
    let word = c.ranges.floats.fits in
    rw (ne_eqb c.args.floats (n * set_length) (λ e. omega (arith, e, many, word)))
    (no (eqb (length c.args.rates.now) n))

pub returns-then-marks-le-MOST_SLOTS : goal.returns-then-marks-le-MOST_SLOTS
returns-then-marks-le-MOST_SLOTS c = c.both.ensures
