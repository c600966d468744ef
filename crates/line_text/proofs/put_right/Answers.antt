-- `line_text::put_right` meets its contract: the place where the digits end in a buffer of 20 is their number. Assumes
-- nothing.
use mathlib.Core.Path.{◌≡◌}
use Prim.Native.Nat.{◌-◌}
use native.Mathlib.Omega.{arith}
use lib.ListN.{length}
use Rattle.text.specs.Text.{decimal}
use Rattle.text.proofs.Digits.{few-digits}
use Rattle.text.proofs.Texts.{then}
use Rattle.line_text.specs.Columns.{blanks}
use Rattle.line_text.proofs.put_right.Goals as goal

pub returns : goal.returns
returns c =
    let a = c.args in
    let room = a.width - length (decimal a.n) in
    let count : c.saturating_sub.result ≡ room = omega (arith, few-digits 20 a.n) in
    let before = rw count at c.put_blanks-to.ensures in
    then a.out.now (blanks room) (decimal a.n) a.at before c.put_decimal.ensures
