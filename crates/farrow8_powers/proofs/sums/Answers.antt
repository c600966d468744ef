-- `farrow8_powers::sums` meets its contract: the constant is the table, and so are its columns. Assumes nothing.
use mathlib.Core.Path.{◌≡◌, ◌∙◌, ap}
use mathlib.Core.List.{List}
use Prim.Native.Nat.{ℕ}
use lib.Ieee.{Float}
use Rattle.farrow8_powers.specs.Table.{quotients, column_in}
use Rattle.farrow8_powers.specs.Sums.{dot_of, power}
use Rattle.farrow8_powers.proofs.sums.Goals as goal

power-is : (x : List Float) (p : ℕ) {t : List (List Float)} {c : List Float} {s : Float}
    → t ≡ quotients → c ≡ column_in t p → s ≡ dot_of x c → s ≡ power x p
power-is x p e f g = g ∙ ap (dot_of x) (f ∙ ap (λ (t : List (List Float)). column_in t p) e)

pub returns : goal.returns
returns c =
    let x = c.args.x in
    let e = c.table-c.ensures in
    rw (
      power-is x 2 e c.column.ensures c.dot.ensures,
      power-is x 6 e c.column-2.ensures c.dot-2.ensures,
      power-is x 4 e c.column-3.ensures c.dot-3.ensures,
      power-is x 7 e c.column-4.ensures c.dot-4.ensures,
      power-is x 1 e c.column-5.ensures c.dot-5.ensures,
      power-is x 3 e c.column-6.ensures c.dot-6.ensures,
      power-is x 5 e c.column-7.ensures c.dot-7.ensures,
    )
