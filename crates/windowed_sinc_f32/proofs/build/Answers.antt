-- `windowed_sinc_f32::build` meets its contract: it is refused, or `write_table` leaves the table. Assumes nothing.
use mathlib.Core.Path.{◌≡◌}
use native.Mathlib.Omega.{arith}
use Rattle.windowed_sinc.proofs.Refused.{not_written}
use Rattle.windowed_sinc_f32.proofs.Refused.{not-built}
use Rattle.windowed_sinc_f32.proofs.build.Goals as goal
use Rattle.windowed_sinc_f32.proofs.build.Goals.{Else-no-ne0, Then-no-ne0}

some : (c : Then-no-ne0) → c.args.no ≡ 0 → ⊥
some c zero = omega (arith, c.if-no-ne0.true)

pub returns-then-no-ne0 : goal.returns-then-no-ne0
returns-then-no-ne0 c = record { value = not-built _ _ (some c) _; table_after = not_written _ (some c) _ _ }

none : (c : Else-no-ne0) → c.args.no ≡ 0
none c = omega (arith, c.if-no-ne0.false)

pub write_table-requires : goal.write_table-requires
write_table-requires c = c.requires (none (goal.at.write_table-requires c).Else-no-ne0)

pub returns : goal.returns
returns c =
    record {
      value = rw (none (goal.at.returns c).Else-no-ne0);
      table_after = rw
          (none (goal.at.returns c).Else-no-ne0) c.write_table.ensures;
    }
