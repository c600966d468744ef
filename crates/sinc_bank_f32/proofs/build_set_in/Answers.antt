-- `sinc_bank_f32::build_set_in` meets its contract: it is refused by one of the two tests, or `write_set` leaves the
-- set. Assumes nothing.
use borrow.Author.Tests.{not-true, not-false, eq-eqb, ne_eqb}
use mathlib.Core.Path.{◌≡◌, refl, sym, ◌∙◌}
use mathlib.Core.Bool.{true}
use native.Mathlib.Omega.{arith}
use lib.ListN.{length}
use lib.Ieee.{of_bits}
use Rattle.bank_choice.specs.Rates.{bank_ok}
use Rattle.sinc_bank_f32.specs.Sets.{set_length}
use Rattle.sinc_bank_f32.proofs.build_set_in.Goals as goal
use Rattle.sinc_bank_f32.proofs.build_set_in.Goals.{Else-not-within}

pub returns-then-not-within : goal.returns-then-not-within
unfolding of_bits
returns-then-not-within c = rw (← c.within.ensures, not-true c.within.result c.if-not-within.true-raw) record
    { value = refl; set_after = refl }

ok : (c : Else-not-within) → bank_ok c.args.rate ≡ true
unfolding of_bits
ok c = sym c.within.ensures ∙ not-false _ c.if-not-within.false-raw

pub returns-then-set-ne-SET_LENGTH : goal.returns-then-set-ne-SET_LENGTH
returns-then-set-ne-SET_LENGTH c =
    let xs = c.args.set.now in
    rw (
      ok (goal.at.returns-then-set-ne-SET_LENGTH c).Else-not-within,
      ne_eqb (length xs) set_length
          (λ z. omega (arith, z, c.if-set-ne-SET_LENGTH.true)),
    ) record { value = refl; set_after = refl }

pub write_set-requires : goal.write_set-requires
write_set-requires c = (ok (goal.at.write_set-requires c).Else-not-within, omega (arith, c.if-set-ne-SET_LENGTH.false))

pub returns : goal.returns
returns c =
    let xs = c.args.set.now in
    rw (
      ok (goal.at.returns c).Else-not-within,
      eq-eqb (length xs) set_length
          (omega (arith, c.if-set-ne-SET_LENGTH.false)),
    ) record { value = refl; set_after = c.write_set.ensures }
