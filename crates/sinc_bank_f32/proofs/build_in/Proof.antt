-- `sinc_bank_f32::build_in` meets its contract: it is refused by the number of sets or by the length, or `write_sets`
-- leaves the bank. Assumes nothing.
use borrow.Author.Rules.{rules}
use borrow.Author.Tests.{eq-eqb, ne_eqb}
use mathlib.Core.Path.{◌≡◌, refl, ap}
use mathlib.Core.Bool.{true}
use Prim.Native.Nat.{◌*◌}
use native.Mathlib.Omega.{arith}
use lib.ListN.{length}
use Rattle.bank_choice.specs.Rates.{bank_ok, steps_of}
use Rattle.sinc_bank_f32.specs.declared.Built.TheVariants.{Sets}
use Rattle.sinc_bank_f32.specs.Sets.{set_length}
use Rattle.sinc_bank_f32.proofs.SetCount.{none, some}
use Rattle.sinc_bank_f32.proofs.build_in.Statement.{statement}
use Rattle.sinc_bank_f32.proofs.build_in.Tie as tie

returns : tie.Need-returns-then-n-eq0
returns c =
    let s = c.before in
    rw (none s.before.before.args.max_rate s.steps-n.result s.steps-n.ensures c.if-n-eq0.true) (refl, refl)

-- If there is a set, the rate is in range.
ok : (c : tie.Else-n-eq0) → bank_ok c.before.before.before.args.max_rate ≡ true
ok c =
    let s = c.before in
    some s.before.before.args.max_rate s.steps-n.result s.steps-n.ensures
    (λ z. omega (arith, z, c.if-n-eq0.false))

count : (c : tie.Else-n-eq0) → c.before.steps-n.result ≡ steps_of c.before.before.before.args.max_rate
count c = rw (ok c) at c.before.steps-n.ensures

need : (c : tie.After-bank_length)
    → c.bank_length.result ≡ steps_of c.before.before.before.before.args.max_rate * set_length
need c = rw (ok c.before) at c.bank_length.ensures

returns-2 : tie.Need-returns-then-sets-bank_length
returns-2 c =
    let l = c.before in
    let a = l.before.before.before.before.args in
    rw (
      ok l.before,
      ne_eqb (length a.sets.now) (steps_of a.max_rate * set_length)
          (λ z. omega (arith, z, need l, c.if-sets-bank_length.true)),
    ) (refl, refl)

write-sets-requires : tie.Need-write_sets-requires
write-sets-requires c κs =
    let e = c.before in
    let l = e.before in
    (ok l.before, count l.before, refl, omega (arith, e.if-sets-bank_length.false, need l, count l.before))

returns-3 : tie.Need-returns
returns-3 c =
    let w = c.before.before in
    let e = w.before.before in
    let l = e.before in
    let a = l.before.before.before.before.args in
    rw (
      ok l.before,
      eq-eqb (length a.sets.now) (steps_of a.max_rate * set_length)
          (omega (arith, e.if-sets-bank_length.false, need l)),
    )
    (ap Sets (count l.before), w.write_sets.ensures)

pub build_in_spec : {M : Type 1} → statement M
build_in_spec =
    tie.close (tie.spec (λ c κs. search rules) returns (λ c κs. search rules) returns-2 write-sets-requires
    (λ c. search rules) returns-3)
