-- `set_room::build` meets its contract: the slot is not refused, so it comes back as the set. Assumes nothing.
use borrow.Author.Rules.{rules}
use borrow.Author.Tests.{eq-eqb}
use mathlib.Core.Path.{◌≡◌, refl, ◌∙◌, ap}
use mathlib.Core.List.{List, ◌++◌}
use Prim.Native.Nat.{ℕ, ◌+◌, ◌-◌, ◌*◌}
use native.Mathlib.Omega.{arith}
use lib.ListN.{length, take, drop}
use lib.Ieee.{Float}
use Rattle.constants.specs.Numbers.{set_length}
use Rattle.loop_laws.proofs.Rows.{length_part}
use Rattle.windowed_sinc.specs.Table.{table_after}
use Rattle.sinc_bank_f32.specs.Sets.{set_in, with_part}
use Rattle.sinc_bank_f32.specs.Building.{set_verdict}
use Rattle.set_room.proofs.build.Goals as goal

pub returns : goal.returns
unfolding with_part
returns c =
    let a = c.args in
    let xs = a.slots.now in
    let start = a.k * set_length in
    let n = start + set_length - start in
    let lent = take n (drop start xs) in
    let long : length lent ≡ set_length = length_part xs start n set_length (omega arith) c.requires.1 in
    let none : set_verdict a.rate (length lent) ≡ 0 = rw (c.requires.0, eq-eqb (length lent) set_length long) in
    ap (λ (ys : List Float). take start xs ++ (ys ++ drop n (drop start xs)))
    (c.build_set_in-built.ensures.set_after ∙ ap (λ (v : ℕ). table_after v (set_in a.mode a.rate) lent) none)
