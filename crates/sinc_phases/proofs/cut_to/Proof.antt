-- `sinc_phases::cut_to` meets its contract: its three branches are the laws of `CutToTop`. Assumes nothing.
use borrow.Author.Rules.{rules}
use mathlib.Core.Path.{◌≡◌, sym, ◌∙◌, ap, subst}
use mathlib.Core.Bool.{false}
use Prim.Native.Nat.{ℕ, ◌^◌, ◌≤◌}
use native.Mathlib.Omega.{arith}
use lib.Dec.{T, le→leb}
use lib.IntN.{ℤ, pos, nat_abs}
use lib.Signed.{non_neg}
use lib.Ieee.{binary64, of_bits, in_float}
use lib.Ieee.Exact.{HasValue}
use mir.Syntax.{w64}
use mir.Val.{Fits, to_z, of_z}
use mir.ValLaws.{to_z-of_z}
use Rattle.magnitude.proofs.WholeFloats.{whole-value}
use Rattle.sinc_phases.specs.Phases.{num, cut_to}
use Rattle.sinc_phases.proofs.CutToTop.{Under, under, whole, over, low, held}
use Rattle.sinc_phases.proofs.cut_to.Statement.{statement}
use Rattle.sinc_phases.proofs.cut_to.Tie as tie

value : (n : ℕ) → n ≤ 2 ^ 53 → HasValue (num n) false n 1
value n h = whole-value binary64 (pos n) h

int-to-float-if2 : tie.Need-int_to_float-top
unfolding in_float
int-to-float-if2 c = le→leb _ (2 ^ 53) c.before.before.requires

below : (c : tie.Then-x-top) → let a = c.before.before.before.args in Under a.top a.x
unfolding of_bits
below c =
    let a = c.before.before.before in
    under a.args.top a.args.x _ (value a.args.top a.requires) c.before.before.if-x.true c.if-x-top.true

-- The floor, as the code holds it.
word : (c : tie.After-floor) → let a = c.before.before.before.before.args in
    to_z w64 (of_z w64 c.floor.result) ≡ pos (cut_to a.top a.x)
word c =
    let a = c.before.before.before.before in
    to_z-of_z w64 c.floor.result (record { sfits = c.floor.type_inv })
    ∙ c.floor.ensures
    ∙ whole a.args.top a.args.x a.requires (below c.before)

cast-result : tie.Need-overflow_cast-result
cast-result c =
    let a = c.before.before.before.before in
    subst (λ (z : ℤ). T (non_neg z) × Fits w64 (nat_abs z)) (sym (word c))
    (tt, record { fits = omega (arith, held a.args.top a.args.x, a.requires) })

returns : tie.Need-returns-then-x-top
returns c = ap nat_abs (word c)

returns-2 : tie.Need-returns-else-x-top
unfolding of_bits
returns-2 c =
    let a = c.before.before.before in
    over a.args.top a.args.x _ (value a.args.top a.requires) c.before.before.if-x.true c.if-x-top.false

returns-3 : tie.Need-returns-else-x
unfolding of_bits
returns-3 c = low c.before.args.top c.before.args.x c.if-x.false

pub cut_to_spec : {M : Type 1} → statement M
cut_to_spec =
    tie.close (tie.spec int-to-float-if2 (λ c κs. search rules) cast-result returns returns-2 returns-3)
