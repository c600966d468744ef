-- `bank_choice::rates::ceiling` meets its contract, by the two tests and the laws of `Ceilings`; the number that is
-- cast is small. Assumes nothing.
use Rattle.std.proofs.Common.{
  ◌≡◌,
  ℕ,
  ◌≤◌,
  Bool,
  true,
  false,
  T,
  ℤ,
  pos,
  nat_abs,
  sym,
  ap,
  ◌∙◌,
  subst,
  le_trans,
  arith,
  lit≤,
  w64,
  Fits,
  to_z,
  of_z,
  rules,
}
use lib.Signed.{non_neg}
use lib.Ieee.{lt, binary64, of_bits, of_int, to_unsigned}
use mir.ValLaws.{to_z-of_z}
use Rattle.integer_part.proofs.FloorInside.{in-float}
use Rattle.bank_choice.specs.Rates.{num}
use Rattle.bank_choice.proofs.Ceilings as ceilings
use Rattle.bank_choice.proofs.rates.ceiling.Statement.{statement}
use Rattle.bank_choice.proofs.rates.ceiling.Tie as tie

above : (c : tie.Then-x) → ceilings.Inside c.before.args.x
unfolding of_bits
above c = ceilings.inside c.before.args.x c.before.requires c.if-x.true

-- The floor, as the code holds it: it is the cut, which is small.
word : (c : tie.After-floor-t) → to_z w64 (of_z w64 c.floor-t.result) ≡ pos (to_unsigned 64 c.before.before.args.x)
word c =
    to_z-of_z w64 c.floor-t.result (record { sfits = c.floor-t.type_inv })
    ∙ c.floor-t.ensures
    ∙ ceilings.floor-is _ (above c.before)

cast_t : tie.Need-overflow_cast-t
cast_t c =
    subst (λ (z : ℤ). T (non_neg z) × Fits w64 (nat_abs z)) (sym (word c))
    (tt, record { fits = omega (arith, ceilings.cut_small c.before.before.args.x (above c.before)) })

abbrev cut : tie.After-floor-t → ℕ
cut c = nat_abs (to_z w64 (of_z w64 c.floor-t.result))

cut-is : (c : tie.After-floor-t) → cut c ≡ to_unsigned 64 c.before.before.args.x
cut-is c = ap nat_abs (word c)

few : (c : tie.After-floor-t) → cut c ≤ 50
few c = rw (cut-is c) (ceilings.cut_small c.before.before.args.x (above c.before))

cast-if2 : tie.Need-overflow_cast-t-then-x
cast-if2 c = record { sfits = omega (arith, few c) }

again : (c : tie.After-floor-t) → to_z w64 (cut c) ≡ pos (cut c)
again c = to_z-of_z w64 (pos (cut c)) (cast-if2 c)

int-to-float-if2 : tie.Need-int_to_float-t
int-to-float-if2 c = rw (again c.before) (in-float (pos (cut c.before)) (le_trans (few c.before) (lit≤ tt)))

tested : (c : tie.After-floor-t) (b : Bool) → let x = c.before.before.args.x in
    lt (of_int binary64 (to_z w64 (cut c))) x ≡ b → lt (num (to_unsigned 64 x)) x ≡ b
tested c b h = rw (again c, cut-is c) at h

add-result : tie.Need-overflow_add-result
add-result c = omega (arith, few c.before.before)

returns : tie.Need-returns-then-t-x
returns c =
    let f = c.before.before in rw (cut-is f) (ceilings.stepped _ (above f.before) (tested f true c.if-t-x.true))

returns-2 : tie.Need-returns-then-x
returns-2 c =
    let f = c.before.before in rw (cut-is f) (ceilings.stayed _ (above f.before) (tested f false c.if-t-x.false))

returns-3 : tie.Need-returns
unfolding of_bits
returns-3 c = ceilings.low c.before.args.x c.before.requires c.if-x.false

pub ceiling_spec : {M : Type 1} → statement M
ceiling_spec =
    tie.close (tie.spec (λ c κs. search rules) cast_t cast-if2 int-to-float-if2 add-result returns returns-2 returns-3)
