-- `variable_delay::accept` meets its contract. If every test passed, it stores at the sample's place, which the mask of
-- a power of two gives; otherwise it refuses. Assumes nothing.
use borrow.Author.Rules.{rules, scaled_Fits}
use mathlib.Core.Path.{◌≡◌, sym, ap, ◌∙◌}
use mathlib.Core.Bool.{true≢false}
use Prim.Native.Nat.{ℕ, ◌-◌, ◌%◌, ◌<◌}
use native.Mathlib.Nat.{mod-lt}
use native.Mathlib.Omega.{arith}
use denote.Floats.{passes}
use lib.Bits.{bit_and}
use lib.Dec.{eqb, eqb→eq}
use lib.IntN.{pos}
use lib.ListN.{length}
use lib.Ieee.{of_bits}
use mir.Syntax.{w64}
use mir.Val.{to_z}
use mir.ValLaws.{to_z-of_z}
use Rattle.integer_part.proofs.FloorInside.{in-float}
use Rattle.ring.proofs.Lengths.{masked}
use Rattle.variable_delay.specs.Reader.{verdict}
use Rattle.variable_delay.proofs.Settings.{due-is}
use Rattle.variable_delay.proofs.AcceptedCall.{Taken, taken, ring-some}
use Rattle.variable_delay.proofs.Refused.{not-accepted, same-ring}
use Rattle.variable_delay.proofs.accept.Statement.{statement}
use Rattle.variable_delay.proofs.accept.Tie as tie

-- The refusal, and whether there is none, as the code has them.
abbrev Verdict : tie.After-passes → ℕ
Verdict c =
    let a = c.before.before.before.args in
    verdict a.own a.lent a.state (length a.ring.now) a.input a.delay

tests : (c : tie.After-passes) → c.passes.result ≡ eqb (Verdict c) 0
tests c =
    let a = c.before.before.before.args in
    c.passes.ensures
    ∙ ap (λ (v : ℕ). eqb v 0)
    (due-is a.own a.lent a.state (length a.ring.now) a.input a.delay
    c.before.length_for-needed.ensures)

none : (c : tie.Then-passes) → Verdict c.before ≡ 0
none c = eqb→eq (Verdict c.before) 0 (passes _ (sym (tests c.before) ∙ c.if-passes.true))

passed : (c : tie.Then-passes) → let a = c.before.before.before.before.args in
    Taken a.own a.lent a.state (length a.ring.now) a.input a.delay
passed c = taken _ _ _ _ _ _ (none c)

place : (c : tie.Then-passes) → let a = c.before.before.before.before.args in
    bit_and a.state.accepted (length a.ring.now - 1) ≡ a.state.accepted % length a.ring.now
place c =
    let a = c.before.before.before.before.args in
    rw (passed c).long (masked a.state.maximum a.state.margin a.state.accepted)

inside : (c : tie.Then-passes) → let a = c.before.before.before.before.args in
    bit_and a.state.accepted (length a.ring.now - 1) < length a.ring.now
inside c = rw (place c) (mod-lt _ (ring-some (passed c)))

sub_at : tie.Need-overflow_sub-at
sub_at c = ring-some (passed c)

mul-ring : tie.Need-offset_bounds-ring-at
mul-ring c = scaled_Fits _ _ 8 (inside c) c.before.before.before.before.well_formed.1.1.1.0.1

slice-write-ring : tie.Need-bounds-ring-at
slice-write-ring c = inside c

add-t12 : tie.Need-overflow_add-result
add-t12 c = omega (arith, (passed c).room)

-- The count is small, so both casts are exact.
cast-t17 : tie.Need-overflow_cast-result
cast-t17 c = record { sfits = omega (arith, (passed c).room) }

count-is : (c : tie.After-row_known-1) → let n = c.before.before.before.before.before.args.state.accepted in
    to_z w64 n ≡ pos n
count-is c = to_z-of_z w64 (pos _) (cast-t17 c.before)

int-to-float-t18 : tie.Need-int_to_float-result
int-to-float-t18 c =
    let n = c.before.before.before.before.before.args.state.accepted in
    rw (count-is c) (in-float (pos n) (omega (arith, (passed c.before).room)))

returns : tie.Need-returns-then-passes
returns c = let t = c.before in (rw (none t, count-is c), rw (none t, place t))

returns-2 : tie.Need-returns
unfolding of_bits
returns-2 c =
    let t = c.before.before in
    let a = t.before.before.before.args in
    let e =
    c.due.ensures
    ∙ due-is a.own a.lent a.state (length a.ring.now) a.input a.delay
    t.before.length_for-needed.ensures in
    let some : c.due.result ≡ 0 → ⊥ =
    λ z. true≢false (sym (ap (λ (v : ℕ). eqb v 0) (sym e ∙ z)) ∙ sym (tests t) ∙ c.before.if-passes.false) in
    (not-accepted _ e some _ _, same-ring _ e some _ _ _)

pub accept_spec : {M : Type 1} → statement M
accept_spec =
    tie.close (tie.spec (λ c κs. search rules) (λ c κs. search rules) sub_at mul-ring slice-write-ring add-t12 cast-t17
    int-to-float-t18 (λ c. search rules) returns (λ c κs. search rules) returns-2)
