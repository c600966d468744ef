-- `oversampled_delay::inside::step` meets its contract: a finite sample is accepted, so it is stored at its place,
-- which the mask of a power of two gives, and read behind; any other is refused by 4. Assumes nothing.
use Rattle.std.proofs.Common.{◌≡◌, ℕ, ◌-◌, ◌%◌, ◌<◌, Bool, true, false, cond, length, pos, sym, ap, ◌∙◌, mod-lt, arith}
use Rattle.std.proofs.Common.{w64, to_z}
use borrow.Author.Rules.{scaled_Fits}
use lib.Bits.{bit_and}
use lib.Ieee.{of_bits}
use mir.ValLaws.{to_z-of_z}
use Rattle.integer_part.proofs.FloorInside.{in-float}
use Rattle.ring.proofs.Lengths.{masked}
use Rattle.variable_delay.specs.Reader.{verdict}
use Rattle.variable_delay.proofs.AcceptedCall.{Taken, taken, ring-some}
use Rattle.oversampled_delay.proofs.inside.step.Goals as goal
use Rattle.oversampled_delay.proofs.inside.step.Goals.{After-is_finite, Then-is_finite}

abbrev Verdict : After-is_finite → ℕ
Verdict c =
    let a = c.args in
    verdict true true a.state (length a.ring.now) a.input a.delay

-- The verdict, by what the test of the sample gave.
due-by : (c : After-is_finite) (b : Bool) → c.is_finite.result ≡ b → Verdict c ≡ cond b 0 4
due-by c b e =
    c.requires.due c.args.input ∙ ap (λ (t : Bool). cond t 0 4) (sym c.is_finite.ensures ∙ e)

none : (c : Then-is_finite) → Verdict (goal.at.Then-is_finite c).After-is_finite ≡ 0
none c = due-by (goal.at.Then-is_finite c).After-is_finite true c.if-is_finite.true

passed : (c : Then-is_finite) → let a = c.args in
    Taken true true a.state (length a.ring.now) a.input a.delay
passed c = taken _ _ _ _ _ _ (none c)

place : (c : Then-is_finite) → let a = c.args in
    bit_and a.state.accepted (length a.ring.now - 1) ≡ a.state.accepted % length a.ring.now
place c =
    let a = c.args in
    rw (passed c).long (masked a.state.maximum a.state.margin a.state.accepted)

held : (c : Then-is_finite) → let a = c.args in
    bit_and a.state.accepted (length a.ring.now - 1) < length a.ring.now
held c = rw (place c) (mod-lt _ (ring-some (passed c)))

pub overflow_sub-at : goal.overflow_sub-at
overflow_sub-at c = ring-some (passed c)

pub offset_bounds-ring-at : goal.offset_bounds-ring-at
offset_bounds-ring-at c = scaled_Fits _ _ 8 (held c) c.well_formed.1.1.1.0.1

pub bounds-ring-at : goal.bounds-ring-at
bounds-ring-at c = held c

pub overflow_add-i : goal.overflow_add-i
overflow_add-i c = omega (arith, (passed (goal.at.overflow_add-i c).Then-is_finite).room)

-- The count is small, so both casts are exact.
pub overflow_cast-i : goal.overflow_cast-i
overflow_cast-i c = record { sfits = omega (arith, (passed (goal.at.overflow_cast-i c).Then-is_finite).room) }

count-is : (c : Then-is_finite) → let n = c.args.state.accepted in
    to_z w64 n ≡ pos n
count-is c = to_z-of_z w64 (pos _) (record { sfits = omega (arith, (passed c).room) })

pub int_to_float-i : goal.int_to_float-i
int_to_float-i c =
    let n = c.args.state.accepted in
    rw (count-is (goal.at.int_to_float-i c).Then-is_finite)
    (in-float (pos n) (omega (arith, (passed (goal.at.int_to_float-i c).Then-is_finite).room)))

pub overflow_add-result : goal.overflow_add-result
overflow_add-result c = omega (arith, (passed (goal.at.overflow_add-result c).Then-is_finite).room)

pub returns-then-is_finite : goal.returns-then-is_finite
returns-then-is_finite c =
    let t = (goal.at.returns-then-is_finite c).Then-is_finite in
    record { value = rw (c.read-y.ensures, none t, count-is t, place t); ring_after = rw (none t, place t) }

pub returns : goal.returns
unfolding of_bits
returns c =
    let four = due-by (goal.at.returns c).After-is_finite false c.if-is_finite.false in
    record { value = rw four; ring_after = rw four }
