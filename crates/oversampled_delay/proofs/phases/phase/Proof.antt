-- `oversampled_delay::phases::phase` meets its contract, by the law about one phase. Assumes nothing.
use Rattle.std.proofs.Common.{◌≡◌, ◌+◌, mul-le-mul_right, arith, rules}
use Rattle.high_delay.specs.Between.{high_delay}
use Rattle.kernels.specs.Kernels.{read_by}
use Rattle.oversampled_delay.specs.Phases.{turn_of, high_of}
use Rattle.oversampled_delay.proofs.Steps.{delay-is, one-phase}
use Rattle.oversampled_delay.proofs.phases.phase.Statement.{statement}
use Rattle.oversampled_delay.proofs.phases.phase.Tie as tie

abbrev begun : tie.After-step-s → tie.Start
begun s = s.before.before.before.before.before.before.before.before.before

add-phase-delay : tie.Need-overflow_add-k
add-phase-delay c = let p = c.before.before.before.before.before.requires in omega (arith, p.1, p.0.few)

phase-delay-requires : tie.Need-phase_delay-y-requires
phase-delay-requires c κs = let p = c.before.before.before.before.before.requires in omega (arith, p.1, p.0.few)

-- The phase's delay, as it is defined.
delayed : (c : tie.After-phase_delay-y) → let a = c.before.before.before.before.before.before.args in
    c.phase_delay-y.result ≡ high_delay a.from a.delay (a.k + 1) a.state.factor
delayed c =
    let b = c.before.before.before.before.before.before in
    let a = b.args in
    delay-is a.from a.delay (a.k + 1) a.state.factor b.requires.2 c.phase_delay-y.ensures

mul-t17 : tie.Need-overflow_mul-factor
mul-t17 c = omega (arith, c.before.before.before.before.before.before.before.requires.0.small)

step-requires : tie.Need-step-s-requires
step-requires c κs = let y = c.before.before in rw (delayed y) y.before.before.before.before.before.before.requires.4

mul-push : tie.Need-overflow_mul-factor-2
mul-push c =
    let b = begun c.before.before.before.before in
    let r = b.requires.0 in
    omega (arith, mul-le-mul_right b.args.state.accepted r.few, r.room)

add_push : tie.Need-overflow_add-factor
add_push c =
    let b = begun c.before.before.before.before in
    let r = b.requires.0 in
    omega (arith, mul-le-mul_right b.args.state.accepted r.few, r.room, r.few, b.requires.1)

returns : tie.Need-returns
returns c =
    let p = c.before.before in
    let s = p.before.before.before.before.before in
    let y = s.before.before.before in
    let a = (begun s).args in
    one-phase
    (turn_of (read_by a.kernel a.table.now) a.state a.coefficients.now a.up.now a.from a.delay)
    a.k (high_of a.inner a.down.now a.ring.now) (begun s).requires.3 (begun s).requires.2 (delayed y)
    s.step-s.ensures.0 s.step-s.ensures.1 p.push.ensures

pub phase_spec : {M : Type 1} → statement M
phase_spec =
    tie.close (tie.spec add-phase-delay phase-delay-requires mul-t17 step-requires mul-push add_push
    (λ c κs. search rules) (λ c. search rules) (λ c. search rules) returns)
