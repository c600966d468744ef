-- `replay_lines::table_part` meets its contract: in range the length is below 2 ^ 20. Assumes nothing.
use borrow.Author.Tests.{le-leb, lt-leb}
use Prim.Native.Nat.{ℕ, ◌+◌, ◌*◌, ◌^◌, ◌≤◌}
use native.Mathlib.Nat.{le_refl, mul-le-mul}
use native.Mathlib.Omega.{arith}
use Rattle.replay_lines.proofs.table_part.Goals as goal

short : (taps phases : ℕ) → taps ≤ 128 → phases ≤ 4096 → (phases + 1) * taps ≤ 2 ^ 20
short taps phases t p = let l : phases + 1 ≤ 4097 = omega (arith, p) in omega (arith, mul-le-mul l t)

pub returns-then-taps-gt128 : goal.returns-then-taps-gt128
returns-then-taps-gt128 c = record {
  value = rw (lt-leb c.args.taps 128 (omega (arith, c.if-taps-gt128.true)));
  upper_bound = le_refl _;
}

pub returns-then-phases-gt4096 : goal.returns-then-phases-gt4096
returns-then-phases-gt4096 c =
    let a = c.args in record {
      value = rw (
        le-leb a.taps 128 (omega (arith, c.if-taps-gt128.false)),
        lt-leb a.phases 4096 (omega (arith, c.if-phases-gt4096.true)),
      );
      upper_bound = le_refl _;
    }

pub overflow_mul-phases : goal.overflow_mul-phases
overflow_mul-phases c =
    let a = c.args in
    omega (
      arith,
      short a.taps a.phases (omega (arith, c.if-taps-gt128.false)) (omega (
        arith,
        c.if-phases-gt4096.false,
      )),
    )

pub returns : goal.returns
returns c =
    let a = c.args in record {
      value = rw (
        le-leb a.taps 128 (omega (arith, c.if-taps-gt128.false)),
        le-leb a.phases 4096 (omega (arith, c.if-phases-gt4096.false)),
      ) c.within.ensures.value;
      upper_bound = c.within.ensures.upper_bound;
    }
