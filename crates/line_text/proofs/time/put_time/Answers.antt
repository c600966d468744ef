-- `line_text::put_time` meets its contract: whole seconds and the remainder make the thousandths. Assumes nothing.
use borrow.Author.Tests.{eq-eqb, ne_eqb}
use Prim.Native.Nat.{◌%◌, ◌<◌}
use native.Mathlib.Nat.{mod-lt}
use native.Mathlib.Omega.{arith}
use Rattle.text.specs.Text.{ascii}
use Rattle.line_text.proofs.Thousandths.{whole-seconds, left_over}
use Rattle.line_text.proofs.time.put_time.Goals as goal

pub returns-then-rate-eq0 : goal.returns-then-rate-eq0
unfolding ascii
returns-then-rate-eq0 c =
    rw (eq-eqb c.args.rate 0 c.if-rate-eq0.true) c.put.ensures

pub overflow_mul-frames : goal.overflow_mul-frames
overflow_mul-frames c =
    let a = c.args in
    let h : a.frames % a.rate < a.rate = mod-lt a.frames (omega arith) in
    omega arith

pub returns : goal.returns
returns c =
    let a = c.args in
    let some : 0 < a.rate = omega arith in
    rw (
      ne_eqb a.rate 0 c.if-rate-eq0.false,
      ← whole-seconds a.frames a.rate some,
      ← left_over a.frames a.rate some,
    ) c.put_clock.ensures
