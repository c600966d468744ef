-- `report_lines::times::put_length` meets its contract, by whether the rate is 0; the remainder is below the rate.
-- Assumes nothing.
use native.Mathlib.Nat.{mod-lt, pos_of_ne-zero}
use native.Mathlib.Omega.{arith}
use borrow.Author.Tests.{eq-eqb, ne_eqb}
use Rattle.text.specs.Text.{ascii}
use Rattle.report_lines.specs.Times.{length_text}
use Rattle.report_lines.proofs.times.put_length.Goals as goal

pub overflow_mul-frames : goal.overflow_mul-frames
overflow_mul-frames c =
    let rest = mod-lt c.args.frames {m = c.args.rate} (pos_of_ne-zero c.if-speed-eq0.false) in
    omega (arith, c.ranges.rate.fits)

pub returns-then-speed-eq0 : goal.returns-then-speed-eq0
unfolding ascii length_text
returns-then-speed-eq0 c =
    let s = c.args in
    rw (eq-eqb s.rate 0 c.if-speed-eq0.true) c.put.ensures

pub returns : goal.returns
unfolding length_text
returns c =
    let s = c.args in
    rw (ne_eqb s.rate 0 c.if-speed-eq0.false) c.put_clock.ensures
