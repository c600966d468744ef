-- `compared_frames::stretch_of` meets its contract, by whether the stretch has ended. Assumes nothing.
use borrow.Author.Tests.{le-leb, lt-leb}
use native.Mathlib.Omega.{arith}
use Rattle.compared_frames.specs.Compared.{stretch_of}
use Rattle.compared_frames.proofs.stretch_of.Goals as goal

pub returns-then-stretch_end-done : goal.returns-then-stretch_end-done
unfolding stretch_of
returns-then-stretch_end-done c =
    let e = c.stretch_end in
    rw (
      ← c.plus-next.ensures,
      ← e.ensures,
      le-leb e.result c.args.done c.if-stretch_end-done.true,
    )

pub returns : goal.returns
unfolding stretch_of
returns c =
    let e = c.stretch_end in
    rw (
      ← c.plus-next.ensures,
      ← e.ensures,
      lt-leb e.result c.args.done (omega arith),
    )
