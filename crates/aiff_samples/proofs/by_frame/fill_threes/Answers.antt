-- `aiff_samples::by_frame::fill_threes` meets its contract: the loop writes a list by a rule, each sample lies in the
-- part, and each but the last is followed by another byte. Assumes nothing.
use mathlib.Core.Path.{◌≡◌, ap, ◌∙◌}
use Prim.Native.Nat.{◌-◌}
use native.Mathlib.Omega.{arith}
use lib.ListN.{length, length-set}
use borrow.Author.Tests.{true-eqb, false-eqb}
use Rattle.loop_laws.proofs.Writing.{unwritten, written-more, all-written}
use Rattle.aiff_samples.proofs.by_frame.fill_threes.Goals as goal

pub loop-k-init : goal.loop-k-init
loop-k-init g c = λ means h. unwritten

pub loop-k-preserved : goal.loop-k-preserved
loop-k-preserved g c = λ means h.
    written-more (c.loop-k.invariant means h) (omega arith)
    (h _ _ (omega arith) c.value.ensures ∙ ap means c.three_of_four_at.ensures)

pub returns-then-is_empty : goal.returns-then-is_empty
returns-then-is_empty g c = λ means h.
    let none : length c.args.out.now ≡ 0 = true-eqb _ 0 c.if-is_empty.ensures in
    all-written unwritten (omega arith)

pub returns : goal.returns
returns g c = λ means h.
    let some : length c.args.out.now ≡ 0 → ⊥ = false-eqb _ 0 c.if-is_empty.ensures in
    let e : c.loop-k.k ≡ length c.args.out.now - 1 = omega arith in
    let w = rw e at (c.loop-k.invariant means h) in
    all-written (written-more w (omega arith)
    (h _ _ (omega arith) c.value-2.ensures ∙ ap means c.three_at.ensures))
    (simp length-set (omega arith))
