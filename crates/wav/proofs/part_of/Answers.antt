-- `wav::part_of` meets its contract: past the end there is nothing to take, and near the end no more than is there.
-- Assumes nothing.
use mathlib.Core.Path.{sym, ◌∙◌}
use Prim.Native.Nat.{◌-◌, ◌≤◌}
use native.Mathlib.Nat.{add-sub_cancel_left}
use native.Mathlib.Omega.{arith}
use lib.ListN.{length, drop, length-drop, drop_of_length-le}
use lib.Seq.{take_all, take-nil}
use Rattle.wav.proofs.part_of.Goals as goal

pub returns-then-s-start : goal.returns-then-s-start
returns-then-s-start c =
    rw (drop_of_length-le c.args.s.now c.if-s-start.true) (sym (take-nil c.args.size))

pub returns-then-size-s : goal.returns-then-size-s
returns-then-size-s c = rw add-sub_cancel_left

pub returns : goal.returns
returns c =
    let s = c.args.s.now in
    let at = c.args.start in
    let a : length (drop at s) ≤ length s - at = omega (arith, length-drop at s) in
    let b : length (drop at s) ≤ c.args.size = omega (arith, length-drop at s) in
    take_all _ (drop at s) a ∙ sym (take_all _ (drop at s) b)
