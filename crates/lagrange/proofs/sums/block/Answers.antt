-- `lagrange::sums::block` meets its contract, by either way of reading the taps. Assumes nothing.
use mathlib.Core.Path.{◌≡◌, refl, ◌∙◌, ap, subst}
use Prim.Native.Nat.{ℕ, ◌+◌, ◌*◌}
use native.Mathlib.Omega.{arith}
use lib.IntN.{pos, ◌+ℤ◌}
use lib.ListN.{get_or}
use lib.Ieee.{nan}
use mir.Syntax.{w64}
use mir.ValLaws.{to_z-of_z}
use Rattle.loop_laws.specs.Loops.{fold}
use Rattle.ring.specs.Taps.{tap_of}
use Rattle.lagrange.specs.Kernel.{turn_of, zero-f}
use Rattle.lagrange.specs.Eights.{SideBySide}
use Rattle.lagrange.proofs.Blocks.{next}
use Rattle.lagrange.proofs.sums.block.Goals as goal
use Rattle.lagrange.proofs.sums.block.Goals.{Then-s}

-- The taps stand side by side.
beside : (c : Then-s) → let a = c.args in
    SideBySide a.source.now a.count a.base (2 * a.pairs) a.s.place
beside c = c.requires.3 c.if-s.true

pub overflow_add-p : goal.overflow_add-p
overflow_add-p c = let b = beside c in omega (arith, b.fits)

pub run-requires : goal.run-requires
run-requires c = let b = beside c in let n = c.min-n.ensures in (omega (arith, b.fits), omega arith)

pub returns-then-s : goal.returns-then-s
returns-then-s c =
    let a = c.args in
    let b = beside (goal.at.returns-then-s c).Then-s in
    let n = c.min-n.ensures in
    subst (λ (n : ℕ). c.run.result
    ≡ fold (turn_of a.source.now a.count a.base a.local (2 * a.pairs)) zero-f n) (omega arith)
    (next a.source.now a.count a.base a.local (2 * a.pairs) (2 * a.f) (2 * c.min-n.result)
    (omega arith) c.weights-w.result c.weights-w.ensures
    (λ k. get_or a.source.now (a.s.place + 2 * a.f + k) nan)
    (λ k l. ap (λ (i : ℕ). get_or a.source.now i nan) (omega arith) ∙ b.tap (2 * a.f + k) (omega arith))
    c.requires.4 c.run.ensures)

pub returns : goal.returns
returns c =
    let a = c.args in
    let n = c.min-n.ensures in
    subst (λ (n : ℕ). c.one_by_one.result
    ≡ fold (turn_of a.source.now a.count a.base a.local (2 * a.pairs)) zero-f n) (omega arith)
    (next a.source.now a.count a.base a.local (2 * a.pairs) (2 * a.f) (2 * c.min-n.result)
    (omega arith) c.weights-w.result c.weights-w.ensures
    (λ k. tap_of a.source.now a.count (a.base +ℤ pos (2 * a.f + k))) (λ k l. refl) c.requires.4
    (simp (to_z-of_z w64 a.base c.ranges.base) at c.one_by_one.ensures))
