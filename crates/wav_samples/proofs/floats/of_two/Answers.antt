-- `wav_samples::floats::of_two` meets its contract: the blocks, then the samples behind the last block. Assumes
-- nothing.
use mathlib.Core.Path.{◌≡◌, refl, ◌∙◌}
use Prim.Native.Nat.{ℕ, ◌+◌, ◌-◌, ◌*◌, ◌/◌, ◌≤◌}
use native.Mathlib.Omega.{arith}
use lib.ListN.{length}
use lib.Ieee.{binary64}
use Rattle.loop_laws.proofs.Rows.{length_part}
use Rattle.loop_laws.proofs.Writing.{unwritten}
use Rattle.sample_kind.specs.declared.SampleKind.TheVariants.{Float32}
use Rattle.wav_samples.specs.Samples.{sample_of}
use Rattle.wav_samples.proofs.Blocks.{shifted, block_written, last_written}
use Rattle.wav_samples.proofs.floats.of_two.Goals as goal

pub loop-b-init : goal.loop-b-init
loop-b-init c = unwritten

pub loop-b-preserved : goal.loop-b-preserved
loop-b-preserved c =
    let s = c.args in
    let l = c.loop-b in
    let k = l.b * 49 in
    let room : k + 49 ≤ length l.out = omega (arith, l.invariant.long, c.loop-b-test.true) in
    let e : (l.b + 1) * 49 ≡ k + 49 = omega arith in
    rw e
    (block_written l.invariant 49 _ room
    (c.block_of_two.ensures
    ∙ shifted (sample_of binary64 Float32 s.part.now) 8 s.first k _ 49
    (length_part l.out k (k + 49 - k) 49 (omega arith) room))
    (k + 49 - k) (omega arith))

pub returns : goal.returns
returns c =
    let s = c.args in
    let l = c.loop-b in
    let k : ℕ = length s.out.now / 49 * 49 in
    let e : l.b * 49 ≡ k = omega arith in
    let h = rw e at l.invariant in
    let w = length l.out - k in
    let r : k + w ≤ length l.out = omega (arith, h.most) in
    last_written h w _ r
    (c.tested.ensures
    ∙ shifted (sample_of binary64 Float32 s.part.now) 8 s.first k _ w (length_part l.out k w w refl r))
    _ refl (omega (arith, h.most))
