-- `trace_lines::put_lines` meets its contract. The loop's invariant: from the reader, the place and the bytes as they
-- are now, the samples in the bytes that are left lead to what the whole block leads to. Assumes nothing.
use mathlib.Core.Path.{refl, sym, ◌∙◌, ap}
use native.Mathlib.Omega.{arith}
use lib.Ieee.{binary64, le, of_bits}
use Rattle.std.specs.Slice.Iter.{chunks_exact_rest, chunks_exact_size}
use Rattle.runs.specs.Runs.{Reader}
use Rattle.trace_lines.proofs.Blocks.{next-sample, no_more, turn, ended}
use Rattle.trace_lines.proofs.put_lines.Goals as goal

pub loop-sample-init : goal.loop-sample-init
loop-sample-init c =
    let same = c.into_iter-sample-iterator.ensures.into_iter_gives in
    let chunks = c.chunks_exact-sample-items.ensures in
    let whole = ap chunks_exact_rest same ∙ chunks.rest in
    (omega (arith, ap chunks_exact_size same, chunks.size), omega arith, rw whole refl)

pub loop-sample-preserved : goal.loop-sample-preserved
unfolding le of_bits
loop-sample-preserved c =
    let l = c.loop-sample in
    let r : Reader = record { state = l.s; ring = l.ring } in
    let steps = c.in-Some.ensures.steps in
    let p = c.put_line-to in
    let x = c.float_of-x.ensures ∙ ap (of_bits binary64) c.low_first.ensures in
    let n = next-sample c.in-Some.sample.now _ steps.1.0 (steps.1.1 ∙ l.invariant.0) x in
    let e = c.process_sample-r.ensures in
    let t = turn r l.out l.to n e.value e.ring_after p.ensures in
    (steps.0 ∙ l.invariant.0, omega (arith, p.ensures.value), l.invariant.2 ∙ t)

pub returns : goal.returns
returns c =
    let l = c.loop-sample in
    let r : Reader = record { state = l.s; ring = l.ring } in
    let none = no_more _ (omega (arith, c.in-None.ensures.steps.1.0)) in
    let e = sym (l.invariant.2 ∙ ended r l.out l.to none (omega arith)) in
    record {
      state_value = ap (λ z. z.reader.state) e;
      length_value = ap (λ z. z.place) e;
      ring_after = ap (λ z. z.reader.ring) e;
      out_after = ap (λ z. z.bytes) e;
    }
