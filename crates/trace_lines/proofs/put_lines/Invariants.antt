use mathlib.Core.Path.{◌≡◌}
use Prim.Native.Nat.{◌≤◌}
use lib.ListN.{length}
use Rattle.std.specs.Slice.Iter.{chunks_exact_rest, chunks_exact_size}
use Rattle.trace_lines.specs.Lines.{samples_in}
use Rattle.trace_lines.proofs.Blocks.{come}
use Rattle.trace_lines.proofs.put_lines.Given as goal

abbrev pub invariant-loop-sample : goal.invariant-loop-sample
invariant-loop-sample l =
    (chunks_exact_size l.sample-iterator ≡ 8) × (l.to ≤ length l.out)
    × (come (record { state = l.initial.s; ring = l.initial.ring }) l.initial.out 0 (samples_in l.block)
    ≡ come (record { state = l.s; ring = l.ring }) l.out l.to (samples_in (chunks_exact_rest l.sample-iterator)))
