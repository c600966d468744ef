use Rattle.std.proofs.Common.{◌≡◌}
use Rattle.std.specs.Iterator.Adapters.{zip_first, zip_second}
use Rattle.std.specs.Slice.Iter.{chunks_rest, chunks_size}
use mathlib.Core.List.{foldl}
use Rattle.residual.specs.Report.{differences}
use Rattle.residual.specs.Tallies.{step_of, Ready}
use Rattle.residual.proofs.steps.stretched.Given as goal

abbrev pub invariant-loop-x : goal.invariant-loop-x
invariant-loop-x l = record {
  first_size : chunks_size (zip_first l.x-iterator) ≡ 256;
  second_size : chunks_size (zip_second l.x-iterator) ≡ 256;
  ready : Ready l.now (chunks_rest (zip_first l.x-iterator)) (chunks_rest (zip_second l.x-iterator));
  left :
      foldl step_of l.now
      (differences (chunks_rest (zip_first l.x-iterator)) (chunks_rest (zip_second l.x-iterator)))
      ≡ foldl step_of l.initial.now (differences l.a l.b);
}
