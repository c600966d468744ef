-- `long_wav::heads::heads_of` meets its contract, by the laws of a walk over the lent heads. Assumes nothing.
use mathlib.Core.Path.{refl}
use native.Mathlib.Omega.{arith}
use Rattle.riff_chunks.specs.Walk.{riff_sought}
use Rattle.riff_chunks.proofs.ByTurns.{fewer, on-ended}
use Rattle.long_wav.specs.Reading.{chunk_in}
use Rattle.long_wav.proofs.AtHand.{from_start, one_more, stopped, ended}
use Rattle.long_wav.proofs.heads.heads_of.Goals as goal

pub loop-walking-init : goal.loop-walking-init
loop-walking-init c =
    rw c.begin-walking.ensures (from_start c.args.prefix.now c.args.end)

pub overflow_sub-at : goal.overflow_sub-at
overflow_sub-at c = c.loop-walking.invariant.on.inside

pub overflow_add-at : goal.overflow_add-at
overflow_add-at c =
    omega (arith, c.ranges.end, c.loop-walking.invariant.on.inside, c.loop-walking-test.true)

pub overflow_add-result : goal.overflow_add-result
overflow_add-result c =
    omega (arith, c.ranges.end, c.loop-walking.invariant.on.inside, c.loop-walking-test.true)

pub returns-then-prefix-at : goal.returns-then-prefix-at
returns-then-prefix-at c =
    record {
      asked_value = stopped c.args.prefix.now c.args.end c.loop-walking.walking c.loop-walking.invariant
          c.loop-walking-test.true
          c.if-prefix-at.true;
      seen_value = λ z. absurd (omega (arith, z));
    }

pub chunk_at-c-requires : goal.chunk_at-c-requires
chunk_at-c-requires c =
    omega (arith, c.ranges.end, c.loop-walking.invariant.on.inside, c.loop-walking-test.true)

pub loop-walking-smaller : goal.loop-walking-smaller
loop-walking-smaller c =
    rw c.turn-walking.ensures
    (fewer c.riff_sought-sought.result c.loop-walking.walking c.chunk_at-c.result c.loop-walking-test.true)

pub loop-walking-preserved : goal.loop-walking-preserved
loop-walking-preserved c =
    rw (c.turn-walking.ensures, c.riff_sought-sought.ensures)
    (one_more c.args.prefix.now c.args.end c.loop-walking.walking c.loop-walking.invariant
    c.chunk_at-c.result
    c.loop-walking-test.true c.if-prefix-at.false c.chunk_at-c.ensures)

pub returns : goal.returns
returns c =
    let b = c.args.prefix.now in record {
      asked_value = ended b c.args.end c.loop-walking.walking c.loop-walking.invariant c.loop-walking-test.false;
      seen_value = λ z. on-ended riff_sought (chunk_in b) (λ at. refl) c.args.end c.loop-walking.walking
          c.loop-walking-test.false
          c.loop-walking.invariant.on;
    }
