-- W10c. What the contracts of the exports that read step by step name: the state of a walk as six numbers. The place of
-- a chunk that was seen is above 0, because every file begins with its letters. Definitions only.
use Rattle.std.specs.Prelude.{ℕ, Bool, true, false, not, List, eqb}
use Rattle.riff_chunks.specs.declared.Spot.{Spot}
use Rattle.riff_chunks.specs.declared.Walked.{Walked}
use Rattle.riff_chunks.specs.declared.Walking.{Walking}
use Rattle.riff_chunks.specs.Walk.{begun}
use Rattle.wav_opening.specs.declared.Begun.{Begun}
use Rattle.long_turns.specs.Turns.{turned_by}

-- ---- the beginning: the refusal number that is returned, the end of the walk, and the bytes left before it
pub record Begins : Type 0 where
  pub refusal : ℕ
  pub end : ℕ
  pub left : ℕ

abbrev pub begins : ℕ → ℕ → ℕ → Begins
begins refusal end left = record { refusal = refusal; end = end; left = left }

abbrev pub begins_by : Begun → Begins
begins_by b = begins b.refusal b.end (begun b.end).left

-- ---- the state of a walk
pub record Walk : Type 0 where
  pub left : ℕ
  pub overruns : ℕ
  pub format : ℕ
  pub format_size : ℕ
  pub samples : ℕ
  pub samples_size : ℕ

abbrev pub walk : ℕ → ℕ → ℕ → ℕ → ℕ → ℕ → Walk
walk left overruns format format_size samples samples_size =
    record {
      left = left;
      overruns = overruns;
      format = format;
      format_size = format_size;
      samples = samples;
      samples_size = samples_size;
    }

abbrev pub spot_from : ℕ → ℕ → Spot
spot_from body size = record { found = not (eqb body 0); body = body; size = size }

abbrev pub seen_from : ℕ → ℕ → ℕ → ℕ → ℕ → Walked
seen_from overruns format format_size samples samples_size =
    record {
      overruns = not (eqb overruns 0);
      format = spot_from format format_size;
      samples = spot_from samples samples_size;
    }

abbrev pub walking_from : Walk → Walking
walking_from w =
    record {
      left = w.left;
      seen = seen_from w.overruns w.format w.format_size w.samples w.samples_size;
    }

abbrev pub flag : Bool → ℕ
flag true = 1
flag false = 0

abbrev pub walk_of : Walking → Walk
walk_of w =
    let seen = w.seen in
    walk w.left (flag seen.overruns) seen.format.body seen.format.size seen.samples.body
    seen.samples.size

-- The walk after one more chunk.
abbrev pub walk_after : List ℕ → ℕ → List ℕ → Walk → Walk
walk_after opening end head w = walk_of (turned_by opening (walking_from w) end head)
