-- Which frames of two files are compared. Definitions only.
use Rattle.std.specs.Prelude.{ℕ, ◌+◌, ◌-◌, ◌*◌, ◌/◌, min, cond, ◌&&◌, eqb, ltb, leb, Option, Some, None}
use Rattle.sizes.specs.Sizes.{most}
use Rattle.compared_frames.specs.declared.Extent.{Extent}

-- The number of frames that the settings ask for, but no more than both files have.
abbrev pub asked_of : Option ℕ → ℕ → ℕ
asked_of None both = both
asked_of (Some n) both = min n both

abbrev pub count_of : ℕ → ℕ → Option ℕ → ℕ
count_of one two frames = asked_of frames (min one two)

abbrev pub span_by : ℕ → ℕ → ℕ → ℕ → ℕ → Extent
span_by first second one two n = record {
  first = first;
  second = second;
  frames = n;
  first_left = one - n;
  second_left = two - n;
}

-- The extent for files of a and b frames, after the frames that are skipped in each.
abbrev pub span_of : ℕ → ℕ → ℕ → ℕ → Option ℕ → Extent
span_of a b first second frames =
    span_by first second (a - first) (b - second) (count_of (a - first) (b - second) frames)

-- The place where stretch k of n equal ones ends, k counted from 1. It is the end of all frames for the last stretch,
-- and where n is not 1 to 1000.
unfoldable pub end_of : ℕ → ℕ → ℕ → ℕ
end_of frames n k = cond (ltb k n && leb n 1000) (k * frames / n) frames

-- The number of the stretch after k, counted from 0.
abbrev pub next_of : ℕ → ℕ
next_of k = min (k + 1) most

unfoldable pub stretch_of : ℕ → ℕ → ℕ → ℕ → ℕ
stretch_of frames n k done = cond (leb (end_of frames n (next_of k)) done) (next_of k) k

-- A block has at most 4096 frames, and at least one, so that a run always ends.
unfoldable pub block_of : ℕ → ℕ
block_of left = cond (eqb left 0) 1 (min left 4096)
