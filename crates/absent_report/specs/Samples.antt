-- W7. How many samples read absent taps, of each kind, and where the last of them stands. It is counted over
-- absent_taps' definition at the positions read. Definitions only.
use Rattle.std.specs.Prelude.{ℕ, suc, ◌+◌, ◌-◌, min, max, cond, List, [], ◌∷◌, length, take, ◌==◌, Float}
use Rattle.constants.specs.Numbers.{limit}
use Rattle.ring.specs.Length.{zeros}
use Rattle.variable_delay.specs.Reader.{position_of}
use Rattle.absent_taps.specs.declared.Absent.{Absent}
use Rattle.absent_taps.specs.Absent.{absent_at}
use Rattle.sizes.specs.Sizes.{most}
use Rattle.absent_report.specs.declared.AbsentReport.{AbsentReport}

-- The absent taps among the 32 that the sample of frame i reads at its delay, from a ring of length len. The sample
-- itself is accepted then.
abbrev pub absent_in : ℕ → ℕ → Float → Absent
absent_in len i y = absent_at (zeros len) (i + 1) (position_of i y) 32

-- A kind of absent taps is how many of it a sample read: not yet written, ahead, overwritten, or all three together.
abbrev pub Kind : Type 0
Kind = Absent → ℕ

abbrev pub unwritten_taps : Kind
unwritten_taps s = s.unwritten

abbrev pub ahead_taps : Kind
ahead_taps s = s.ahead

abbrev pub overwritten_taps : Kind
overwritten_taps s = s.overwritten

abbrev pub absent_taps : Kind
absent_taps s = s.unwritten + s.ahead + s.overwritten

-- 1 for a sample that read such taps, else 0.
abbrev pub some_of : ℕ → ℕ
some_of taps = min taps 1

-- How many samples from frame i on, each read at its delay, read such taps.
unfoldable pub how_many : Kind → ℕ → ℕ → List Float → ℕ
how_many kind len i [] = 0
how_many kind len i (y ∷ ys) = some_of (kind (absent_in len i y)) + how_many kind len (suc i) ys

-- A sample that read any absent tap is the last one so far.
abbrev pub later_of : ℕ → ℕ → ℕ → ℕ
later_of taps i before = cond (taps == 0) before i

-- The frame of the last sample that read any absent tap; the one before if no sample from frame i on did.
unfoldable pub last_of : ℕ → ℕ → ℕ → List Float → ℕ
last_of before len i [] = before
last_of before len i (y ∷ ys) = last_of (later_of (absent_taps (absent_in len i y)) i before) len (suc i) ys

-- A reader accepts 2^36 samples, so a block that begins with frame i has at most this many that are read.
abbrev pub read_in : ℕ → ℕ → List Float → List Float
read_in i frames delays = take (min frames (limit - i)) delays

-- Before the first sample.
abbrev pub no_sample : AbsentReport
no_sample = record { samples = 0; unwritten = 0; ahead = 0; overwritten = 0; last = 0 }

-- A number of samples with n more. It stops at the largest word, which no reader's samples reach.
abbrev pub plus_of : ℕ → ℕ → ℕ
plus_of a n = max a (min (a + n) most)

-- A report with the samples from frame i on, each read at its delay.
abbrev pub counted_in : AbsentReport → ℕ → ℕ → List Float → AbsentReport
counted_in r len i ys = record {
  samples = plus_of r.samples (how_many absent_taps len i ys);
  unwritten = plus_of r.unwritten (how_many unwritten_taps len i ys);
  ahead = plus_of r.ahead (how_many ahead_taps len i ys);
  overwritten = plus_of r.overwritten (how_many overwritten_taps len i ys);
  last = last_of r.last len i ys;
}

-- The same block after block, the first of which begins with frame i.
unfoldable pub in_blocks : AbsentReport → ℕ → ℕ → List (List Float) → AbsentReport
in_blocks r len i [] = r
in_blocks r len i (ys ∷ blocks) = in_blocks (counted_in r len i ys) len (i + length ys) blocks
