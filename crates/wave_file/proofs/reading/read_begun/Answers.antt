-- `wave_file::reading::read_begun` stays inside its slice, and returns the answer of `read_at`. Assumes nothing.
use mathlib.Core.Path.{sym}
use native.Mathlib.Omega.{arith}
use lib.Seq.{length-take-le}
use Rattle.wave_file.proofs.reading.read_begun.Goals as goal

pub slice_bounds-read_at-end-then-n-bytes : goal.slice_bounds-read_at-end-then-n-bytes
slice_bounds-read_at-end-then-n-bytes c = sym (length-take-le _ _ (omega arith))
