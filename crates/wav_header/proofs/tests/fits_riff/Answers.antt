-- `wav_header::tests::fits_riff` meets its contract: 2^32 samples or more do not fit, and the length of fewer can be
-- computed. Assumes nothing.
use borrow.Author.Tests.{lt-leb}
use mathlib.Core.Path.{sym}
use native.Mathlib.Omega.{arith}
use Rattle.wav_header.proofs.Sizes.{many-bytes, long-header}
use Rattle.wav_header.proofs.tests.fits_riff.Goals as goal

pub returns-then-count-ge4294967296 : goal.returns-then-count-ge4294967296
returns-then-count-ge4294967296 c = sym (lt-leb _ _ (many-bytes c.args.kind c.args.count (omega arith)))

pub overflow_sub-result : goal.overflow_sub-result
overflow_sub-result c = omega (arith, c.length_of.ensures, long-header c.args.kind)

pub returns : goal.returns
returns c = rw c.length_of.ensures
