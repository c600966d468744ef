-- `wav_format::format::whole_frames` meets its contract, by its two cases. Assumes nothing.
use native.Mathlib.Omega.{arith}
use borrow.Author.Tests.{lt-ltb, le-ltb}
use Rattle.wav_format.proofs.format.whole_frames.Goals as goal

pub returns-then-frame-eq0 : goal.returns-then-frame-eq0
returns-then-frame-eq0 c = rw (le-ltb 0 c.args.frame (omega arith))

pub returns : goal.returns
returns c = rw (lt-ltb 0 c.args.frame (omega arith))
