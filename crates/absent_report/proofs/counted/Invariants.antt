use Rattle.std.proofs.Common.{◌≡◌, take}
use Rattle.absent_report.specs.Samples.{counted_in}
use Rattle.absent_report.proofs.counted.Given as goal

abbrev pub invariant-loop-k : goal.invariant-loop-k
invariant-loop-k l = l.after ≡ counted_in l.initial.after l.len l.accepted (take l.k l.read)
