-- A report with one sample more, from the absent taps s that it read, as the code computes it. What is promised stands
-- in Samples.antt, which does not use it. Definitions only.
use Rattle.std.specs.Prelude.{ℕ}
use Rattle.absent_taps.specs.declared.Absent.{Absent}
use Rattle.absent_report.specs.declared.AbsentReport.{AbsentReport}
use Rattle.absent_report.specs.Samples.{some_of, later_of, plus_of, absent_taps}

abbrev pub with_absent : ℕ → Absent → AbsentReport → AbsentReport
with_absent i s r = record {
  samples = plus_of r.samples (some_of (absent_taps s));
  unwritten = plus_of r.unwritten (some_of s.unwritten);
  ahead = plus_of r.ahead (some_of s.ahead);
  overwritten = plus_of r.overwritten (some_of s.overwritten);
  last = later_of (absent_taps s) i r.last;
}
