-- C4, D1c. What an opening or a reset of either oversampled reader gives: the refusal number, 0 for none, and the
-- numbers of the reader; a refusal leaves those that stood there. Definitions only.
use Rattle.std.specs.Prelude.{ℕ}
use Rattle.oversampled_delay.specs.declared.Opened.TheVariants as direct
use Rattle.oversampled_delay.specs.declared.Opened as direct-opened
use Rattle.cascaded_delay.specs.declared.Opened.TheVariants as cascaded
use Rattle.cascaded_delay.specs.declared.Opened as cascaded-opened
use Rattle.oversampled_codes.specs.declared.Numbers.{Numbers}
use Rattle.oversampled_codes.specs.Codes.{numbers}

abbrev pub direct_number : direct-opened.Opened → ℕ
direct_number (direct.Reader d) = 0
direct_number (direct.Refused k) = k

abbrev pub direct_numbers : Numbers → direct-opened.Opened → Numbers
direct_numbers before (direct.Reader d) = numbers d.accepted d.inner d.previous
direct_numbers before (direct.Refused k) = before

abbrev pub cascaded_number : cascaded-opened.Opened → ℕ
cascaded_number (cascaded.Reader d) = 0
cascaded_number (cascaded.Refused k) = k

abbrev pub cascaded_numbers : Numbers → cascaded-opened.Opened → Numbers
cascaded_numbers before (cascaded.Reader d) = numbers d.accepted d.inner d.previous
cascaded_numbers before (cascaded.Refused k) = before
