-- `long_header::file_length_for` meets its contract: up to 2^40 bytes of samples no sum overflows a word. Assumes
-- nothing.
use mathlib.Core.Path.{◌≡◌}
use mathlib.Core.Bool.{true, false, ◌&&◌}
use native.Mathlib.Omega.{arith}
use Rattle.wav_settings.specs.Settings.{one_or_two, whole_frames}
use Rattle.long_header.specs.Refusals.{size_ok}
use Rattle.long_header.proofs.Bounds.{small_size, longest-header}
use Rattle.long_header.proofs.file_length_for.Goals as goal

pub overflow_mul-size : goal.overflow_mul-size
overflow_mul-size c =
    let a = c.args in
    let ok : whole_frames a.channels a.count && (size_ok a.kind a.count && one_or_two a.channels)
    ≡ true = cc in
    rw c.width.ensures (omega (arith, small_size a.kind a.channels a.count ok))

pub overflow_add-result : goal.overflow_add-result
overflow_add-result c =
    let a = c.args in
    let ok : whole_frames a.channels a.count && (size_ok a.kind a.count && one_or_two a.channels)
    ≡ true = cc in
    rw (c.width.ensures, c.header_length_for.ensures)
    (omega (arith, small_size a.kind a.channels a.count ok, longest-header a.kind a.count))

pub overflow_add-result-then-both : goal.overflow_add-result-then-both
overflow_add-result-then-both c =
    let a = c.args in
    let ok : whole_frames a.channels a.count && (size_ok a.kind a.count && one_or_two a.channels)
    ≡ true = cc in
    rw (c.width.ensures, c.header_length_for.ensures)
    (omega (arith, small_size a.kind a.channels a.count ok, longest-header a.kind a.count))

pub returns-then-both : goal.returns-then-both
returns-then-both c =
    let a = c.args in
    let ok : whole_frames a.channels a.count && (size_ok a.kind a.count && one_or_two a.channels)
    ≡ true = cc in
    rw (ok, c.width.ensures, c.header_length_for.ensures)

pub returns-else-both : goal.returns-else-both
returns-else-both c =
    let a = c.args in
    let no : whole_frames a.channels a.count && (size_ok a.kind a.count && one_or_two a.channels)
    ≡ false = cc in
    rw no
