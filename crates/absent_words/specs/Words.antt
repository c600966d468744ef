-- What `imitate` says of the samples that read absent taps (W7). Definitions only.
use Rattle.std.specs.Prelude.{ℕ, Bool, cond, ◌&&◌, List, ◌++◌, eqb}
use Rattle.text.specs.Text.{ascii, decimal}
use Rattle.report_lines.specs.Files.{count_text}
use Rattle.absent_report.specs.declared.AbsentReport.{AbsentReport}

-- How many samples read taps of each kind. A tap that is not yet written lies before the file's first sample.
unfoldable pub kinds_text : AbsentReport → List ℕ
kinds_text r =
    decimal r.unwritten ++ (ascii " before the start, " ++ (decimal r.ahead ++
    (ascii " ahead of the newest, " ++ (decimal r.overwritten ++ ascii " overwritten\n"))))

-- How many samples read absent taps, and where the last of them stands.
unfoldable pub absent_text : AbsentReport → List ℕ
absent_text r =
    cond (eqb r.samples 0) (ascii "no sample read an absent tap\n")
    (count_text r.samples (ascii "sample") ++ (ascii " read absent taps, last at frame " ++
    (decimal r.last ++ (ascii ": " ++ kinds_text r))))

-- A line, with the words that say whose samples are meant.
unfoldable pub line_text : List ℕ → AbsentReport → List ℕ
line_text whose r = ascii "imitate: " ++ (whose ++ absent_text r)

-- Two reports with the same numbers.
abbrev pub same_of : AbsentReport → AbsentReport → Bool
same_of r s =
    eqb r.samples s.samples && (eqb r.unwritten s.unwritten && eqb r.ahead s.ahead
    && eqb r.overwritten s.overwritten) && eqb r.last s.last

-- Two channels: a line for both if they have the same numbers, else a line for each.
unfoldable pub pair_text : AbsentReport → AbsentReport → List ℕ
pair_text one two =
    cond (same_of one two) (line_text (ascii "each channel: ") one)
    (line_text (ascii "channel 1: ") one ++ line_text (ascii "channel 2: ") two)

-- A file of two channels, or of one.
unfoldable pub lines_text : ℕ → AbsentReport → AbsentReport → List ℕ
lines_text channels one two = cond (eqb channels 2) (pair_text one two) (line_text (ascii "") one)
