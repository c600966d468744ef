-- Lines about files that cannot be used, or cannot be used as they are. Definitions only.
use Rattle.std.specs.Prelude.{ℕ, cond, List, ◌++◌, eqb}
use Rattle.text.specs.Text.{ascii, decimal, place_after}
use Rattle.sample_kind.specs.declared.SampleKind.{SampleKind}
use Rattle.report_lines.specs.Files.{kind_text}
use Rattle.error_lines.specs.Lines.{name_text, start_text, line_text}

abbrev pub empty_text : List ℕ
empty_text = ascii " is empty: copy it again from where it came\n"

abbrev pub shorter_text : List ℕ
shorter_text = ascii " became shorter while it was read\n"

-- Why reading a file stopped: for 1 a call failed, and the system's reason follows; otherwise the file ended too early.
abbrev pub unread_said : List ℕ → List ℕ → ℕ → ℕ
unread_said command name number =
    cond (eqb number 1) (place_after 4608 0 (start_text command name))
    (place_after 9216 0 (line_text command name shorter_text))

-- The line that says that a file's kind stood inside WAVE_FORMAT_EXTENSIBLE.
unfoldable pub wrapped_line : List ℕ → List ℕ → SampleKind → List ℕ
wrapped_line command name kind =
    start_text command name ++
    (ascii " is wrapped (WAVE_FORMAT_EXTENSIBLE) and read as " ++ (kind_text kind ++ ascii "\n"))

-- A line about one refused sample names its frame, counted from 0, and its channel, counted from 1.
unfoldable pub place_text : ℕ → ℕ → ℕ → List ℕ → List ℕ
place_text number frame channel words =
    ascii " is refused by " ++ (decimal number ++ (ascii ": frame " ++ (decimal frame ++
    (ascii " of channel " ++ (decimal channel ++ words)))))

unfoldable pub place_line : List ℕ → List ℕ → ℕ → ℕ → ℕ → List ℕ → List ℕ
place_line command name number frame channel words = start_text command name ++ place_text number frame channel words

-- A line about two files that differ in a number.
unfoldable pub differ_text : List ℕ → ℕ → ℕ → List ℕ → List ℕ
differ_text second a b words =
    ascii " has " ++ (decimal a ++ (ascii " and " ++ (name_text second ++ (ascii " has " ++ (decimal b ++ words)))))

unfoldable pub differ_line : List ℕ → List ℕ → List ℕ → ℕ → ℕ → List ℕ → List ℕ
differ_line command first second a b words = start_text command first ++ differ_text second a b words
