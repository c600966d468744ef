-- What `look` writes behind the name of a file. Definitions only.
use Rattle.std.specs.Prelude.{ℕ, Bool, cond, List, [], ◌++◌, eqb}
use Rattle.text.specs.Text.{ascii}
use Rattle.sample_kind.specs.declared.SampleKind.{SampleKind}
use Rattle.report_lines.specs.Files.{file_text}
use Rattle.report_lines.specs.Times.{length_text}

-- The length in time with a comma in front, unless the rate is 0.
unfoldable pub time_text : ℕ → ℕ → List ℕ
time_text frames rate = cond (eqb rate 0) [] (ascii ", " ++ length_text frames rate)

-- Whether the header has the longer form, and the end of the line.
unfoldable pub wrapped_text : Bool → List ℕ
wrapped_text wrapped = cond wrapped (ascii ", wrapped\n") (ascii "\n")

-- A file in words, its length in time, and whether its kind is wrapped.
unfoldable pub looked_text : SampleKind → ℕ → ℕ → ℕ → Bool → List ℕ
looked_text kind channels rate frames wrapped =
    file_text kind channels rate frames ++ (time_text frames rate ++ wrapped_text wrapped)
