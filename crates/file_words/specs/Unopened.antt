-- Why a file was not opened, in words. Definitions only.
use Rattle.std.specs.Prelude.{ℕ, List, ◌++◌}
use Rattle.text.specs.Text.{place_after}
use Rattle.error_lines.specs.Lines.{start_text, line_text}
use Rattle.refusal_words.specs.Refusals.{refusal_text}
use Rattle.wave_file.specs.declared.Refused.{Refused as Refusal}
use Rattle.wave_file.specs.declared.Opened.{Opened}
use Rattle.wave_file.specs.declared.Opened.TheVariants.{File, Unread, Empty, Shorter, Refused}
use Rattle.file_words.specs.Lines.{empty_text, shorter_text}

unfoldable pub refused_line : List ℕ → List ℕ → Refusal → List ℕ
refused_line command name t =
    start_text command name ++ refusal_text name t.number t.tag t.channels t.block t.bits

-- The number of bytes of the line. Nothing is said of a file that was opened.
abbrev pub unopened_said : List ℕ → List ℕ → Opened → ℕ
unopened_said command name (File f) = 0
unopened_said command name Unread = place_after 4608 0 (start_text command name)
unopened_said command name Empty = place_after 9216 0 (line_text command name empty_text)
unopened_said command name Shorter = place_after 9216 0 (line_text command name shorter_text)
unopened_said command name (Refused t) = place_after 9216 0 (refused_line command name t)
