-- What is said of an argument that cannot be used, after the command and the argument. Definitions only.
use Rattle.std.specs.Prelude.{ℕ, Bool, ◌||◌, List, ◌++◌}
use Rattle.text.specs.Text.{ascii}
use Rattle.spelling.specs.Words.{same_bytes}
use Rattle.arguments.specs.declared.Name.{Name}
use Rattle.wanted.specs.Wanted.{wanted_of}
use Rattle.error_lines.specs.Lines.{start_text}

abbrev pub is_help : List ℕ → Bool
is_help words = same_bytes words (ascii "--help") || same_bytes words (ascii "-h")

-- A file whose name looks like a setting can be named with its folder in front.
unfoldable pub unknown_text : List ℕ → List ℕ
unknown_text words =
    ascii " is no setting that it knows (./run --help lists them); for a file of that name write ./" ++
    (words ++ ascii "\n")

-- The words say what the value has to be.
unfoldable pub bad_text : Name → List ℕ
bad_text name = ascii " will not do: " ++ (wanted_of name ++ ascii "\n")

-- Both lines begin with the command and the argument.
unfoldable pub unknown_line : List ℕ → List ℕ → List ℕ
unknown_line command words = start_text command words ++ unknown_text words

unfoldable pub bad_line : List ℕ → List ℕ → Name → List ℕ
bad_line command words name = start_text command words ++ bad_text name
