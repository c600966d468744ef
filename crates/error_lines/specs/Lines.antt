-- A line on standard error. Definitions only.
use Rattle.std.specs.Prelude.{ℕ, cond, List, ◌++◌, eqb, length}
use Rattle.text.specs.Text.{ascii}

-- A file's name as a line shows it. An empty name could not be seen, so it is shown as two quotes.
unfoldable pub name_text : List ℕ → List ℕ
name_text name = cond (eqb (length name) 0) (ascii "''") name

-- A line begins with the command and with a file's name or an argument.
unfoldable pub start_text : List ℕ → List ℕ → List ℕ
start_text command name = command ++ (ascii ": " ++ name_text name)

-- The beginning of a line, and what it says of the file or the argument.
unfoldable pub line_text : List ℕ → List ℕ → List ℕ → List ℕ
line_text command name words = start_text command name ++ words

-- A line about something that has no name: the command, and what is said.
unfoldable pub plain_text : List ℕ → List ℕ → List ℕ
plain_text command words = command ++ (ascii ": " ++ words)

-- The signs that ./run looked for: that everything went well, and that the arguments of a command were wrong.
abbrev pub end_sign : List ℕ
end_sign = ascii "end\n"

abbrev pub usage_sign : List ℕ
usage_sign = ascii "usage\n"

-- The exit status that ./run gave for a sign, and that a program has itself today: 0 where everything went well, 2
-- where the arguments were wrong, and 1 without either sign. The signs differ in length.
abbrev pub status_of : List ℕ → ℕ
status_of sign =
    cond (eqb (length sign) (length end_sign)) 0 (cond (eqb (length sign) (length usage_sign)) 2 1)
