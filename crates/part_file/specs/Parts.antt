-- A file that is written whole or not at all: its names, and what is known of the answers that C gives. Definitions
-- only.
use Rattle.std.specs.Prelude.{ℕ, ◌≡◌, Bool, true, false, cond, List, ◌++◌, ℤ, pos, length, Option, Some}
use Rattle.text.specs.Text.{ascii}
use Rattle.spelling.specs.Words.{same_bytes}

-- The name `-` stands for standard output.
abbrev pub is_standard : List ℕ → Bool
is_standard name = same_bytes name (ascii "-")

-- The name that a line shows.
unfoldable pub shown_name : List ℕ → List ℕ
shown_name name = cond (is_standard name) (ascii "standard output") name

-- The file is written as NAME.part.
unfoldable pub part_text : List ℕ → List ℕ
part_text name = name ++ ascii ".part"

-- Standard output is already open, as descriptor 1.
abbrev pub MadeFor : List ℕ → Option ℤ → Type 0
MadeFor name r = is_standard name ≡ true → r ≡ Some (pos 1)

-- Writing no bytes always succeeds, because it needs no call.
abbrev pub WrittenOf : List ℕ → Bool → Type 0
WrittenOf bytes r = length bytes ≡ 0 → r ≡ true

-- Standard output always succeeds, because it needs no name.
abbrev pub StandsAs : List ℕ → Bool → Type 0
StandsAs name r = is_standard name ≡ true → r ≡ true

-- Where something went wrong, the file never stands under its name. Standard output is as good as what was written to
-- it.
abbrev pub FinishedAs : List ℕ → Bool → Bool → Type 0
FinishedAs name well r = (well ≡ false → r ≡ false) × (is_standard name ≡ true → r ≡ well)
