-- A file's name inside XML. Definitions only.
use Rattle.std.specs.Prelude.{ℕ, Bool, cond, ◌||◌, List, [], ◌∷◌, ◌++◌, eqb, ltb}
use Rattle.text.specs.Text.{ascii}
use Rattle.utf8.specs.Utf8.{is_utf8}

-- A byte of a name: the ampersand, `<` and `>` have names in XML, and a control character, which XML forbids, becomes a
-- question mark.
unfoldable pub escaped_byte : ℕ → List ℕ
escaped_byte b =
    cond (eqb b 38) (ascii "&amp;") (cond (eqb b 60) (ascii "&lt;") (cond (eqb b 62) (ascii "&gt;")
    (cond (ltb b 32) (ascii "?") (b ∷ []))))

-- Bytes from 128 on stay as they are in a name that is UTF-8; in another they become question marks.
unfoldable pub shown_byte : Bool → ℕ → ℕ
shown_byte readable b = cond (readable || ltb b 128) b 63

unfoldable pub escaped_as : Bool → List ℕ → List ℕ
escaped_as readable [] = []
escaped_as readable (b ∷ bs) = escaped_byte (shown_byte readable b) ++ escaped_as readable bs

abbrev pub escaped : List ℕ → List ℕ
escaped name = escaped_as (is_utf8 name) name
