-- O5. A line of a stored list, from its bytes. Definitions only.
use Rattle.std.specs.Prelude.{ℕ, ◌+◌, ◌*◌, min, ◌&&◌, cond, List, eqb, leb, take, drop, get_or}
use Rattle.word_bytes.specs.Hex.{hex_value}
use Rattle.replay_lines.specs.declared.Line.{Line}
use Rattle.replay_lines.specs.declared.Heard.{Heard}

abbrev word_at : List ℕ → ℕ → ℕ
word_at bytes at = hex_value 0 (take 16 (drop at bytes))

abbrev pub line_of : List ℕ → Line
line_of bytes =
    record {
      letter = get_or bytes 0 0;
      mark = get_or bytes 1 0;
      a = word_at bytes 2;
      b = word_at bytes 19;
      c = word_at bytes 36;
    }

-- The line from a read of n bytes.
abbrev pub heard_of : ℕ → List ℕ → Heard
heard_of n bytes = record { whole = eqb n 53; line = line_of bytes }

-- T1. How much of a buffer a table takes: a row for each phase from 0 to phases, if taps and phases are in the ranges
-- of G5.
abbrev pub table_part : ℕ → ℕ → ℕ → ℕ
table_part taps phases room = cond (leb taps 128 && leb phases 4096) (min ((phases + 1) * taps) room) room
