-- X1. 01's four lines for the inputs 1, 2, 3, 4, to the byte, with a part of a sample at the end that is ignored.
-- Computed from the definitions that the contracts cite. Assumes nothing.
use mathlib.Core.Path.{◌≡◌, refl}
use mathlib.Core.List.{List, [], ◌∷◌, ◌++◌}
use Prim.Native.Nat.{ℕ}
use lib.ListN.{replicate}
use lib.Ieee.{add, sub, mul, div, neg, le, of_int, of_bits, to_bits, size}
use Rattle.word_bytes.specs.Hex.{hex_digits}
use Rattle.word_bytes.specs.Bytes.{bytes_value}
use Rattle.text.specs.Text.{ascii, decimal_to}
use Rattle.ring.specs.Length.{length_for}
use Rattle.integer_part.specs.Parts.{floor_of, fraction_of}
use Rattle.cubic_farrow.specs.Cubic.{cubic_at}
use Rattle.runs.specs.Calls.{run_of}
use Rattle.runs.specs.Runs.{opened}
use Rattle.trace_lines.specs.Lines.{lines_of, samples_of, text_of}

-- The numbers 1.0, 2.0, 3.0, 4.0, low byte first, and three more bytes.
abbrev pub bytes : List ℕ
bytes =
    replicate 6 0 ++ 0xF0 ∷ 0x3F ∷ replicate 7 0 ++ 0x40 ∷ replicate 6 0 ++ 0x08 ∷ 0x40 ∷ replicate 6 0 ++ 0x10 ∷ 0x40
    ∷ 1 ∷ 2 ∷ 3 ∷ []

pub four-lines : text_of (opened 0 0 8).state (opened 0 0 8).ring bytes
    ≡ ascii "0 BFB0000000000000\n1 3FDC000000000000\n2 3FF8000000000000\n3 4004000000000000\n"
unfolding lines_of samples_of bytes_value hex_digits ascii decimal_to run_of cubic_at length_for size floor_of
    fraction_of le add
    sub mul div neg of_int of_bits to_bits
four-lines = refl
