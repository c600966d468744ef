-- X1. What the program `trace` writes: a line for each sample that it reads. Definitions only.
use Rattle.std.specs.Prelude.{ℕ, zero, suc, ◌/◌, false, List, [], ◌∷◌, ◌++◌, map, negsuc, length, take, drop, Float}
use Rattle.std.specs.Float.{fin, binary64}
use Rattle.std.specs.Float.Ieee.{of_bits, to_bits}
use Rattle.answer.specs.declared.Answer.{Answer}
use Rattle.answer.specs.declared.Answer.TheVariants.{Sample, Refused}
use Rattle.word_bytes.specs.Hex.{hex_digits}
use Rattle.word_bytes.specs.Bytes.{bytes_value}
use Rattle.text.specs.Text.{ascii, decimal}
use Rattle.variable_delay.specs.Reader.{processed}
use Rattle.variable_delay.specs.declared.VariableDelay.{VariableDelay}
use Rattle.cubic_farrow.specs.Cubic.{cubic_at}
use Rattle.runs.specs.Runs.{Call, bare_call, Reader, after, run}

-- The answer is 16 hex digits in capitals, or `refused`, a blank and the number of the refusal.
abbrev pub answer_text : Answer → List ℕ
answer_text (Sample y) = hex_digits 16 (to_bits binary64 y)
answer_text (Refused k) = ascii "refused " ++ decimal k

-- The line is the number of samples accepted before the call in decimal, a blank, and the answer.
abbrev pub line_of : ℕ → Answer → List ℕ
line_of count a = decimal count ++ (ascii " " ++ (answer_text a ++ ascii "\n"))

-- A sample is read at the delay 1.5.
abbrev pub call : Float → Call
call x = bare_call x (fin false 3 (negsuc 0))

-- What the cubic reader answers.
abbrev pub answer_to : Reader → Call → Answer
answer_to r c = (processed cubic_at r.state r.ring c.input c.delay).answer

-- The lines for samples, and the reader after them.
unfoldable pub lines_of : Reader → List Float → List ℕ
lines_of r [] = []
lines_of r (x ∷ xs) = line_of r.state.accepted (answer_to r (call x)) ++ lines_of (after r (call x)) xs

abbrev pub reader_after : Reader → List Float → Reader
reader_after r xs = run r (map call xs)

-- The first n samples of headerless binary64, low byte first.
unfoldable pub samples_of : ℕ → List ℕ → List Float
samples_of zero bytes = []
samples_of (suc n) bytes = of_bits binary64 (bytes_value (take 8 bytes)) ∷ samples_of n (drop 8 bytes)

-- At the end a part of fewer than 8 bytes is ignored.
abbrev pub samples_in : List ℕ → List Float
samples_in bytes = samples_of (length bytes / 8) bytes

-- The reader that a block of bytes leaves, and the text for it.
abbrev pub after_block : VariableDelay → List Float → List ℕ → Reader
after_block d ring bytes = reader_after (record { state = d; ring = ring }) (samples_in bytes)

abbrev pub text_of : VariableDelay → List Float → List ℕ → List ℕ
text_of d ring bytes = lines_of (record { state = d; ring = ring }) (samples_in bytes)
