-- Nothing is cut off if there are 50 bytes for each sample: a line has at most 20 digits, a blank, 28 bytes of an
-- answer and the end of the line. By the number of digits. Assumes nothing.
use mathlib.Core.Path.{◌≡◌, refl, ◌∙◌, ap}
use mathlib.Core.List.{List, [], ◌∷◌, ◌++◌}
use Prim.Native.Nat.{ℕ, zero, suc, ◌+◌, ◌*◌, ◌/◌, ◌%◌, ◌≤◌}
use native.Mathlib.Nat.{zero-add, min-eq_right}
use native.Mathlib.Omega.{arith}
use lib.ListN.{length, take, drop, length-append}
use lib.Seq.{sets-eq, take_at}
use lib.Ieee.{Float, binary64, to_bits}
use Rattle.answer.specs.declared.Answer.{Answer}
use Rattle.answer.specs.declared.Answer.TheVariants.{Sample, Refused}
use Rattle.word_bytes.specs.Hex.{glyph, hex_digits}
use Rattle.text.specs.Text.{ascii, decimal}
use Rattle.text.proofs.Digits.{few-digits}
use Rattle.text.proofs.Texts.{Puts}
use Rattle.variable_delay.specs.declared.VariableDelay.{VariableDelay}
use Rattle.runs.specs.Runs.{Reader, after}
use Rattle.trace_lines.specs.Lines.{answer_text, line_of, call, answer_to, lines_of, samples_of, samples_in, text_of}

hex-digits : (k n : ℕ) → length (hex_digits k n) ≡ k
unfolding hex_digits
hex-digits zero n = refl
hex-digits (suc k) n = length-append (hex_digits k (n / 16)) (glyph (n % 16) ∷ [])
    ∙ omega (arith, hex-digits k (n / 16))

short-answer : (a : Answer) → length (answer_text a) ≤ 28
unfolding ascii
short-answer (Sample y) = omega (arith, hex-digits 16 (to_bits binary64 y))
short-answer (Refused k) = omega (arith, length-append (ascii "refused ") (decimal k), few-digits 20 k)

short-line : (n : ℕ) (a : Answer) → length (line_of n a) ≤ 50
unfolding ascii
short-line n a =
    omega (
      arith,
      length-append (decimal n) (ascii " " ++ (answer_text a ++ ascii "\n")),
      length-append (answer_text a) (ascii "\n"),
      few-digits 20 n,
      short-answer a,
    )

short-lines : (r : Reader) (xs : List Float) → length (lines_of r xs) ≤ 50 * length xs
unfolding lines_of
short-lines r [] = omega arith
short-lines r (x ∷ xs) =
    let line = line_of r.state.accepted (answer_to r (call x)) in
    let rest = lines_of (after r (call x)) xs in
    omega (
      arith,
      length-append line rest,
      short-line r.state.accepted (answer_to r (call x)),
      short-lines (after r (call x)) xs,
    )

in-samples : (n : ℕ) (bytes : List ℕ) → length (samples_of n bytes) ≡ n
unfolding samples_of
in-samples zero bytes = refl
in-samples (suc n) bytes = ap suc (in-samples n (drop 8 bytes))

-- So what `put_lines` leaves, up to the length that it gives, is the whole text.
pub whole : (d : VariableDelay) (ring : List Float) (bytes out : List ℕ) {r : ℕ} {ys : List ℕ}
    → 50 * (length bytes / 8) ≤ length out
    → Puts out 0 (text_of d ring bytes) r ys → take r ys ≡ text_of d ring bytes
whole d ring bytes out h p =
    let text = text_of d ring bytes in
    let fits : length text ≤ length out =
    omega (
      arith,
      short-lines (record { state = d; ring = ring }) (samples_in bytes),
      in-samples (length bytes / 8) bytes,
    ) in
    let e = p.out_after ∙ sets-eq text out 0 (omega arith) in
    let n = p.value ∙ min-eq_right {n = 0 + length text} {m = length out} (omega arith) ∙ zero-add (length text) in
    rw (e, n) (take_at text (drop (0 + length text) out) (length text) refl)
