-- How many bytes the texts can have, so that a program knows how large a slice must be to hold them whole. By the
-- digits of a word, of which there are at most 20. Assumes nothing.
use mathlib.Core.Path.{◌≡◌, refl, ◌∙◌}
use mathlib.Core.Bool.{Bool, true, false, cond}
use mathlib.Core.List.{List, ◌++◌}
use Prim.Native.Nat.{ℕ, ◌+◌, ◌*◌, ◌/◌, ◌%◌, ◌≤◌}
use native.Mathlib.Nat.{zero-add, min-eq_right}
use native.Mathlib.Omega.{arith}
use lib.Dec.{eqb, ltb}
use lib.ListN.{length, take, drop, length-append}
use lib.Seq.{sets-eq, take_at}
use Rattle.text.specs.Text.{ascii, decimal}
use Rattle.text.proofs.Digits.{few-digits}
use Rattle.text.proofs.Texts.{Puts}
use Rattle.sample_kind.specs.declared.SampleKind.{SampleKind}
use Rattle.sample_kind.specs.declared.SampleKind.TheVariants.{Pcm16, Pcm24, Float32}
use Rattle.report_lines.specs.Files.{kind_text, plural_text, count_text, file_text}
use Rattle.report_lines.specs.Times.{two_text, three_text, clock_text, length_text}
use Rattle.report_lines.specs.Looked.{time_text, wrapped_text, looked_text}

-- If a text has room, what stands up to the place after it is that text.
pub whole : (text out : List ℕ) {r : ℕ} {ys : List ℕ} → length text ≤ length out → Puts out 0 text r ys
    → take r ys ≡ text
whole text out h p =
    let e = p.out_after ∙ sets-eq text out 0 (omega arith) in
    let n = p.value ∙ min-eq_right {n = 0 + length text} {m = length out} (omega arith) ∙ zero-add (length text) in
    rw (e, n) (take_at text (drop (0 + length text) out) (length text) refl)

pub either : (t : Bool) (a b : List ℕ) (m : ℕ) → length a ≤ m → length b ≤ m → length (cond t a b) ≤ m
either true a b m h k = h
either false a b m h k = k

short-kind : (kind : SampleKind) → length (kind_text kind) ≤ 16
unfolding ascii
short-kind Pcm16 = omega arith
short-kind Pcm24 = omega arith
short-kind Float32 = omega arith

pub short-count : (n : ℕ) (thing : List ℕ) → length (count_text n thing) ≤ 22 + length thing
unfolding ascii plural_text count_text
short-count n thing =
    let s = either (eqb n 1) (ascii "") (ascii "s") 1 (omega arith) (omega arith) in
    simp length-append (omega (arith, few-digits 20 n))

short-file : (kind : SampleKind) (channels rate frames : ℕ) → length (file_text kind channels rate frames) ≤ 101
unfolding ascii file_text
short-file kind channels rate frames =
    simp length-append
    (omega (
      arith,
      short-kind kind,
      short-count channels (ascii "channel"),
      few-digits 20 rate,
      short-count frames (ascii "frame"),
    ))

short-two : (n : ℕ) → length (two_text n) ≤ 21
unfolding ascii two_text
short-two n =
    either (ltb n 10) (ascii "0" ++ decimal n) (decimal n) 21 (omega (arith, few-digits 20 n))
    (omega (arith, few-digits 20 n))

short-three : (n : ℕ) → length (three_text n) ≤ 22
unfolding ascii three_text
short-three n =
    either (ltb n 100) (ascii "0" ++ two_text n) (two_text n) 22 (omega (arith, short-two n))
    (omega (arith, short-two n))

short-clock : (seconds thousandths : ℕ) → length (clock_text seconds thousandths) ≤ 87
unfolding ascii clock_text
short-clock seconds thousandths =
    simp length-append
    (omega (
      arith,
      few-digits 20 (seconds / 3600),
      short-two (seconds / 60 % 60),
      short-two (seconds % 60),
      short-three thousandths,
    ))

pub short-length : (frames rate : ℕ) → length (length_text frames rate) ≤ 87
unfolding ascii length_text
short-length frames rate =
    let clock = clock_text (frames / rate) (frames % rate * 1000 / rate) in
    either (eqb rate 0) (ascii "") clock 87 (omega arith) (short-clock (frames / rate) (frames % rate * 1000 / rate))

short-time : (frames rate : ℕ) → length (time_text frames rate) ≤ 89
unfolding ascii time_text
short-time frames rate =
    either (eqb rate 0) (ascii "") (ascii ", " ++ length_text frames rate) 89 (omega arith)
    (omega (arith, short-length frames rate))

pub short-looked : (kind : SampleKind) (channels rate frames : ℕ) (wrapped : Bool)
    → length (looked_text kind channels rate frames wrapped) ≤ 200
unfolding ascii wrapped_text looked_text
short-looked kind channels rate frames wrapped =
    let e = either wrapped (ascii ", wrapped\n") (ascii "\n") 10 (omega arith) (omega arith) in
    simp length-append (omega (arith, short-file kind channels rate frames, short-time frames rate))
