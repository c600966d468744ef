-- A block of bytes, sample by sample: what a turn of the loop does, and that samples handed over in two blocks give the
-- same lines as in one. Assumes nothing.
use mathlib.Core.Path.{◌≡◌, refl, sym, ◌∙◌, ap, subst}
use mathlib.Core.List.{List, [], ◌∷◌, ◌++◌, append_assoc}
use Prim.Native.Nat.{ℕ, suc, ◌+◌, ◌/◌, ◌<◌, ◌≤◌}
use native.Mathlib.Nat.{add-zero, min-eq_right}
use native.Mathlib.Omega.{arith}
use lib.ListN.{length, take, drop, length-append}
use Rattle.std.proofs.Math.Seq.{drop-append_seam}
use Rattle.std.proofs.lemmas.List.{take-append-le}
use lib.Ieee.{Float, binary64, of_bits}
use Rattle.word_bytes.specs.Bytes.{bytes_value}
use Rattle.text.specs.Text.{put_at, place_after}
use Rattle.text.proofs.Texts.{Puts, then}
use Rattle.variable_delay.specs.Reader.{processed, ring_after}
use Rattle.variable_delay.specs.declared.Processed.{Processed}
use Rattle.cubic_farrow.specs.Cubic.{cubic_at}
use Rattle.runs.specs.Calls.{run_of}
use Rattle.runs.specs.Runs.{Reader, due, after}
use Rattle.trace_lines.specs.Lines.{line_of, call, answer_to, lines_of, reader_after, samples_of, samples_in}

-- Fewer than eight bytes hold no sample.
pub no_more : (bytes : List ℕ) → length bytes < 8 → samples_in bytes ≡ []
unfolding samples_of
no_more bytes h =
    let e : length bytes / 8 ≡ 0 = omega arith in
    rw e

-- The sample that eight bytes hold comes before those of the bytes behind them.
pub next-sample : (eight rest : List ℕ) {bytes : List ℕ} {x : Float} → bytes ≡ eight ++ rest → length eight ≡ 8
    → x ≡ of_bits binary64 (bytes_value (take 8 eight)) → samples_in bytes ≡ x ∷ samples_in rest
unfolding samples_of
next-sample eight rest {bytes} b h e =
    let n : length (eight ++ rest) / 8 ≡ suc (length rest / 8) = omega (arith, length-append {A = ℕ}) in
    let t : take 8 (eight ++ rest) ≡ take 8 eight = take-append-le 8 eight rest (omega arith) in
    let d : drop 8 (eight ++ rest) ≡ rest =
    subst (λ (k : ℕ). drop k (eight ++ rest) ≡ rest) h (drop-append_seam eight rest) in
    rw (b, n, t, d, e)

-- What the samples that are still to come lead to, from a reader and a place of the bytes `out` on.
pub record Come : Type 0 where
  pub reader : Reader
  pub place : ℕ
  pub bytes : List ℕ

abbrev pub come : Reader → List ℕ → ℕ → List Float → Come
come r out at xs =
    record {
      reader = reader_after r xs;
      place = place_after (length out) at (lines_of r xs);
      bytes = put_at out at (lines_of r xs);
    }

-- One turn: the reader's call, and its line.
pub turn : (r : Reader) (out : List ℕ) (at : ℕ) {x : Float} {all xs : List Float} {p : Processed} {ring : List Float}
    {q : ℕ} {zs : List ℕ}
    → all ≡ x ∷ xs
    → p ≡ processed cubic_at r.state r.ring x (call x).delay
    → ring ≡ ring_after (due r (call x)) r.state r.ring x
    → Puts out at (line_of r.state.accepted p.answer) q zs
    → come r out at all ≡ come (record { state = p.state; ring = ring }) zs q xs
unfolding lines_of run_of
turn r out at {x} {all} {xs} n e f p =
    let t =
    then out (line_of r.state.accepted (answer_to r (call x))) (lines_of (after r (call x)) xs) at (rw e at p)
    record { value = refl; out_after = refl } in
    rw (
      n,
      e,
      f,
    ) (λ i. record { reader = reader_after (after r (call x)) xs; place = sym t.value i; bytes = sym t.out_after i })

-- No samples are to come.
pub ended : (r : Reader) (out : List ℕ) (at : ℕ) {all : List Float} → all ≡ [] → at ≤ length out
    → come r out at all ≡ record { reader = r; place = at; bytes = out }
unfolding lines_of run_of
ended r out at n h = rw (n, add-zero at, min-eq_right h)

pub in_blocks : (r : Reader) (xs ys : List Float)
    → lines_of r (xs ++ ys) ≡ lines_of r xs ++ lines_of (reader_after r xs) ys
unfolding lines_of run_of
in_blocks r [] ys = refl
in_blocks r (x ∷ xs) ys =
    let line = line_of r.state.accepted (answer_to r (call x)) in
    ap (λ (t : List ℕ). line ++ t) (in_blocks (after r (call x)) xs ys) ∙ sym (append_assoc line _ _)
