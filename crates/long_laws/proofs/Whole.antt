-- W10f. If the whole file is there no more bytes are needed: 2 is given only if a byte below the file's length is
-- missing. Assumes nothing.
use mathlib.Core.Path.{◌≡◌, refl, ◌∙◌}
use mathlib.Core.Bool.{Bool, true, false, ◌&&◌}
use mathlib.Core.List.{List}
use Prim.Native.Nat.{ℕ, ◌+◌, ◌*◌, ◌≤◌}
use native.Mathlib.Omega.{arith}
use borrow.Author.Tests.{leb-true, eqb-true, eqb-false}
use lib.Dec.{eqb, leb}
use lib.ListN.{length}
use Rattle.refusal_order.specs.Order.{first_of}
use Rattle.refusal_order.proofs.First.{none}
use Rattle.riff_chunks.specs.Walk.{riff_sought}
use Rattle.wav.proofs.Passed.{both_hold}
use Rattle.true_sizes.specs.Sizes.{is_long, ds64_id, ds64_size, entry_count}
use Rattle.wav_format.specs.Format.{number}
use Rattle.wav_opening.specs.Opening.{has_letters, has_ds64, true_riff, end_of, opening_needs, opening_tests}
use Rattle.long_wav.specs.Reading.{chunk_in, needs_of}
use Rattle.long_wav.proofs.Verdicts.{asked-none, asked-heads}
use Rattle.long_laws.proofs.Openings.{fixed_of, head_of, table_of, met, unmade}
use Rattle.long_laws.proofs.Missing.{to_the_end}

-- The table lies in a `ds64` that lies in the file.
pub table-inside : (b : List ℕ) (size : ℕ) → has_ds64 b size ≡ true → 48 + 12 * entry_count b ≤ size
table-inside b size d =
    let p = both_hold (eqb (number 4 b 12) ds64_id) _ d in
    let q = both_hold (leb 28 (ds64_size b)) _ p.1 in
    let r = leb-true 28 (ds64_size b) q.0 in
    let t = leb-true (20 + ds64_size b) size q.1 in
    omega arith

module _ (b : List ℕ) (size : ℕ) (whole : size ≤ length b) where
  pub opening-whole : opening_needs b size ≡ 0
  opening-whole = by-12 (leb 12 size) refl
    where
      by-48 : (t : Bool) → has_ds64 b size ≡ t → fixed_of b size ≡ 0
      by-48 false e = unmade (length b) (has_ds64 b size) 48 (table_of b size) e
      by-48 true e =
          let inside = table-inside b size e in
          met (length b) (has_ds64 b size) 48 (table_of b size) (omega arith)
          (met (length b) (leb 4 (true_riff b size)) (48 + 12 * entry_count b) 0 (omega arith) refl)

      by-20 : (t : Bool) → (has_letters b && (is_long b && leb 20 size)) ≡ t → head_of b size ≡ 0
      by-20 false e = unmade (length b) (has_letters b && (is_long b && leb 20 size)) 20 (fixed_of b size) e
      by-20 true e =
          let long = (both_hold (has_letters b) _ e).1 in
          let there = leb-true 20 size (both_hold (is_long b) _ long).1 in
          met (length b) (has_letters b && (is_long b && leb 20 size)) 20 (fixed_of b size) (omega arith)
          (by-48 (has_ds64 b size) refl)

      by-12 : (t : Bool) → leb 12 size ≡ t → opening_needs b size ≡ 0
      by-12 false e = unmade (length b) (leb 12 size) 12 (head_of b size) e
      by-12 true e =
          let there = leb-true 12 size e in
          met (length b) (leb 12 size) 12 (head_of b size) (omega arith)
          (by-20 (has_letters b && (is_long b && leb 20 size)) refl)

  pub nothing-asked : needs_of b size ≡ 0
  nothing-asked = by (eqb (first_of (opening_tests b size)) 0) refl
    where
      by : (t : Bool) → eqb (first_of (opening_tests b size)) 0 ≡ t → needs_of b size ≡ 0
      by false e = asked-none b size opening-whole (eqb-false _ _ e)
      by true e =
          let z = eqb-true (first_of (opening_tests b size)) 0 e in
          let held = leb-true (end_of b size) size ((none (opening_tests b size) refl).0 z 3) in
          asked-heads b size opening-whole z
          ∙ to_the_end riff_sought (chunk_in b) (λ at. refl) (end_of b size) (length b) (omega arith) 12
