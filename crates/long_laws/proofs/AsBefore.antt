-- W10a. RIFF files read as before: if the whole file is there, one that begins neither with RF64 nor with BW64 is
-- answered as Wish 1 answers it, by either reading. Assumes nothing.
use mathlib.Core.Path.{◌≡◌, refl, sym, ap, ◌∙◌}
use mathlib.Core.Bool.{Bool, true, false, not, cond, ◌&&◌, ◌||◌}
use mathlib.Core.List.{List}
use Prim.Native.Nat.{ℕ, ◌+◌, ◌≤◌}
use native.Mathlib.Omega.{arith}
use borrow.Author.Tests.{le-leb, leb-true, leb-false}
use lib.Dec.{eqb, leb}
use lib.ListN.{length}
use Rattle.word_bytes.specs.Bytes.{bytes_value}
use Rattle.riff_chunks.specs.declared.Chunk.{Chunk}
use Rattle.riff_chunks.specs.declared.Walked.{Walked}
use Rattle.riff_chunks.specs.Chunks.{chunk_at}
use Rattle.riff_chunks.specs.Walk.{riff_sought, up_to, seen_of}
use Rattle.riff_chunks.proofs.Agree.{same-chunks}
use Rattle.wav.specs.declared.Found.TheVariants as found
use Rattle.wav.specs.Wave.{riff_id, wave_id, riff_size, part_of, answered, found_by}
use Rattle.wav.specs.Wave as wav
use Rattle.wav.proofs.Alike.{walk-held}
use Rattle.wav.proofs.Answers.{judged_by}
use Rattle.wav.proofs.InHand.{past}
use Rattle.wav_format.specs.Format.{number}
use Rattle.true_sizes.specs.Sizes.{is_long}
use Rattle.wav_opening.specs.Opening.{is_wave}
use Rattle.long_wav.specs.Reading.{chunk_in, walk_in, fmt_in, header_by}
use Rattle.long_laws.proofs.Whole.{nothing-asked}

or-false : (a : Bool) → a || false ≡ a
or-false true = refl
or-false false = refl

and_assoc : (a b c : Bool) → (a && b) && c ≡ a && (b && c)
and_assoc true b c = refl
and_assoc false b c = refl

module _ (tag_of : List ℕ → ℕ → ℕ) (b : List ℕ) (plain : is_long b ≡ false) where
  abbrev size : ℕ
  size = length b

  wave-same : is_wave b size ≡ wav.is_wave b
  unfolding wav.is_wave
  wave-same =
      rw (plain, or-false (eqb (number 4 b 0) riff_id))
      (ap (λ (t : Bool). leb 12 (length b) && t)
      (and_assoc (eqb (number 4 b 0) riff_id) (eqb (number 4 b 8) wave_id) (leb 4 (riff_size b))))

  -- The tests that Wish 1 does not make pass.
  judged : header_by tag_of b size
      ≡ judged_by tag_of (wav.is_wave b) (leb (8 + riff_size b) size && not (walk_in b size).overruns) (walk_in b size)
      (fmt_in b size)
  judged = rw (le-leb (length b) size (omega arith), nothing-asked b size (omega arith), wave-same, plain)

  walk_same : 8 + riff_size b ≤ size → walk_in b size ≡ wav.walk_in b
  walk_same h =
      let chunks = same-chunks (chunk_in b) (chunk_at bytes_value b) (8 + riff_size b) (λ at l. rw plain) 12 in
      rw plain (ap (λ (cs : List Chunk). seen_of riff_sought (8 + riff_size b) (up_to riff_sought cs)) chunks)
      ∙ sym (walk-held b h)

  pub as_before : header_by tag_of b (length b) ≡ found_by tag_of b
  as_before = by (leb (8 + riff_size b) size) refl
    where
      -- If the RIFF runs past the file the walk does not matter.
      gone : (t : Bool) (v : Walked) (f : List ℕ) → judged_by tag_of t false v f ≡ found.Refused (cond t 10 9)
      gone true v f = refl
      gone false v f = refl

      by : (t : Bool) → leb (8 + riff_size b) size ≡ t → header_by tag_of b (length b) ≡ found_by tag_of b
      by true e =
          judged
          ∙ ap
          (λ (v : Walked).
          judged_by tag_of (wav.is_wave b) (leb (8 + riff_size b) size && not v.overruns) v (part_of b
          v.format.body v.format.size))
          (walk_same (leb-true (8 + riff_size b) size e))
      by false e =
          judged
          ∙ ap
          (λ (t : Bool).
          judged_by tag_of (wav.is_wave b) (t && not (walk_in b size).overruns) (walk_in b size) (fmt_in b size))
          e
          ∙ gone (wav.is_wave b) (walk_in b size) (fmt_in b size)
          ∙ past tag_of b (leb-false (8 + riff_size b) size e)
