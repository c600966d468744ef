-- W10d. The walk over a written RF64 or BW64 sees `ds64`, `fmt `, for float `fact`, then `data`, and none of them runs
-- past the end. Chunk after chunk, kind by kind. Assumes nothing.
use mathlib.Core.Path.{◌≡◌, refl, ap, ◌∙◌}
use mathlib.Core.Bool.{true, false, cond}
use mathlib.Core.List.{List, [], ◌∷◌}
use Prim.Native.Nat.{ℕ, ◌+◌, ◌^◌, ◌≤◌, ◌<◌}
use native.Mathlib.Omega.{arith}
use borrow.Author.Tests.{le-ltb, le-leb}
use Rattle.sample_kind.specs.declared.SampleKind.{SampleKind}
use Rattle.sample_kind.specs.declared.SampleKind.TheVariants.{Pcm16, Pcm24, Float32}
use Rattle.riff_chunks.specs.declared.Chunk.{Chunk}
use Rattle.riff_chunks.specs.declared.Walked.{Walked}
use Rattle.riff_chunks.specs.Chunks.{after, overrun, first}
use Rattle.riff_chunks.specs.Walk.{riff_sought, is_last, walked_from, seen_of}
use Rattle.riff_chunks.proofs.Walks.{walked_one}
use Rattle.long_wav.specs.Reading.{chunk_in, missing}
use Rattle.wav_header.specs.Header.{size_of}
use Rattle.wav_header.specs.Fields.{format_size}
use Rattle.long_header.specs.declared.Form.{Form}
use Rattle.long_header.specs.LongHeader.{long_header_length}
use Rattle.long_back.proofs.Places.{ds64_chunk, fmt_chunk, fact_chunk, data_chunk, bytes, ds64-at, fmt-at, fact-at}
use Rattle.long_back.proofs.Places.{data-at}

-- What a walk over a written file sees.
abbrev pub seen : SampleKind → ℕ → Walked
seen kind count =
    record {
      overruns = false;
      format = record { found = true; body = 56; size = format_size kind };
      samples = record { found = true; body = long_header_length kind; size = size_of kind count };
    }

pub walked : SampleKind → ℕ → List Chunk
walked Pcm16 count = ds64_chunk ∷ fmt_chunk Pcm16 ∷ data_chunk Pcm16 count ∷ []
walked Pcm24 count = ds64_chunk ∷ fmt_chunk Pcm24 ∷ data_chunk Pcm24 count ∷ []
walked Float32 count = ds64_chunk ∷ fmt_chunk Float32 ∷ fact_chunk ∷ data_chunk Float32 count ∷ []

-- One step of a walk over any bytes: the chunk at the place, then the chunks behind it.
step : (b : List ℕ) (end at : ℕ) (c : Chunk) → chunk_in b at ≡ c → at + 8 ≤ end
    → walked_from riff_sought (chunk_in b) end at
    ≡ c ∷ cond (is_last riff_sought c) [] (walked_from riff_sought (chunk_in b) end (after c))
step b end at c e h =
    walked_one riff_sought (chunk_in b) (λ p. refl) end at h
    ∙ ap (λ (d : Chunk). d ∷ cond (is_last riff_sought d) [] (walked_from riff_sought (chunk_in b) end (after d))) e

module _ (channels rate count : ℕ) (rest : List ℕ) (form : Form) (end : ℕ) where
  abbrev b : SampleKind → List ℕ
  b = bytes channels rate count rest form

  pub walked-is : (kind : SampleKind) → size_of kind count < 256 ^ 8 → long_header_length kind ≤ end
      → walked_from riff_sought (chunk_in (b kind)) end 12 ≡ walked kind count
  unfolding walked
  walked-is Pcm16 h l =
      step (b Pcm16) end 12 ds64_chunk (ds64-at channels rate count rest form Pcm16) (omega arith)
      ∙ ap (λ (cs : List Chunk). ds64_chunk ∷ cs)
      (step (b Pcm16) end 48 (fmt_chunk Pcm16) (fmt-at channels rate count rest form Pcm16) (omega arith)
      ∙ ap (λ (cs : List Chunk). fmt_chunk Pcm16 ∷ cs)
      (step (b Pcm16) end 72 (data_chunk Pcm16 count) (data-at channels rate count rest form Pcm16 h) (omega arith)))
  walked-is Pcm24 h l =
      step (b Pcm24) end 12 ds64_chunk (ds64-at channels rate count rest form Pcm24) (omega arith)
      ∙ ap (λ (cs : List Chunk). ds64_chunk ∷ cs)
      (step (b Pcm24) end 48 (fmt_chunk Pcm24) (fmt-at channels rate count rest form Pcm24) (omega arith)
      ∙ ap (λ (cs : List Chunk). fmt_chunk Pcm24 ∷ cs)
      (step (b Pcm24) end 72 (data_chunk Pcm24 count) (data-at channels rate count rest form Pcm24 h) (omega arith)))
  walked-is Float32 h l =
      step (b Float32) end 12 ds64_chunk (ds64-at channels rate count rest form Float32) (omega arith)
      ∙ ap (λ (cs : List Chunk). ds64_chunk ∷ cs)
      (step (b Float32) end 48 (fmt_chunk Float32) (fmt-at channels rate count rest form Float32) (omega arith)
      ∙ ap (λ (cs : List Chunk). fmt_chunk Float32 ∷ cs)
      (step (b Float32) end 74 fact_chunk (fact-at channels rate count rest form) (omega arith)
      ∙ ap (λ (cs : List Chunk). fact_chunk ∷ cs)
      (step (b Float32) end 86 (data_chunk Float32 count) (data-at channels rate count rest form Float32 h)
      (omega arith))))

-- None of them runs past an end that lies behind the samples.
pub seen-is : (kind : SampleKind) (count end : ℕ) → long_header_length kind + size_of kind count ≤ end
    → seen_of riff_sought end (walked kind count) ≡ seen kind count
unfolding walked overrun first
seen-is Pcm16 count end l =
    rw (le-ltb end 48 (omega arith), le-ltb end 72 (omega arith), le-ltb end (80 + size_of Pcm16 count) l)
seen-is Pcm24 count end l =
    rw (le-ltb end 48 (omega arith), le-ltb end 72 (omega arith), le-ltb end (80 + size_of Pcm24 count) l)
seen-is Float32 count end l =
    rw (
      le-ltb end 48 (omega arith),
      le-ltb end 74 (omega arith),
      le-ltb end 86 (omega arith),
      le-ltb end (94 + size_of Float32 count) l,
    )

-- A prefix that holds the header holds the heads of all its chunks.
pub heads-there : (kind : SampleKind) (count n : ℕ) → long_header_length kind ≤ n → missing n (walked kind count) ≡ 0
unfolding walked missing
heads-there Pcm16 count n l = rw (le-leb 20 n (omega arith), le-leb 56 n (omega arith), le-leb 80 n (omega arith))
heads-there Pcm24 count n l = rw (le-leb 20 n (omega arith), le-leb 56 n (omega arith), le-leb 80 n (omega arith))
heads-there Float32 count n l =
    rw (le-leb 20 n (omega arith), le-leb 56 n (omega arith), le-leb 82 n (omega arith), le-leb 94 n (omega arith))
