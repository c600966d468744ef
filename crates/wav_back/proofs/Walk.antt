-- W2b. The walk over a written file sees `fmt `, for float `fact`, then `data`, and none of them runs past the end.
-- Chunk after chunk, kind by kind. Assumes nothing.
use mathlib.Core.Path.{◌≡◌, refl, ap, ◌∙◌}
use mathlib.Core.Bool.{true, false, cond}
use mathlib.Core.List.{List, [], ◌∷◌, ◌++◌}
use Prim.Native.Nat.{ℕ, ◌+◌, ◌-◌, ◌/◌, ◌^◌, ◌≤◌, ◌<◌, min}
use native.Mathlib.Nat.{min-eq_left}
use native.Mathlib.Omega.{arith}
use borrow.Author.Tests.{le-ltb}
use lib.Dec.{lit≤}
use lib.ListN.{length, length-append}
use Rattle.word_bytes.specs.Bytes.{bytes_value}
use Rattle.sample_kind.specs.declared.SampleKind.{SampleKind}
use Rattle.sample_kind.specs.declared.SampleKind.TheVariants.{Pcm16, Pcm24, Float32}
use Rattle.riff_chunks.specs.declared.Chunk.{Chunk}
use Rattle.riff_chunks.specs.declared.Walked.{Walked}
use Rattle.riff_chunks.specs.Chunks.{chunk_at, after, overrun, first}
use Rattle.riff_chunks.specs.Walk.{riff_sought, is_last, walked_from, seen_of, walk_to}
use Rattle.riff_chunks.proofs.Walks.{walked_one}
use Rattle.wav.specs.Wave.{riff_size, walk_in}
use Rattle.wav_header.specs.Header.{header_length, size_of, pad_of, file_length, header_of}
use Rattle.wav_header.specs.Fields.{format_size, data_for}
use Rattle.wav_header.proofs.Sizes.{long-header}
use Rattle.wav_header.proofs.Long.{length-header}
use Rattle.wav_back.proofs.Fields.{riff-size}
use Rattle.wav_back.proofs.Places.{middle, header_is, fmt_chunk, fact_chunk, data_chunk}
use Rattle.wav_back.proofs.Places.{bytes, data-at, fact-at, fmt-at}

-- What a walk over a written file sees.
abbrev pub seen : SampleKind → ℕ → Walked
seen kind count =
    record {
      overruns = false;
      format = record { found = true; body = 20; size = format_size kind };
      samples = record { found = true; body = header_length kind; size = size_of kind count };
    }

-- One step of a walk over any bytes: the chunk at the place, then the chunks behind it.
step : (b : List ℕ) (end at : ℕ) (c : Chunk) → chunk_at bytes_value b at ≡ c → at + 8 ≤ end
    → walked_from riff_sought (chunk_at bytes_value b) end at
    ≡ c ∷ cond (is_last riff_sought c) [] (walked_from riff_sought (chunk_at bytes_value b) end (after c))
step b end at c e h =
    walked_one riff_sought (chunk_at bytes_value b) (λ p. refl) end at h
    ∙ ap
    (λ (d : Chunk).
    d ∷ cond (is_last riff_sought d) [] (walked_from riff_sought (chunk_at bytes_value b) end (after d))) e

module _ (channels rate count : ℕ) (rest : List ℕ) where
  abbrev b : SampleKind → List ℕ
  b = bytes channels rate count rest

  -- The chunks of the walk, if the end lies behind them.
  walked : SampleKind → List Chunk
  walked Pcm16 = fmt_chunk Pcm16 ∷ data_chunk Pcm16 count ∷ []
  walked Pcm24 = fmt_chunk Pcm24 ∷ data_chunk Pcm24 count ∷ []
  walked Float32 = fmt_chunk Float32 ∷ fact_chunk ∷ data_chunk Float32 count ∷ []

  module _ (end : ℕ) where
    walked-is : (kind : SampleKind) → size_of kind count < 256 ^ 4 → header_length kind ≤ end
        → walked_from riff_sought (chunk_at bytes_value (b kind)) end 12 ≡ walked kind
    unfolding walked
    walked-is Pcm16 h l =
        step (b Pcm16) end 12 (fmt_chunk Pcm16) (fmt-at channels rate count rest Pcm16 (lit≤ tt))
        (omega arith)
        ∙ ap (λ (cs : List Chunk). fmt_chunk Pcm16 ∷ cs)
        (step (b Pcm16) end 36 (data_chunk Pcm16 count) (data-at channels rate count rest Pcm16 h) (omega arith))
    walked-is Pcm24 h l =
        step (b Pcm24) end 12 (fmt_chunk Pcm24) (fmt-at channels rate count rest Pcm24 (lit≤ tt))
        (omega arith)
        ∙ ap (λ (cs : List Chunk). fmt_chunk Pcm24 ∷ cs)
        (step (b Pcm24) end 36 (data_chunk Pcm24 count) (data-at channels rate count rest Pcm24 h) (omega arith))
    walked-is Float32 h l =
        step (b Float32) end 12 (fmt_chunk Float32) (fmt-at channels rate count rest Float32 (lit≤ tt))
        (omega arith)
        ∙ ap (λ (cs : List Chunk). fmt_chunk Float32 ∷ cs)
        (step (b Float32) end 38 fact_chunk (fact-at channels rate count rest) (omega arith)
        ∙ ap (λ (cs : List Chunk). fact_chunk ∷ cs)
        (step (b Float32) end 50 (data_chunk Float32 count) (data-at channels rate count rest Float32 h) (omega arith)))

    -- None of them runs past an end that lies behind the samples.
    seen-is : (kind : SampleKind) → header_length kind + size_of kind count ≤ end
        → seen_of riff_sought end (walked kind) ≡ seen kind count
    unfolding walked overrun first
    seen-is Pcm16 l = rw (le-ltb end 36 (omega arith), le-ltb end (44 + size_of Pcm16 count) l)
    seen-is Pcm24 l = rw (le-ltb end 36 (omega arith), le-ltb end (44 + size_of Pcm24 count) l)
    seen-is Float32 l =
        rw (le-ltb end 38 (omega arith), le-ltb end 50 (omega arith), le-ltb end (58 + size_of Float32 count) l)

  module _ (kind : SampleKind) (short : file_length kind count - 8 ≤ 2 ^ 32 - 1)
      (held : size_of kind count + pad_of kind count ≤ length rest) where
    pub riff-size-is : riff_size (b kind) ≡ file_length kind count - 8
    riff-size-is =
        ap riff_size (header_is kind channels rate count rest)
        ∙ riff-size kind channels rate (file_length kind count - 8)
        (middle kind (count / channels) ++ (data_for (size_of kind count) ++ rest)) (omega arith)

    pub whole_length : length (b kind) ≡ header_length kind + length rest
    whole_length =
        length-append (header_of kind channels rate count) rest ∙ rw (length-header kind channels rate count)

    pub walk_is : walk_in (b kind) ≡ seen kind count
    walk_is =
        let l = long-header kind in
        let e : 8 + riff_size (b kind) ≡ file_length kind count = omega (arith, riff-size-is) in
        let m : min (file_length kind count) (length (b kind)) ≡ file_length kind count =
        min-eq_left (omega (arith, whole_length)) in
        ap (λ (n : ℕ). walk_to riff_sought (chunk_at bytes_value (b kind)) (min n (length (b kind)))) e
        ∙ ap (λ (n : ℕ). walk_to riff_sought (chunk_at bytes_value (b kind)) n) m
        ∙ ap (seen_of riff_sought (file_length kind count))
        (walked-is (file_length kind count) kind (omega arith) (omega arith))
        ∙ seen-is (file_length kind count) kind (omega arith)
