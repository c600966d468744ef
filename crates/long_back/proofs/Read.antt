-- W10d. A written RF64 or BW64 is read back from its header by both readings, whatever bytes follow it: the same kind,
-- channels and rate, and the place and the number of bytes of its samples. From the walk and the fields. Assumes
-- nothing.
use mathlib.Core.Path.{◌≡◌, refl, sym, ap, ◌∙◌}
use mathlib.Core.Bool.{true, false, not}
use mathlib.Core.List.{List, ◌++◌}
use Prim.Native.Nat.{ℕ, ◌+◌, ◌*◌, ◌%◌, ◌^◌, ◌≤◌}
use native.Mathlib.Omega.{arith}
use borrow.Author.Tests.{le-leb, ne_eqb}
use lib.Dec.{leb, lit≤}
use lib.ListN.{length, drop}
use Rattle.refusal_order.specs.Order.{first_of}
use Rattle.sample_kind.specs.declared.SampleKind.{SampleKind}
use Rattle.sample_kind.specs.Kinds.{width_of, frame_of}
use Rattle.sample_kind.proofs.Widths.{few_bytes}
use Rattle.riff_chunks.specs.declared.Walked.{Walked}
use Rattle.riff_chunks.specs.Walk.{riff_sought, seen_of, walked_from, walk_to}
use Rattle.wav_format.specs.Format.{number, tag, rate, block, bits, format_ok}
use Rattle.wav_format.specs.Format.{channels as channels_of}
use Rattle.wav_format.specs.Tags.{plain_tag, wrapper, wraps, wrapped_tag}
use Rattle.wav.specs.declared.Found.TheVariants as found
use Rattle.wav.specs.declared.Wave.{Wave}
use Rattle.wav.specs.Wave.{part_of}
use Rattle.wav.proofs.Answers.{judged_by}
use Rattle.true_sizes.specs.Sizes.{full, entry_count, entries_from, all_small, small_sizes}
use Rattle.wav_opening.specs.Opening.{has_ds64, true_riff, end_of, opening_needs, opening_tests}
use Rattle.long_wav.specs.Reading.{chunk_in, walk_in, missing, header_by, header_in, header_wrapped}
use Rattle.long_laws.proofs.Openings.{met, met-12, met-20, met-48}
use Rattle.long_laws.proofs.Longer.{walked-is as walk-answers}
use Rattle.wav_header.specs.Header.{size_of, pad_of, tag_of}
use Rattle.wav_header.specs.Fields.{format_size, start_for, data_for}
use Rattle.wav_header.proofs.Sizes.{narrow, long-header, short-header}
use Rattle.wav_back.proofs.Formats.{format-long, small-tag, kind-is, fields-ok}
use Rattle.wav_back.proofs.Fields.{tag_is, channels-are, rate-is, block-is, bits_are, number-inside}
use Rattle.wav_back.proofs.Places.{middle}
use Rattle.long_header.specs.declared.Form.{Form}
use Rattle.long_header.specs.LongHeader.{long_header_length}
use Rattle.long_back.proofs.Places.{bytes, riff_of, is-long, letters, riff-full, ds64-there, ds64-size}
use Rattle.long_back.proofs.Places.{no-entries, true-riff, true-data, body_same}
use Rattle.long_back.proofs.Walk.{seen, walked, walked-is, seen-is, heads-there}

-- The answer for a file of `count` samples past RIFF.
abbrev pub long_wave : SampleKind → ℕ → ℕ → ℕ → Wave
long_wave kind channels rate count =
    record {
      kind = kind;
      channels = channels;
      rate = rate;
      start = long_header_length kind;
      length =
          size_of kind count;
    }

-- What follows if the file is not refused.
pub record Fits (kind : SampleKind) (channels rate count : ℕ) : Type 0 where
  pub slow : rate ≤ 768000
  pub some : 1 ≤ channels
  pub few : channels ≤ 2
  pub whole : count % channels ≡ 0
  pub small : size_of kind count ≤ 2 ^ 40

module _ (form : Form) (kind : SampleKind) (channels rate' count : ℕ) (rest : List ℕ)
    (p : Fits kind channels rate' count) where
  abbrev pub b : List ℕ
  b = bytes channels rate' count rest form kind

  abbrev pub size : ℕ
  size = long_header_length kind + size_of kind count + pad_of kind count

  module _ (at-hand : long_header_length kind ≤ length b) (inside : length b ≤ size) where
    -- ---- the opening
    ds64 : has_ds64 b size ≡ true
    ds64 =
        let l = long-header kind in
        rw (
          ds64-there channels rate' count rest form kind,
          ds64-size channels rate' count rest form kind,
          le-leb 48 size (omega arith),
        )

    riff : true_riff b size ≡ riff_of channels rate' count rest kind
    riff =
        let l = short-header kind in
        rw (ds64, is-long channels rate' count rest form kind, riff-full channels rate' count rest form kind)
        (true-riff channels rate' count rest form kind (omega (arith, p.small)))

    end_is : end_of b size ≡ size
    end_is = let l = long-header kind in omega (arith, riff)

    small-sizes : small_sizes b ≡ true
    unfolding entries_from all_small
    small-sizes =
        rw (
          true-data channels rate' count rest form kind (omega (arith, p.small)),
          no-entries channels rate' count rest form kind,
          le-leb (size_of kind count) (2 ^ 40) p.small,
        )

    passes : first_of (opening_tests b size) ≡ 0
    passes =
        let l = long-header kind in
        rw (
          riff,
          ds64,
          small-sizes,
          letters channels rate' count rest form kind,
          is-long channels rate' count rest form kind,
          le-leb 12 size (omega arith),
          le-leb 4 (riff_of channels rate' count rest kind) (omega arith),
          le-leb (8 + riff_of channels rate' count rest kind) size (omega arith),
        )

    enough : opening_needs b size ≡ 0
    enough =
        let l = long-header kind in
        met-12 b size (omega arith) (met-20 b size (omega arith) (met-48 b size (omega arith)
        (met (length b) (leb 4 (true_riff b size)) (48 + 12 * entry_count b) 0
        (omega (arith, no-entries channels rate' count rest form kind)) refl)))

    -- ---- the walk
    chunks : walked_from riff_sought (chunk_in b) (end_of b size) 12 ≡ walked kind count
    chunks =
        ap (λ (e : ℕ). walked_from riff_sought (chunk_in b) e 12) end_is
        ∙ walked-is channels rate' count rest form size kind (omega (arith, p.small)) (omega arith)

    walk : walk_in b size ≡ seen kind count
    walk =
        ap (walk_to riff_sought (chunk_in b)) end_is
        ∙ ap (seen_of riff_sought size) (walked-is channels rate' count rest form size kind (omega (arith, p.small))
        (omega arith))
        ∙ seen-is kind count size (omega arith)

    heads : missing (length b) (walked_from riff_sought (chunk_in b) (end_of b size) 12) ≡ 0
    heads = ap (missing (length b)) chunks ∙ heads-there kind count (length b) at-hand

    -- ---- the body of `fmt `
    abbrev f : List ℕ
    f = part_of b 56 (format_size kind)

    tail : List ℕ
    tail = middle kind full ++ (data_for full ++ rest)

    in-fmt : (k at : ℕ) → at + k ≤ 16 → number k f at ≡ number k (drop 20 (start_for kind channels rate' 0 ++ tail)) at
    unfolding tail
    in-fmt k at h =
        number-inside k at (format_size kind) (drop 56 b) (omega (arith, format-long kind))
        ∙ ap (λ (l : List ℕ). number k l at) (body_same channels rate' count rest form kind)

    tag_read : tag f ≡ tag_of kind
    tag_read = in-fmt 2 0 (lit≤ tt) ∙ tag_is kind channels rate' 0 tail (omega (arith, small-tag kind))

    channels-read : channels_of f ≡ channels
    channels-read = in-fmt 2 2 (lit≤ tt) ∙ channels-are kind channels rate' 0 tail (omega (arith, p.few))

    rate-read : rate f ≡ rate'
    rate-read = in-fmt 4 4 (lit≤ tt) ∙ rate-is kind channels rate' 0 tail (omega (arith, p.slow))

    block_read : block f ≡ frame_of kind channels
    block_read =
        let l = few_bytes kind channels (omega (arith, p.few)) in
        in-fmt 2 12 (lit≤ tt) ∙ block-is kind channels rate' 0 tail (omega arith)

    bits-read : bits f ≡ 8 * width_of kind
    bits-read = in-fmt 2 14 (lit≤ tt) ∙ bits_are kind channels rate' 0 tail (omega (arith, narrow kind))

    -- ---- by any reading that takes the tag as it stands
    module _ (told : List ℕ → ℕ → ℕ) (plain : told f (format_size kind) ≡ tag f) where
      tag-told : told f (format_size kind) ≡ tag_of kind
      tag-told = plain ∙ tag_read

      format-fits : format_ok (told f (format_size kind)) f (format_size kind) (size_of kind count) ≡ true
      format-fits =
          fields-ok kind channels count (told f (format_size kind)) f p.some p.few p.whole tag-told bits-read
          channels-read block_read

      judged-is : judged_by told true true (seen kind count) f ≡ found.Wave (long_wave kind channels rate' count)
      judged-is = rw (format-fits, tag-told, bits-read, channels-read, rate-read, kind-is kind)

      pub read_by : header_by told b size ≡ found.Wave (long_wave kind channels rate' count)
      read_by =
          sym (walk-answers told b size inside enough passes heads)
          ∙ ap
          (λ (v : Walked). judged_by told true (not v.overruns) v (part_of b v.format.body v.format.size))
          walk
          ∙ judged-is

    pub read_plain : header_in b size ≡ found.Wave (long_wave kind channels rate' count)
    read_plain = read_by plain_tag refl

    -- The written tag is not that of WAVE_FORMAT_EXTENSIBLE.
    not-wrapped : wraps f (format_size kind) ≡ false
    unfolding wraps
    not-wrapped = rw (ne_eqb (tag f) wrapper (λ z. omega (arith, tag_read, small-tag kind)))

    pub read-wrapped : header_wrapped b size ≡ found.Wave (long_wave kind channels rate' count)
    read-wrapped = read_by wrapped_tag (rw not-wrapped)
