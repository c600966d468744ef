-- W2b. A written file is read back by both readings, whatever bytes follow it: the same kind, channels and rate, and
-- the place and the number of bytes of its samples. From the walk and the fields. Assumes nothing.
use mathlib.Core.Path.{◌≡◌, refl, ap, ◌∙◌}
use mathlib.Core.Bool.{true, false, not}
use mathlib.Core.List.{List, [], ◌∷◌, ◌++◌}
use Prim.Native.Nat.{ℕ, ◌+◌, ◌-◌, ◌*◌, ◌/◌, ◌≤◌}
use native.Mathlib.Omega.{arith}
use borrow.Author.Tests.{ne_eqb, le-leb}
use lib.Dec.{lit≤}
use lib.ListN.{length, take, drop}
use Rattle.refusal_order.specs.Order.{◌unless◌, first_of}
use Rattle.sample_kind.specs.declared.SampleKind.{SampleKind}
use Rattle.sample_kind.specs.Kinds.{width_of, frame_of}
use Rattle.sample_kind.proofs.Widths.{few_bytes}
use Rattle.riff_chunks.specs.declared.Walked.{Walked}
use Rattle.wav.specs.declared.Found.TheVariants as found
use Rattle.wav.specs.declared.Wave.{Wave}
use Rattle.wav_format.specs.Format.{number, tag, rate, block, bits, format_ok}
use Rattle.wav_format.specs.Format.{channels as channels_of}
use Rattle.wav_format.specs.Tags.{plain_tag, wrapped_tag, wrapper, wraps}
use Rattle.wav.specs.Wave.{riff_size, walk_in, part_of, fmt_of, is_wave, tag_in, verdict, wave_in}
use Rattle.wav.specs.Wave.{found_by, found_in, found_wrapped}
use Rattle.wav_header.specs.Header.{header_length, size_of, pad_of, file_length, tag_of}
use Rattle.wav_header.specs.Fields.{format_size, start_for, data_for}
use Rattle.wav_header.proofs.Planned.{Planned}
use Rattle.wav_header.proofs.Sizes.{narrow, long-header}
use Rattle.wav_back.proofs.Formats.{format-long, small-tag, kind-is, fields-ok}
use Rattle.wav_back.proofs.Fields.{riff-id, wave-id, tag_is, channels-are, rate-is, block-is, bits_are}
use Rattle.wav_back.proofs.Fields.{number-inside}
use Rattle.wav_back.proofs.Places.{middle, header_is, bytes}
use Rattle.wav_back.proofs.Walk.{seen, riff-size-is, whole_length, walk_is}

-- The answer for a file of `count` samples.
abbrev pub wave_for : SampleKind → ℕ → ℕ → ℕ → Wave
wave_for kind channels rate count =
    record { kind = kind; channels = channels; rate = rate; start = header_length kind; length = size_of kind count }

module _ (kind : SampleKind) (channels rate' count : ℕ) (rest : List ℕ)
    (p : Planned kind channels rate' count) (held : size_of kind count + pad_of kind count ≤ length rest) where
  abbrev b : List ℕ
  b = bytes channels rate' count rest kind

  size : ℕ
  size = file_length kind count - 8

  tail : List ℕ
  tail = middle kind (count / channels) ++ (data_for (size_of kind count) ++ rest)

  walk : walk_in b ≡ seen kind count
  walk = walk_is channels rate' count rest kind p.short held

  -- The body of `fmt `, and a number in it.
  fmt-is : fmt_of b ≡ take (format_size kind) (drop 20 b)
  fmt-is = ap (λ (v : Walked). part_of b v.format.body v.format.size) walk

  in-fmt : (k at : ℕ) → at + k ≤ 16
      → number k (fmt_of b) at ≡ number k (drop 20 (start_for kind channels rate' size ++ tail)) at
  unfolding size tail
  in-fmt k at h =
      ap (λ (f : List ℕ). number k f at) fmt-is
      ∙ number-inside k at (format_size kind) (drop 20 b) (omega (arith, format-long kind))
      ∙ ap (λ (l : List ℕ). number k (drop 20 l) at) (header_is kind channels rate' count rest)

  tag_read : tag (fmt_of b) ≡ tag_of kind
  tag_read = in-fmt 2 0 (lit≤ tt) ∙ tag_is kind channels rate' size tail (omega (arith, small-tag kind))

  channels-read : channels_of (fmt_of b) ≡ channels
  channels-read = in-fmt 2 2 (lit≤ tt) ∙ channels-are kind channels rate' size tail (omega (arith, p.few))

  rate-read : rate (fmt_of b) ≡ rate'
  rate-read = in-fmt 4 4 (lit≤ tt) ∙ rate-is kind channels rate' size tail (omega (arith, p.slow))

  block_read : block (fmt_of b) ≡ frame_of kind channels
  block_read =
      let l = few_bytes kind channels (omega (arith, p.few)) in
      in-fmt 2 12 (lit≤ tt) ∙ block-is kind channels rate' size tail (omega arith)

  bits-read : bits (fmt_of b) ≡ 8 * width_of kind
  bits-read = in-fmt 2 14 (lit≤ tt) ∙ bits_are kind channels rate' size tail (omega (arith, narrow kind))

  is-wave : is_wave b ≡ true
  unfolding is_wave size tail
  is-wave =
      let e = header_is kind channels rate' count rest in
      let r = ap (λ (l : List ℕ). number 4 l 0) e ∙ riff-id kind channels rate' size tail in
      let w = ap (λ (l : List ℕ). number 4 l 8) e ∙ wave-id kind channels rate' size tail in
      let l = long-header kind in
      let n = riff-size-is channels rate' count rest kind p.short held in
      rw (r, w, le-leb 12 (length b) (omega (arith, whole_length channels rate' count rest kind p.short held)))
      (le-leb 4 (riff_size b) (omega arith))

  -- For any reading that takes the tag as it stands.
  module _ (told : List ℕ → ℕ → ℕ) (plain : tag_in told b ≡ tag (fmt_of b)) where
    tag-told : tag_in told b ≡ tag_of kind
    tag-told = plain ∙ tag_read

    not-refused : verdict told b ≡ 0
    not-refused =
        let l = long-header kind in
        let n = riff-size-is channels rate' count rest kind p.short held in
        let w = whole_length channels rate' count rest kind p.short held in
        let h : 8 + riff_size b ≤ length b = omega arith in
        let f : format_ok (tag_in told b) (fmt_of b) (format_size kind) (size_of kind count) ≡ true =
        fields-ok kind channels count (tag_in told b) (fmt_of b) p.some p.few p.whole tag-told bits-read
        channels-read block_read in
        rw (is-wave, le-leb (8 + riff_size b) (length b) h)
        (ap
        (λ (v : Walked).
        first_of (10 unless not v.overruns ∷ 11 unless v.format.found ∷ 12 unless v.samples.found
        ∷ 13 unless format_ok (tag_in told b) (fmt_of b) v.format.size v.samples.size ∷ [])) walk
        ∙ rw f)

    wave-read : wave_in told b ≡ wave_for kind channels rate' count
    wave-read =
        rw (tag-told, bits-read, channels-read, rate-read, kind-is kind)
        (ap
        (λ (v : Walked).
        record {
          kind = kind;
          channels = channels;
          rate = rate';
          start = v.samples.body;
          length = v.samples.size;
        }) walk)

    pub read_by : found_by told b ≡ found.Wave (wave_for kind channels rate' count)
    read_by = rw (not-refused, wave-read)

  pub read_plain : found_in b ≡ found.Wave (wave_for kind channels rate' count)
  read_plain = read_by plain_tag refl

  -- The written tag is not that of WAVE_FORMAT_EXTENSIBLE.
  not-wrapped : wraps (fmt_of b) (walk_in b).format.size ≡ false
  unfolding wraps
  not-wrapped = rw (ne_eqb (tag (fmt_of b)) wrapper (λ z. omega (arith, tag_read, small-tag kind)))

  pub read-wrapped : found_wrapped b ≡ found.Wave (wave_for kind channels rate' count)
  read-wrapped = read_by wrapped_tag (rw not-wrapped)
