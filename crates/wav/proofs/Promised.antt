-- W1a, W1b, W1j. What a reading promises, however it takes the tag: exactly when each number of 9 to 13 is given, and
-- that the samples are all there if none is. By the table of tests and what they show. Assumes nothing.
use mathlib.Core.Path.{◌≡◌, refl, sym, ◌∙◌}
use mathlib.Core.Logic.{◌↔◌}
use mathlib.Core.Bool.{Bool, true, false, true≢false, cond, ◌&&◌, ◌||◌}
use mathlib.Core.List.{List}
use Prim.Native.Nat.{ℕ, zero, suc, ◌+◌, ◌/◌, ◌<◌}
use native.Mathlib.Omega.{arith}
use borrow.Author.Tests.{eqb-true, lt-leb}
use lib.Dec.{eqb}
use lib.ListN.{length, length-take, length-drop}
use Rattle.refusal_order.specs.Order.{First, number_of, line_of}
use Rattle.refusal_order.proofs.First.{first-given, given-first}
use Rattle.riff_chunks.specs.Walk.{riff_sought, end_in, walked_from}
use Rattle.riff_chunks.specs.Chunks.{chunk_at}
use Rattle.riff_chunks.proofs.Found.{fits}
use Rattle.word_bytes.specs.Bytes.{bytes_value}
use Rattle.sample_kind.specs.declared.SampleKind.TheVariants.{Pcm16, Pcm24, Float32}
use Rattle.sample_kind.specs.Kinds.{width_of, frame_of}
use Rattle.wav.specs.declared.Found.TheVariants as found
use Rattle.wav.specs.declared.Wave.{Wave}
use Rattle.wav_format.specs.Format.{block, bits, listed, kind_of}
use Rattle.wav.specs.Wave.{riff_size, walk_in, fmt_of, is_wave, tag_in, tests, verdict, wave_in, answered, found_by}
use Rattle.wav.specs.Accepted.{Accepted}
use Rattle.wav.proofs.Passed.{formatted, all-passed}

-- W1a. 9 + k is given exactly if test k, counted from 0, is the first of the five that fails.
pub exactly-when : (tag_of : List ℕ → ℕ → ℕ) (b : List ℕ) (k : ℕ) → verdict tag_of b ≡ 9 + k ↔ First (tests tag_of b) k
exactly-when tag_of b k = (given, λ w. first-given (tests tag_of b) k w ∙ number k w)
  where
    number : (j : ℕ) → First (tests tag_of b) j → number_of (line_of (tests tag_of b) j) ≡ 9 + j
    number zero w = refl
    number (suc zero) w = refl
    number (suc (suc zero)) w = refl
    number (suc (suc (suc zero))) w = refl
    number (suc (suc (suc (suc zero)))) w = refl
    number (suc (suc (suc (suc (suc j))))) w = absurd (true≢false w.fails)

    given : verdict tag_of b ≡ 9 + k → First (tests tag_of b) k
    given e =
        let w = given-first (tests tag_of b) (8 + k) (e ∙ omega arith) in
        let same : w.0 ≡ k = omega (arith, number w.0 w.1.0, w.1.1) in
        rw same at w.1.0

-- W1j. The RIFF counts as a chunk for 10.
pub riff-past : (tag_of : List ℕ → ℕ → ℕ) (b : List ℕ) → is_wave b ≡ true → length b < 8 + riff_size b
    → verdict tag_of b ≡ 10
riff-past tag_of b w h = rw (w, lt-leb (8 + riff_size b) (length b) h)

-- A listed kind has whole bytes of eight bits.
width_is : (t n : ℕ) → listed t n ≡ true → width_of (kind_of t n) ≡ n / 8
width_is t n h = by (eqb t 3) (eqb t 1) (eqb n 16) (eqb n 24) (eqb n 32) refl refl refl refl refl h
  where
    by : (t3 t1 n16 n24 n32 : Bool) → eqb t 3 ≡ t3 → eqb t 1 ≡ t1 → eqb n 16 ≡ n16 → eqb n 24 ≡ n24 → eqb n 32 ≡ n32
        → (t1 && (n16 || n24)) || (t3 && n32) ≡ true → width_of (cond t3 Float32 (cond n16 Pcm16 Pcm24)) ≡ n / 8
    by true true n16 n24 n32 p q a b c h = absurd (omega (arith, eqb-true t 3 p, eqb-true t 1 q))
    by true false n16 n24 true p q a b c h = rw (eqb-true n 32 c)
    by true false n16 n24 false p q a b c h = absurd (true≢false (sym h))
    by false false n16 n24 n32 p q a b c h = absurd (true≢false (sym h))
    by false true true n24 n32 p q a b c h = rw (eqb-true n 16 a)
    by false true false true n32 p q a b c h = rw (eqb-true n 24 b)
    by false true false false n32 p q a b c h = absurd (true≢false (sym h))

-- An answer with samples, by its number.
pub wave-of : (k : ℕ) (v w : Wave) → answered k v ≡ found.Wave w → (k ≡ 0) × (v ≡ w)
wave-of zero v w e = (refl, cc)
wave-of (suc k) v w e = let z : ◌≡◌ {A = ℕ} 0 1 = cc in absurd (omega arith)

module _ (tag_of : List ℕ → ℕ → ℕ) (b : List ℕ) where
  by_tests : verdict tag_of b ≡ 0 → Accepted b (wave_in tag_of b)
  by_tests z =
      let p = all-passed tag_of b z in
      let f = formatted (tag_in tag_of b) (fmt_of b) (walk_in b).format.size (walk_in b).samples.size p.format-ok in
      let frame_is : frame_of (wave_in tag_of b).kind (wave_in tag_of b).channels ≡ block (fmt_of b) =
      rw (width_is (tag_in tag_of b) (bits (fmt_of b)) f.is-listed) (sym f.block-is) in
      let cs = walked_from riff_sought (chunk_at bytes_value b) (end_in b (8 + riff_size b)) 12 in
      let ends = fits (end_in b (8 + riff_size b)) riff_sought.samples cs p.fits p.has-samples in
      let held = p.held in
      record {
        some = f.some;
        few = f.few;
        frame = rw frame_is f.frame;
        frames = rw frame_is f.frames;
        inside = omega arith;
        held = held;
        whole = simp (length-take, length-drop) (omega arith);
      }

  -- W1b, W1c. If samples are found they are all there, in one or two channels and in whole frames.
  pub accepted : (w : Wave) → found_by tag_of b ≡ found.Wave w → Accepted b w
  accepted w e =
      let o = wave-of (verdict tag_of b) (wave_in tag_of b) w e in
      rw o.1 at (by_tests o.0)
