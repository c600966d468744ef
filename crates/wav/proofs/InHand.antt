-- The values that `read_by` and `fmt_told` have are those that the definitions name, and an answer is determined by its
-- number. Assumes nothing.
use mathlib.Core.Path.{◌≡◌, refl, ap, ◌∙◌}
use mathlib.Core.Bool.{Bool, true, false, cond, not, ◌&&◌}
use mathlib.Core.List.{List, [], ◌∷◌}
use Prim.Native.Nat.{ℕ, zero, suc, ◌+◌, ◌<◌}
use borrow.Author.Tests.{lt-leb}
use lib.Dec.{leb}
use lib.ListN.{length}
use Rattle.refusal_order.specs.Order.{◌unless◌, first_of}
use Rattle.riff_chunks.specs.declared.Walked.{Walked}
use Rattle.riff_chunks.specs.Walk.{walk_of}
use Rattle.wav.specs.declared.Found.TheVariants as found
use Rattle.wav.specs.declared.Told.{Told}
use Rattle.wav.specs.declared.Wave.{Wave}
use Rattle.wav_format.specs.Format.{tag, channels, block, bits, format_ok}
use Rattle.wav.specs.Wave.{riff_size, walk_in, part_of, fmt_of, is_wave, tag_in, tests_of, verdict, wave_in, answered}
use Rattle.wav.specs.Wave.{found_of, found_by, told_in}

pub refused : (k : ℕ) (w : Wave) → (k ≡ 0 → ⊥) → found.Refused k ≡ answered k w
refused zero w h = absurd (h refl)
refused (suc k) w h = refl

pub taken : (k : ℕ) (w : Wave) → k ≡ 0 → found.Wave w ≡ answered k w
taken k w h = rw h

-- The tests of `first`, in their order.
pub in_order : (wave inside : Bool) (t : ℕ) (f : List ℕ) (w : Walked) {t13 : Bool} {r : ℕ}
    → t13 ≡ format_ok t f w.format.size w.samples.size
    → r ≡ first_of (9 unless wave ∷ 10 unless inside ∷ 11 unless w.format.found ∷ 12 unless w.samples.found
    ∷ 13 unless t13 ∷ [])
    → r ≡ first_of (tests_of wave inside t f w)
in_order wave inside t f w p q = q ∙ rw p

-- The RIFF runs past the file.
pub past : (tag_of : List ℕ → ℕ → ℕ) (b : List ℕ) → length b < 8 + riff_size b
    → found.Refused (cond (is_wave b) 10 9) ≡ answered (verdict tag_of b) (wave_in tag_of b)
past tag_of b h = rw (lt-leb (8 + riff_size b) (length b) h) (by (is_wave b))
  where
    by : (t : Bool) → found.Refused (cond t 10 9) ≡ answered (cond t 10 9) (wave_in tag_of b)
    by true = refl
    by false = refl

-- The walk, the body of the `fmt ` and the tag that the reading takes.
pub record InHand (tag_of : List ℕ → ℕ → ℕ) (b : List ℕ) (w : Walked) (f : List ℕ) (t : ℕ) : Type 0 where
  pub walk_is : w ≡ walk_in b
  pub fmt-is : f ≡ fmt_of b
  pub tag_is : t ≡ tag_in tag_of b

pub in-hand : (tag_of : List ℕ → ℕ → ℕ) (b : List ℕ) (size : ℕ) (w : Walked) (f : List ℕ) (t : ℕ) → size ≡ riff_size b
    → w ≡ walk_of b (8 + size) → f ≡ part_of b w.format.body w.format.size → t ≡ tag_of f w.format.size
    → InHand tag_of b w f t
in-hand tag_of b size w f t s k l e =
    let walk = k ∙ ap (λ (n : ℕ). walk_of b (8 + n)) s in
    let body = l ∙ ap (λ (v : Walked). part_of b v.format.body v.format.size) walk in
    record {
      walk_is = walk;
      fmt-is = body;
      tag_is = e ∙ rw body (ap (λ (v : Walked). tag_of (fmt_of b) v.format.size) walk);
    }

module _ (tag_of : List ℕ → ℕ → ℕ) (b : List ℕ) (w : Walked) (f : List ℕ) (t : ℕ) (h : InHand tag_of b w f t) where
  pub found-is : (t9 t10 : Bool) → t9 ≡ is_wave b → t10 ≡ leb (8 + riff_size b) (length b) && not w.overruns
      → found_of t9 t10 t f w ≡ found_by tag_of b
  found-is t9 t10 e9 e10 =
      rw (e9, e10, h.fmt-is, h.tag_is)
      (ap (λ (v : Walked). found_of (is_wave b) (leb (8 + riff_size b) (length b) && not v.overruns) (tag_in tag_of b)
      (fmt_of b) v)
      h.walk_is)

  pub told_is : ◌≡◌ {A = Told}
      (record {
        size = w.format.size;
        tag = tag f;
        channels = channels f;
        block = block f;
        bits = bits f;
        samples = w.samples.size;
      })
      (told_in b)
  told_is =
      rw h.fmt-is
      (ap
      (λ (v : Walked).
      record {
        size = v.format.size;
        tag = tag (fmt_of b);
        channels = channels (fmt_of b);
        block = block (fmt_of b);
        bits = bits (fmt_of b);
        samples = v.samples.size;
      })
      h.walk_is)
