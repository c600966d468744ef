-- An answer by what it depends on: the tag, the first two tests, the walk and the body of the `fmt `. Assumes nothing.
use mathlib.Core.Path.{◌≡◌, refl, ap, ◌∙◌}
use mathlib.Core.Bool.{Bool, true, false}
use mathlib.Core.List.{List, [], ◌∷◌}
use Prim.Native.Nat.{ℕ}
use Rattle.refusal_order.specs.Order.{◌unless◌, first_of}
use Rattle.riff_chunks.specs.declared.Walked.{Walked}
use Rattle.wav.specs.declared.Found.{Found}
use Rattle.wav_format.specs.Format.{channels, rate, bits, kind_of, format_ok}
use Rattle.wav.specs.Wave.{walk_in, part_of, fmt_of, is_wave, within, tag_in, answered, found_by}

abbrev pub judged : ℕ → Bool → Bool → Walked → List ℕ → Found
judged t is fit v f =
    answered
    (first_of
    (9 unless is
    ∷ 10 unless fit
    ∷ 11 unless v.format.found
    ∷ 12 unless v.samples.found
    ∷ 13 unless format_ok t f v.format.size v.samples.size
    ∷ []))
    (record {
      kind = kind_of t (bits f);
      channels = channels f;
      rate = rate f;
      start = v.samples.body;
      length = v.samples.size;
    })

-- Readings that take the same tag answer alike.
pub by-tag : (f g : List ℕ → ℕ → ℕ) (b : List ℕ) → tag_in f b ≡ tag_in g b → found_by f b ≡ found_by g b
by-tag f g b e = ap (λ (t : ℕ). judged t (is_wave b) (within b) (walk_in b) (fmt_of b)) e

module _ (tag_of : List ℕ → ℕ → ℕ) where
  abbrev pub judged_by : Bool → Bool → Walked → List ℕ → Found
  judged_by is fit v f = judged (tag_of f v.format.size) is fit v f

  -- The body matters only if the first four tests pass.
  pub body-matters : (is fit : Bool) (v : Walked) (f g : List ℕ)
      → (fit ≡ true → v.format.found ≡ true → v.samples.found ≡ true → f ≡ g)
      → judged_by is fit v f ≡ judged_by is fit v g
  body-matters false fit v f g h = refl
  body-matters true false v f g h = refl
  body-matters true true v f g h = by v.format.found v.samples.found refl refl
    where
      by : (p q : Bool) → v.format.found ≡ p → v.samples.found ≡ q → judged_by true true v f ≡ judged_by true true v g
      by true true d e = rw (h refl d e)
      by true false d e = rw (d, e)
      by false q d e = rw d

  -- Files with the same first two tests, walk and body are answered alike.
  pub same-answers : (b c : List ℕ) → is_wave b ≡ is_wave c → within b ≡ within c → walk_in b ≡ walk_in c
      → (within b ≡ true → (walk_in b).format.found ≡ true → (walk_in b).samples.found ≡ true
      → part_of b (walk_in b).format.body (walk_in b).format.size
      ≡ part_of c (walk_in b).format.body (walk_in b).format.size)
      → found_by tag_of b ≡ found_by tag_of c
  same-answers b c i w v h =
      let body = part_of c (walk_in b).format.body (walk_in b).format.size in
      body-matters (is_wave b) (within b) (walk_in b) (fmt_of b) body h
      ∙ ap (λ (t : Bool). judged_by t (within b) (walk_in b) body) i
      ∙ ap (λ (t : Bool). judged_by (is_wave c) t (walk_in b) body) w
      ∙ ap (λ (u : Walked). judged_by (is_wave c) (within c) u (part_of c u.format.body u.format.size)) v
