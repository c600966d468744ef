-- W1. WAVE_FORMAT_EXTENSIBLE: what a wrapped kind must have, on both sides of each condition, and what a file says of
-- itself. By computing. Assumes nothing.
use mathlib.Core.Path.{◌≡◌, refl}
use mathlib.Core.List.{[], ◌∷◌, ◌++◌, map}
use Prim.Native.Nat.{ℕ}
use lib.ListN.{set, replicate}
use Rattle.word_bytes.specs.Bytes.{low_bytes, bytes_value}
use Rattle.riff_chunks.specs.Chunks.{chunks_from, first}
use Rattle.riff_chunks.specs.Walk.{up_to}
use Rattle.wav.specs.Wave.{told_in}
use Rattle.range_ends.specs.Files.{plain, samples, whole, of_kind, wrapping, standard}
use Rattle.range_ends.specs.Files.{refused, refused_wrapped, coded_wrapped}

-- The three kinds, with the codes 0, 1 and 2. The plain reading refuses them by 13.
pub kinds : coded_wrapped (wrapping 40 2 22 16 1 standard) ∷ coded_wrapped (wrapping 40 3 22 24 1 standard)
    ∷ coded_wrapped (wrapping 40 4 22 32 3 standard) ∷ [] ≡ 0 ∷ 1 ∷ 2 ∷ []
unfolding coded_wrapped low_bytes
kinds = refl

pub plainly : refused (wrapping 40 2 22 16 1 standard) ∷ refused (wrapping 40 3 22 24 1 standard)
    ∷ refused (wrapping 40 4 22 32 3 standard) ∷ [] ≡ 13 ∷ 13 ∷ 13 ∷ []
unfolding refused low_bytes
plainly = refl

-- The tag inside, at 16, 24 and 32 bits; a wrapper inside a wrapper is refused.
pub inner-tags : map (λ (t : ℕ). refused_wrapped (wrapping 40 2 22 16 t standard)) (0 ∷ 1 ∷ 2 ∷ 3 ∷ 65534 ∷ [])
    ≡ 13 ∷ 0 ∷ 13 ∷ 13 ∷ 13 ∷ []
unfolding refused_wrapped low_bytes
inner-tags = refl

pub inner-tags-24 : map (λ (t : ℕ). refused_wrapped (wrapping 40 3 22 24 t standard)) (1 ∷ 2 ∷ 3 ∷ [])
    ≡ 0 ∷ 13 ∷ 13 ∷ []
unfolding refused_wrapped low_bytes
inner-tags-24 = refl

pub inner-tags-32 : map (λ (t : ℕ). refused_wrapped (wrapping 40 4 22 32 t standard)) (1 ∷ 2 ∷ 3 ∷ [])
    ≡ 13 ∷ 13 ∷ 0 ∷ []
unfolding refused_wrapped low_bytes
inner-tags-32 = refl

-- The `fmt ` has at least 40 bytes; 39 and 41 have a pad byte.
pub fmt-sizes : refused_wrapped (wrapping 39 2 22 16 1 standard) ∷ refused_wrapped (wrapping 40 2 22 16 1 standard)
    ∷ refused_wrapped (wrapping 41 2 22 16 1 (standard ++ (0 ∷ 0 ∷ []))) ∷ [] ≡ 13 ∷ 0 ∷ 0 ∷ []
unfolding refused_wrapped low_bytes
fmt-sizes = refl

-- The extension has at least 22 bytes.
pub extensions : map (λ (n : ℕ). refused_wrapped (wrapping 40 2 n 16 1 standard)) (0 ∷ 21 ∷ 22 ∷ 23 ∷ [])
    ≡ 13 ∷ 13 ∷ 0 ∷ 0 ∷ []
unfolding refused_wrapped low_bytes
extensions = refl

-- All bits must be valid.
pub valid-bits : map (λ (n : ℕ). refused_wrapped (wrapping 40 3 22 n 1 standard)) (0 ∷ 16 ∷ 20 ∷ 23 ∷ 24 ∷ 25 ∷ [])
    ≡ 13 ∷ 13 ∷ 13 ∷ 13 ∷ 0 ∷ 13 ∷ []
unfolding refused_wrapped low_bytes
valid-bits = refl

-- Each of the 14 bytes of the tail counts.
pub tails : map (λ (k : ℕ). refused_wrapped (wrapping 40 2 22 16 1 (set standard k 1)))
    (0 ∷ 1 ∷ 2 ∷ 3 ∷ 4 ∷ 5 ∷ 6 ∷ 7 ∷ 8 ∷ 9 ∷ 10 ∷ 11 ∷ 12 ∷ 13 ∷ 14 ∷ [])
    ≡ replicate 14 13 ++ (0 ∷ [])
unfolding refused_wrapped low_bytes
tails = refl

-- Plain tags are read as before.
pub plain-tags : map (λ (t : ℕ). refused_wrapped (of_kind t 1 2 16 4)) (0 ∷ 1 ∷ 2 ∷ 3 ∷ 65534 ∷ [])
    ≡ 13 ∷ 0 ∷ 13 ∷ 13 ∷ 13 ∷ []
unfolding refused_wrapped low_bytes
plain-tags = refl

-- What a file says of itself: one with a wrapped kind, one without `data`, one without `fmt `, and one without bytes.
pub told : map told_in (wrapping 40 3 22 24 1 standard ∷ whole plain ∷ whole (samples 4) ∷ [] ∷ [])
    ≡ record { size = 40; tag = 65534; channels = 1; block = 3; bits = 24; samples = 12 }
    ∷ record { size = 16; tag = 1; channels = 1; block = 2; bits = 16; samples = 0 }
    ∷ record { size = 0; tag = 0; channels = 0; block = 0; bits = 0; samples = 4 }
    ∷ record { size = 0; tag = 0; channels = 0; block = 0; bits = 0; samples = 0 }
    ∷ []
unfolding chunks_from up_to first bytes_value low_bytes
told = refl
