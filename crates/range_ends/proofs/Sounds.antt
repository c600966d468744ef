-- W12. AIFF files: the order of 20, 10, 21, 13, 21 and 22, and both sides of each end. By computing. Assumes nothing.
use mathlib.Core.Path.{◌≡◌, refl}
use mathlib.Core.List.{[], ◌∷◌, ◌++◌, map}
use Prim.Native.Nat.{ℕ, ◌-◌, ◌^◌}
use lib.ListN.{take}
use Rattle.word_bytes.specs.Bytes.{low_bytes}
use Rattle.range_ends.specs.Sounds.{form_letters, aifc_letters, comm_letters, name_letters, high_bytes}
use Rattle.range_ends.specs.Sounds.{part}
use Rattle.range_ends.specs.Sounds.{fields_at, fields, told, held, sized, sound, sound_refused, sound_rate}

-- The order. Each file has one fault fewer than the one above it: its letters, a chunk past the end, an offset past the
-- end, three channels, a frame too many, no rate.
pub order : sound_refused (form_letters ++ (high_bytes 4 12 ++ (aifc_letters ++ part name_letters 1 [])))
    ∷ sound_refused (sound (part comm_letters 18 (fields_at 3 9 16 0 0) ++ (held 5 4 ++ part name_letters 1 [])))
    ∷ sound_refused (sound (part comm_letters 18 (fields_at 3 9 16 0 0) ++ held 5 4))
    ∷ sound_refused (sound (part comm_letters 18 (fields_at 3 9 16 0 0) ++ held 0 4))
    ∷ sound_refused (sound (part comm_letters 18 (fields_at 1 3 16 0 0) ++ held 0 4))
    ∷ sound_refused (sound (part comm_letters 18 (fields_at 1 2 16 0 0) ++ held 0 4))
    ∷ sound_refused (sound (told 2 ++ held 0 4))
    ∷ []
    ≡ 20 ∷ 10 ∷ 21 ∷ 13 ∷ 21 ∷ 22 ∷ 0 ∷ []
unfolding sound_refused low_bytes
order = refl

-- 20 and 10: one file of 54 bytes, by the FORM size that it states. Below 4; from 4 on, where there is no chunk; a
-- `COMM` and an `SSND` that run past the end; the right size; one byte more than the file has.
pub sizes : map (λ (n : ℕ). sound_refused (sized n (told 0 ++ held 0 0)))
    (0 ∷ 3 ∷ 4 ∷ 11 ∷ 12 ∷ 30 ∷ 37 ∷ 38 ∷ 45 ∷ 46 ∷ 47 ∷ (2 ^ 32 - 1) ∷ [])
    ≡ 20 ∷ 20 ∷ 21 ∷ 21 ∷ 10 ∷ 21 ∷ 21 ∷ 10 ∷ 10 ∷ 0 ∷ 10 ∷ 10 ∷ []
unfolding sound_refused low_bytes
sizes = refl

-- 20: at least twelve bytes, `FORM` and `AIFF`.
pub heads : map (λ (n : ℕ). sound_refused (take n (sized 4 []))) (0 ∷ 11 ∷ 12 ∷ []) ≡ 20 ∷ 20 ∷ 21 ∷ []
unfolding sound_refused low_bytes
heads = refl

-- 21: a `COMM` has at least 18 bytes; 17 have a pad byte.
pub comm-sizes : sound_refused (sound (part comm_letters 17 (fields 1 2 16) ++ held 0 4))
    ∷ sound_refused (sound (part comm_letters 18 (fields 1 2 16) ++ held 0 4))
    ∷ sound_refused (sound (part comm_letters 20 (fields 1 2 16 ++ (0 ∷ 0 ∷ [])) ++ held 0 4)) ∷ []
    ≡ 21 ∷ 0 ∷ 0 ∷ []
unfolding sound_refused low_bytes
comm-sizes = refl

-- 21: the offset may be odd, and may be at the end if there are no frames, but not past it.
pub offsets : map (λ (n : ℕ). sound_refused (sound (told 0 ++ held n 4))) (0 ∷ 1 ∷ 4 ∷ 5 ∷ (2 ^ 32 - 1) ∷ [])
    ≡ 0 ∷ 0 ∷ 0 ∷ 21 ∷ 21 ∷ []
unfolding sound_refused low_bytes
offsets = refl

-- 21: there are at most as many frames as the bytes after the offset hold.
pub frames : map (λ (n : ℕ). sound_refused (sound (told n ++ held 2 6))) (0 ∷ 1 ∷ 2 ∷ 3 ∷ (2 ^ 32 - 1) ∷ [])
    ≡ 0 ∷ 0 ∷ 0 ∷ 21 ∷ 21 ∷ []
unfolding sound_refused low_bytes
frames = refl

-- 13: one or two channels of 16 or 24 bits.
pub channels : map (λ (n : ℕ). sound_refused (sound (part comm_letters 18 (fields n 0 24) ++ held 0 0)))
    (0 ∷ 1 ∷ 2 ∷ 3 ∷ [])
    ≡ 13 ∷ 0 ∷ 0 ∷ 13 ∷ []
unfolding sound_refused low_bytes
channels = refl

pub bits : map (λ (n : ℕ). sound_refused (sound (part comm_letters 18 (fields 1 0 n) ++ held 0 0)))
    (15 ∷ 16 ∷ 17 ∷ 23 ∷ 24 ∷ 25 ∷ [])
    ≡ 13 ∷ 0 ∷ 13 ∷ 13 ∷ 0 ∷ 13 ∷ []
unfolding sound_refused low_bytes
bits = refl

-- 22: 7999, 8000, 768000, 768001, 44100, 44100.5 and -48000, as they are stored.
pub rates : sound_rate (sound (part comm_letters 18 (fields_at 1 0 16 0x400b 0xf9f8_0000_0000_0000) ++ held 0 0))
    ∷ sound_rate (sound (part comm_letters 18 (fields_at 1 0 16 0x400b 0xfa00_0000_0000_0000) ++ held 0 0))
    ∷ sound_rate (sound (part comm_letters 18 (fields_at 1 0 16 0x4012 0xbb80_0000_0000_0000) ++ held 0 0))
    ∷ sound_rate (sound (part comm_letters 18 (fields_at 1 0 16 0x4012 0xbb80_1000_0000_0000) ++ held 0 0))
    ∷ sound_rate (sound (part comm_letters 18 (fields_at 1 0 16 0x400e 0xac44_0000_0000_0000) ++ held 0 0))
    ∷ sound_rate (sound (part comm_letters 18 (fields_at 1 0 16 0x400e 0xac44_8000_0000_0000) ++ held 0 0))
    ∷ sound_rate (sound (part comm_letters 18 (fields_at 1 0 16 0xc00e 0xbb80_0000_0000_0000) ++ held 0 0)) ∷ []
    ≡ 0 ∷ 8000 ∷ 768000 ∷ 0 ∷ 44100 ∷ 0 ∷ 0 ∷ []
unfolding sound_rate low_bytes
rates = refl

-- `COMM` and `SSND` may stand in either order, and the first of each counts. The whole file is walked: a chunk after
-- both that runs past the end gives 10.
pub firsts : sound_refused (sound (held 0 4 ++ told 2)) ∷ sound_refused (sound (told 2 ++ (told 3 ++ held 0 4)))
    ∷ sound_refused (sound (told 3 ++ (told 2 ++ held 0 4))) ∷ sound_refused (sound (told 2 ++ (held 0 4 ++ held 9 0)))
    ∷ sound_refused (sound (told 2 ++ (held 0 4 ++ part name_letters 1 [])))
    ∷ sound_refused (sound (told 2)) ∷ sound_refused (sound (held 0 4)) ∷ []
    ≡ 0 ∷ 0 ∷ 21 ∷ 0 ∷ 10 ∷ 21 ∷ 21 ∷ []
unfolding sound_refused low_bytes
firsts = refl
