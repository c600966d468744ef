-- W12e. Numbers as they are stored, on both sides of each end: 8000, 44100 and 768000 are rates; 7999, 768001, 44100.5,
-- -48000 and infinity are not; digits that are not normalised count by their value. Assumes nothing.
use mathlib.Core.Path.{◌≡◌, refl}
use mathlib.Core.List.{[], ◌∷◌}
use Rattle.extended_rate.specs.Rate.{rate_by, rate_of}

pub ends : rate_of 0x400b 0xfa00_0000_0000_0000 ∷ rate_of 0x400b 0xf9f8_0000_0000_0000
    ∷ rate_of 0x4012 0xbb80_0000_0000_0000 ∷ rate_of 0x4012 0xbb80_1000_0000_0000 ∷ []
    ≡ 8000 ∷ 0 ∷ 768000 ∷ 0 ∷ []
unfolding rate_by
ends = refl

pub known : rate_of 0x400e 0xac44_0000_0000_0000 ∷ rate_of 0x400e 0xac44_8000_0000_0000
    ∷ rate_of 0x400e 0xbb80_0000_0000_0000 ∷ rate_of 0xc00e 0xbb80_0000_0000_0000 ∷ []
    ≡ 44100 ∷ 0 ∷ 48000 ∷ 0 ∷ []
unfolding rate_by
known = refl

-- 48000 with its digits at the right, and 8000 with one digit too few.
pub unnormalised : rate_of 0x403e 48000 ∷ rate_of 0x403f 4000 ∷ rate_of 0x4044 125 ∷ rate_of 0x403d 48001 ∷ []
    ≡ 48000 ∷ 8000 ∷ 8000 ∷ 0 ∷ []
unfolding rate_by
unnormalised = refl

pub no-numbers : rate_of 0x7fff 0x8000_0000_0000_0000 ∷ rate_of 0x7fff 0xc000_0000_0000_0000 ∷ rate_of 0x7fff 0
    ∷ rate_of 0 0 ∷ rate_of 0x3fff 0 ∷ [] ≡ 0 ∷ 0 ∷ 0 ∷ 0 ∷ 0 ∷ []
unfolding rate_by
no-numbers = refl
