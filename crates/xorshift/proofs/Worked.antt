-- P7, P9. Document 01's worked numbers of the generator and of the seeds, computed. Assumes nothing.
use mathlib.Core.Path.{◌≡◌, refl}
use mathlib.Core.List.{[], ◌∷◌}
use Prim.Native.Nat.{◌/◌, ◌^◌}
use Rattle.wrapping_u64.specs.Xor.{xor_to}
use Rattle.xorshift.specs.Xorshift.{step_of, value_of}
use Rattle.xorshift.specs.Seeds.{flutter_seed_of}

pub P7 : (step_of 1 ∷ value_of (step_of 1) ∷ value_of (step_of 1) / 2 ^ 11 ∷ [])
    ≡ 0x200_0001 ∷ 0x47E4_CE4B_896C_DD1D ∷ 0x8_FC99_C971_2D9B ∷ []
unfolding xor_to step_of
P7 = refl

pub P9 : flutter_seed_of 0xD1B5_4A32_D192_ED03 ≡ 0xA076_1D64_78BD_642F
unfolding xor_to
P9 = refl
