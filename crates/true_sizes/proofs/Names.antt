-- W10. The identifiers are their letters, `RF64`, `BW64` and `ds64`. Assumes nothing.
use mathlib.Core.Path.{◌≡◌, refl}
use mathlib.Core.List.{[], ◌∷◌}
use Rattle.word_bytes.specs.Bytes.{bytes_value}
use Rattle.true_sizes.specs.Sizes.{rf64_id, bw64_id, ds64_id}

pub rf64-letters : rf64_id ≡ bytes_value (82 ∷ 70 ∷ 54 ∷ 52 ∷ [])
unfolding bytes_value
rf64-letters = refl

pub bw64-letters : bw64_id ≡ bytes_value (66 ∷ 87 ∷ 54 ∷ 52 ∷ [])
unfolding bytes_value
bw64-letters = refl

pub ds64-letters : ds64_id ≡ bytes_value (100 ∷ 115 ∷ 54 ∷ 52 ∷ [])
unfolding bytes_value
ds64-letters = refl
