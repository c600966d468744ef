-- W1. The identifiers are the letters `fmt ` and `data`. Assumes nothing.
use mathlib.Core.Path.{◌≡◌, refl}
use mathlib.Core.List.{[], ◌∷◌}
use Rattle.word_bytes.specs.Bytes.{bytes_value}
use Rattle.riff_chunks.specs.Walk.{fmt_id, data_id}

pub fmt-letters : fmt_id ≡ bytes_value (102 ∷ 109 ∷ 116 ∷ 32 ∷ [])
unfolding bytes_value
fmt-letters = refl

pub data-letters : data_id ≡ bytes_value (100 ∷ 97 ∷ 116 ∷ 97 ∷ [])
unfolding bytes_value
data-letters = refl
