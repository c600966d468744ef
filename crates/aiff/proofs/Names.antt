-- W12. The identifiers are the letters `FORM` and `AIFF`, so AIFC is not accepted. Assumes nothing.
use mathlib.Core.Path.{◌≡◌, refl}
use mathlib.Core.List.{[], ◌∷◌}
use Rattle.word_bytes.specs.Bytes.{bytes_value}
use Rattle.aiff.specs.Aiff.{form_id, aiff_id}

pub form-letters : form_id ≡ bytes_value (70 ∷ 79 ∷ 82 ∷ 77 ∷ [])
unfolding bytes_value
form-letters = refl

pub aiff-letters : aiff_id ≡ bytes_value (65 ∷ 73 ∷ 70 ∷ 70 ∷ [])
unfolding bytes_value
aiff-letters = refl
