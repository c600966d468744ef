-- W12. The identifiers are the letters `COMM` and `SSND`. Assumes nothing.
use mathlib.Core.Path.{◌≡◌, refl}
use mathlib.Core.List.{[], ◌∷◌}
use Rattle.word_bytes.specs.Bytes.{bytes_value}
use Rattle.form_chunks.specs.Form.{comm_id, ssnd_id}

pub comm-letters : comm_id ≡ bytes_value (67 ∷ 79 ∷ 77 ∷ 77 ∷ [])
unfolding bytes_value
comm-letters = refl

pub ssnd-letters : ssnd_id ≡ bytes_value (83 ∷ 83 ∷ 78 ∷ 68 ∷ [])
unfolding bytes_value
ssnd-letters = refl
