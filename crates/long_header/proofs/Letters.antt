-- W10. The opening byte by byte, from its letters and the bytes of its three numbers. By computing. Assumes nothing.
use mathlib.Core.Path.{◌≡◌, refl, ap, ◌∙◌}
use mathlib.Core.List.{List, [], ◌∷◌}
use Prim.Native.Nat.{ℕ}
use lib.ListN.{length, get_or}
use Rattle.word_bytes.specs.Bytes.{low_bytes}
use Rattle.long_header.specs.declared.Form.{Form}
use Rattle.long_header.specs.declared.Form.TheVariants.{Rf64, Bw64}
use Rattle.long_header.specs.LongHeader.{form_name, opening_of}

abbrev bytes : List ℕ → List ℕ → List ℕ → List ℕ → List ℕ
bytes n a b c =
    get_or n 0 0 ∷ get_or n 1 0 ∷ get_or n 2 0 ∷ get_or n 3 0 ∷ 255 ∷ 255 ∷ 255 ∷ 255 ∷
    87 ∷ 65 ∷ 86 ∷ 69 ∷ 100 ∷ 115 ∷ 54 ∷ 52 ∷
    28 ∷ 0 ∷ 0 ∷ 0 ∷ get_or a 0 0 ∷ get_or a 1 0 ∷ get_or a 2 0 ∷ get_or a 3 0 ∷
    get_or a 4 0 ∷ get_or a 5 0 ∷ get_or a 6 0 ∷ get_or a 7 0 ∷ get_or b 0 0 ∷ get_or b 1 0 ∷ get_or b 2 0
    ∷ get_or b 3 0 ∷
    get_or b 4 0 ∷ get_or b 5 0 ∷ get_or b 6 0 ∷ get_or b 7 0 ∷ get_or c 0 0 ∷ get_or c 1 0 ∷ get_or c 2 0
    ∷ get_or c 3 0 ∷
    get_or c 4 0 ∷ get_or c 5 0 ∷ get_or c 6 0 ∷ get_or c 7 0 ∷ 0 ∷ 0 ∷ 0 ∷ 0 ∷ []

spelt : (form : Form) (riff size frames : ℕ)
    → bytes (form_name form) (low_bytes 8 riff) (low_bytes 8 size) (low_bytes 8 frames)
    ≡ opening_of form riff size frames
unfolding low_bytes opening_of
spelt Rf64 riff size frames = refl
spelt Bw64 riff size frames = refl

pub spelt-from : (form : Form) (riff size frames : ℕ) (n a b c : List ℕ) → n ≡ form_name form → a ≡ low_bytes 8 riff
    → b ≡ low_bytes 8 size → c ≡ low_bytes 8 frames → bytes n a b c ≡ opening_of form riff size frames
spelt-from form riff size frames n a b c p q r s =
    ap (λ (x : List ℕ). bytes x a b c) p
    ∙ ap (λ (x : List ℕ). bytes (form_name form) x b c) q
    ∙ ap (λ (x : List ℕ). bytes (form_name form) (low_bytes 8 riff) x c) r
    ∙ ap (λ (x : List ℕ). bytes (form_name form) (low_bytes 8 riff) (low_bytes 8 size) x) s
    ∙ spelt form riff size frames

pub length-opening : (form : Form) (riff size frames : ℕ) → length (opening_of form riff size frames) ≡ 48
unfolding low_bytes opening_of
length-opening Rf64 riff size frames = refl
length-opening Bw64 riff size frames = refl
