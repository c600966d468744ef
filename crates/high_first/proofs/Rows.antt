-- Appending a byte to a number whose high byte comes first multiplies it by 256 and adds the byte. Assumes nothing.
use mathlib.Core.Path.{◌≡◌, ap, ◌∙◌}
use mathlib.Core.List.{List, [], ◌∷◌, ◌++◌, reverse-append}
use Prim.Native.Nat.{ℕ, suc, ◌+◌, ◌*◌, ◌<◌}
use lib.ListN.{length, take, get_or}
use lib.Seq.{take-suc}
use Rattle.word_bytes.specs.Bytes.{bytes_value}
use Rattle.high_first.specs.High.{big_value}

pub behind : (xs : List ℕ) (x : ℕ) → big_value (xs ++ (x ∷ [])) ≡ big_value xs * 256 + x
unfolding bytes_value
behind xs x = ap bytes_value (reverse-append xs (x ∷ []))

pub byte-read : (xs : List ℕ) (i : ℕ) → i < length xs
    → big_value (take (suc i) xs) ≡ big_value (take i xs) * 256 + get_or xs i 0
byte-read xs i h = ap big_value (take-suc xs i 0 h) ∙ behind (take i xs) (get_or xs i 0)
