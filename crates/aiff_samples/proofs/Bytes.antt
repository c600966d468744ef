-- The bytes of a number at a place, one by one, if all of them lie in the slice. Assumes nothing.
use mathlib.Core.Path.{◌≡◌, ap, ◌∙◌}
use mathlib.Core.List.{List, [], ◌∷◌}
use Prim.Native.Nat.{ℕ, suc, ◌+◌, ◌≤◌}
use native.Mathlib.Numerals.{add-one}
use native.Mathlib.Omega.{arith}
use lib.ListN.{length, take, drop, get_or}
use lib.Seq.{drop-cons}

one_byte : (k : ℕ) (b : List ℕ) (at : ℕ) → at + suc k ≤ length b
    → take (suc k) (drop at b) ≡ get_or b at 0 ∷ take k (drop (at + 1) b)
one_byte k b at h = rw (drop-cons b at 0 (omega arith), add-one)

pub two_bytes : (b : List ℕ) (at : ℕ) → at + 2 ≤ length b
    → take 2 (drop at b) ≡ get_or b at 0 ∷ get_or b (at + 1) 0 ∷ []
two_bytes b at h =
    one_byte 1 b at h ∙ ap (λ (l : List ℕ). get_or b at 0 ∷ l) (one_byte 0 b (at + 1) (omega arith))

pub three-bytes : (b : List ℕ) (at : ℕ) → at + 3 ≤ length b
    → take 3 (drop at b) ≡ get_or b at 0 ∷ get_or b (at + 1) 0 ∷ get_or b (at + 2) 0 ∷ []
three-bytes b at h =
    one_byte 2 b at h
    ∙ ap (λ (l : List ℕ). get_or b at 0 ∷ l)
    (two_bytes b (at + 1) (omega arith) ∙ ap (λ (n : ℕ). get_or b (at + 1) 0 ∷ get_or b n 0 ∷ []) (omega arith))
