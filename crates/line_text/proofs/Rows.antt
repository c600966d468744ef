-- Blanks, and one more digit in front of those that are written. Assumes nothing.
use mathlib.Core.Path.{◌≡◌, refl, ap}
use mathlib.Core.List.{List, ◌∷◌, ◌++◌, append_assoc}
use Prim.Native.Nat.{ℕ, zero, suc, ◌+◌, ◌/◌, ◌%◌, ◌<◌, ◌≤◌}
use native.Mathlib.Omega.{arith}
use lib.ListN.{length, take, drop, set, replicate, length-set}
use lib.Seq.{drop-cons, drop-set-lt, get_or-set_same}
use Rattle.line_text.specs.Columns.{blanks, last_digits}

pub blanks-long : (k : ℕ) → length (blanks k) ≡ k
unfolding blanks
blanks-long zero = refl
blanks-long (suc k) = omega (arith, blanks-long k)

-- The first n of k blanks.
pub first-blanks : (n k : ℕ) → n ≤ k → replicate n 32 ≡ take n (blanks k)
unfolding blanks
first-blanks zero k h = refl
first-blanks (suc n) zero h = absurd (omega arith)
first-blanks (suc n) (suc k) h = ap (λ (bs : List ℕ). 32 ∷ bs) (first-blanks n k (omega arith))

-- All but the last j digits of v are written from suc k on; the next is written at k.
pub digit-next : (xs : List ℕ) (k v : ℕ) {j l : ℕ} → suc j ≡ l → k < length xs
    → last_digits l v ++ drop (suc k) xs ≡ last_digits j (v / 10) ++ drop k (set xs k (48 + v % 10))
unfolding last_digits
digit-next xs k v e h =
    let d = 48 + v % 10 in
    let s : k < length (set xs k d) = simp length-set (omega arith) in
    let l : k < suc k = omega arith in
    rw (← e, drop-cons (set xs k d) k 0 s, get_or-set_same xs k d 0 h, drop-set-lt (suc k) xs k d l, append_assoc)

pub no-digits : (v : ℕ) {j : ℕ} → j ≡ 0 → (xs : List ℕ) → last_digits j v ++ xs ≡ xs
unfolding last_digits
no-digits v e xs = rw e
