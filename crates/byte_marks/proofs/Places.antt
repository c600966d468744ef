-- The place of a byte, as the library's search answers it. Assumes nothing.
use Rattle.std.proofs.Common.{Option, Some, None, unwrap_or}
use Rattle.std.specs.List.{position_or_len}
use Rattle.std.proofs.lemmas.List.Recursion.{is_position_or_len}
use Rattle.std.proofs.lemmas.List.Sums.{prefix_len-le-length}
use mathlib.Core.Path.{◌≡◌, refl}
use mathlib.Core.Bool.{Bool, true, false, cond, not}
use mathlib.Core.List.{List}
use Prim.Native.Nat.{ℕ, suc, ◌+◌, ◌≤◌}
use native.Mathlib.Omega.{arith}
use borrow.Author.Tests.{ltb-false}
use lib.Dec.{eqb, ltb}
use lib.ListN.{length}
use Rattle.byte_marks.specs.Marks.{index_of}

abbrev is : ℕ → ℕ → Bool
is b c = eqb c b

same : (b : ℕ) (xs : List ℕ) → index_of b xs ≡ position_or_len (is b) xs
unfolding index_of
same b xs = is_position_or_len (index_of b) (is b) refl (λ c cs. by (is b c) (index_of b cs)) xs
  where
    by : (t : Bool) (n : ℕ) → cond t 0 (suc n) ≡ cond t 0 (1 + n)
    by true n = refl
    by false n = omega arith

pub within : (b : ℕ) (xs : List ℕ) → index_of b xs ≤ length xs
within b xs = rw same (prefix_len-le-length (λ c. not (is b c)) xs)

-- The answer of the search, or the end where there is none.
pub place : (b : ℕ) (xs : List ℕ) {r : Option ℕ}
    → r ≡ cond (ltb (position_or_len (is b) xs) (length xs)) (Some (position_or_len (is b) xs)) None
    → unwrap_or r (length xs) ≡ index_of b xs
place b xs {r} e = rw (e, same b xs) (by (ltb (position_or_len (is b) xs) (length xs)) refl)
  where
    p : ℕ
    p = position_or_len (is b) xs

    by : (t : Bool) → ltb p (length xs) ≡ t → unwrap_or (cond t (Some p) None) (length xs) ≡ p
    by true l = refl
    by false l =
        let most = prefix_len-le-length (λ c. not (is b c)) xs in
        omega (arith, ltb-false p (length xs) l, most)
