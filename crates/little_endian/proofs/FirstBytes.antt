-- The first k bytes of a number are its remainder by 256 ^ k, for any number of bytes. Assumes nothing.
use mathlib.Core.Path.{◌≡◌, ap, ◌∙◌}
use mathlib.Core.List.{List, [], ◌∷◌}
use Prim.Native.Nat.{ℕ, zero, suc, ◌+◌, ◌*◌, ◌/◌, ◌%◌, ◌^◌, ◌≤◌, ◌<◌}
use native.Mathlib.Nat.{pow-suc, div-add-mod, mod-lt, mod-eq_of_lt, mod-one, zero-mod, mul-add-mod_self_left}
use native.Mathlib.Nat.{mul_right_comm, mul-le-mul_right, one-le-pow}
use native.Mathlib.Omega.{arith}
use lib.Dec.{lit≤}
use lib.ListN.{take, get_or}
use Rattle.word_bytes.specs.Bytes.{bytes_value}

-- One byte below a number that is cut off.
below : (n v x : ℕ) → 0 < n → x < 256 → (v * 256 + x) % (n * 256) ≡ v % n * 256 + x
below n v x p h =
    let e : v * 256 + x ≡ n * 256 * (v / n) + (v % n * 256 + x) =
    omega (arith, div-add-mod v n, mul_right_comm n 256 (v / n)) in
    ap (λ (z : ℕ). z % (n * 256)) e
    ∙ mul-add-mod_self_left (n * 256) (v / n) (v % n * 256 + x)
    ∙ mod-eq_of_lt {m = n * 256} (omega (arith, mul-le-mul_right 256 (mod-lt v p)))

pub front : (n k : ℕ) (xs : List ℕ) → k ≤ n → ((i : ℕ) → get_or xs i 0 < 256)
    → bytes_value (take n xs) % 256 ^ k ≡ bytes_value (take k xs)
unfolding bytes_value
front n zero xs l h = mod-one (bytes_value (take n xs))
front zero (suc k) xs l h = absurd (omega arith)
front (suc n) (suc k) [] l h = zero-mod (256 ^ suc k)
front (suc n) (suc k) (x ∷ xs) l h =
    rw pow-suc
    (below (256 ^ k) (bytes_value (take n xs)) x (one-le-pow k 256 (lit≤ tt)) (h 0)
    ∙ ap (λ (v : ℕ). v * 256 + x) (front n k xs (omega arith) (λ i. h (suc i))))
