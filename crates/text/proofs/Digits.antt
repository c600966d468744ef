-- The decimal digits of a word, written from the last one on: each turn puts the next in front. Assumes nothing.
use mathlib.Core.Path.{◌≡◌}
use mathlib.Core.Bool.{Bool, true, false, cond}
use mathlib.Core.List.{List, [], ◌∷◌, ◌++◌, append_assoc}
use Prim.Native.Nat.{ℕ, zero, suc, ◌+◌, ◌/◌, ◌%◌, ◌^◌, ◌<◌, ◌≤◌}
use native.Mathlib.Nat.{pow-suc, div-lt_iff_lt-mul, mod-eq_of_lt}
use native.Mathlib.Omega.{arith}
use borrow.Author.Tests.{lt-ltb, le-ltb}
use lib.Dec.{ltb, lit≤}
use lib.ListN.{length, drop, set, length-append, length-set}
use lib.Seq.{drop-cons, drop-set-lt, get_or-set_same}
use Rattle.text.specs.Text.{decimal_to}

-- What a store leaves from its own place on.
drop-set : (xs : List ℕ) (k d : ℕ) → k < length xs → drop k (set xs k d) ≡ d ∷ drop (suc k) xs
drop-set xs k d h =
    let s : k < length (set xs k d) = simp length-set (omega arith) in
    let l : k < suc k = omega arith in
    rw (drop-cons (set xs k d) k 0 s, get_or-set_same xs k d 0 h, drop-set-lt (suc k) xs k d l)

pub digit-before : (xs : List ℕ) (v : ℕ) {j k : ℕ} → suc j ≡ k → k < length xs → 10 ≤ v
    → decimal_to (suc k) v ++ drop (suc k) xs ≡ decimal_to (suc j) (v / 10) ++ drop (suc j) (set xs k (48 + v % 10))
unfolding decimal_to
digit-before xs v {j} e h l = rw (← e) (rw (drop-set xs (suc j) (48 + v % 10) (rw e h), le-ltb v 10 l, append_assoc))

pub first-digit : (xs : List ℕ) (k v : ℕ) {d : ℕ} → d ≡ 48 + v → k < length xs → v < 10
    → decimal_to (suc k) v ++ drop (suc k) xs ≡ drop k (set xs k d)
unfolding decimal_to
first-digit xs k v e h l = rw (e, drop-set xs k (48 + v) h, lt-ltb v 10 l, mod-eq_of_lt l)

-- The quotient by ten has one digit fewer.
pub fewer : (k v : ℕ) → v < 10 ^ suc k → v / 10 < 10 ^ k
fewer k v h = (div-lt_iff_lt-mul (lit≤ tt)).1 (rw pow-suc at h)

-- A number above 9 has a digit in front of its last.
pub more : (k v : ℕ) → v < 10 ^ suc k → 9 < v → 0 < k
more zero v h l = absurd (omega arith)
more (suc k) v h l = omega arith

with-last : (t : Bool) (ds : List ℕ) (d k : ℕ) → length ds ≤ k → length (cond t [] ds ++ (d ∷ [])) ≤ suc k
with-last true ds d k h = omega arith
with-last false ds d k h = omega (arith, length-append ds (d ∷ []))

pub few-digits : (k n : ℕ) → length (decimal_to k n) ≤ k
unfolding decimal_to
few-digits zero n = omega arith
few-digits (suc k) n = with-last (ltb n 10) (decimal_to k (n / 10)) (48 + n % 10) k (few-digits k (n / 10))
