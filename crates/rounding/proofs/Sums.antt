-- A sum by the exact fraction that is rounded: by its cases, by any fractions that its parts equal, and by multiples of
-- 1 / L. Assumes nothing.
use mathlib.Core.Path.{◌≡◌, refl, sym, ap, ◌∙◌}
use mathlib.Core.Bool.{Bool, true, false, ◌&&◌, beq, cond, true≢false, false≢true}
use Prim.Native.Nat.{ℕ, suc, ◌+◌, ◌-◌, ◌*◌, ◌^◌, ◌<◌}
use native.Mathlib.Nat.{le_of_eq, le_of_lt, lt_of_le_of_lt, mul-pos, add-mul, zero-mul}
use native.Mathlib.Omega.{arith}
use lib.IntN.{pos}
use lib.Dec.{ltb}
use lib.Pow.{pow_pos}
use lib.Ieee.{fin, Format, binary32, binary64, units, round, sum, prec, emax, low, of_bits, odd}
use lib.Ieee.Scale.{round_same}
use borrow.Author.Tests.{lt-ltb, le-ltb}
use Rattle.rounding.proofs.DroppedDigits.{round-low}
use Rattle.rounding.proofs.NumberOrders.{and-false, and-true, cross-ltb, sub-mul}
use Rattle.rounding.proofs.Units.{units-finite}
use Rattle.rounding.proofs.WithinHalfDivisor.{closest-none}

-- ---- by its cases: parts of one sign, and of two
pub sum_like : (f : Format) (S W : Bool) (a b c : ℕ) → S ≡ W → sum f S a W b c ≡ round f S (a + b) c
unfolding sum
sum_like f true true a b c e = refl
sum_like f false false a b c e = refl
sum_like f true false a b c e = absurd (true≢false e)
sum_like f false true a b c e = absurd (false≢true e)

sum-unlike : (f : Format) (S W x y : Bool) (a b c : ℕ) → beq S W ≡ false → ltb a b ≡ x → ltb b a ≡ y
    → sum f S a W b c ≡ cond x (round f W (b - a) c) (round f (S && y) (a - b) c)
unfolding sum
sum-unlike f S W x y a b c e p q =
    ap
    (λ (z : Bool). cond z (round f S (a + b) c)
    (cond (ltb a b) (round f W (b - a) c) (round f (S && ltb b a) (a - b) c))) e
    ∙ ap (λ (z : Bool). cond z (round f W (b - a) c) (round f (S && ltb b a) (a - b) c)) p
    ∙ ap (λ (z : Bool). cond x (round f W (b - a) c) (round f (S && z) (a - b) c)) q

pub sum_less : (f : Format) (S W : Bool) (a b c : ℕ) → beq S W ≡ false → b < a
    → sum f S a W b c ≡ round f S (a - b) c
sum_less f S W a b c e l =
    sum-unlike f S W false true a b c e (le-ltb a b (le_of_lt l)) (lt-ltb b a l)
    ∙ ap (λ (z : Bool). round f z (a - b) c) (and-true S)

pub sum_over : (f : Format) (S W : Bool) (a b c : ℕ) → beq S W ≡ false → a < b
    → sum f S a W b c ≡ round f W (b - a) c
sum_over f S W a b c e l = sum-unlike f S W true false a b c e (lt-ltb a b l) (le-ltb b a (le_of_lt l))

-- Zero rounds to a zero of the given sign. A sum of opposites that is exactly zero has the sign plus (`sum_level`).
pub round-zero : (f : Format) (s : Bool) (c : ℕ) → 0 < c → round f s 0 c ≡ fin s 0 (pos 0)
unfolding odd
round-zero f s c C =
    let l : 0 * 2 ^ low f ≡ 0 = zero-mul (2 ^ low f) in
    let u : 0 < c * 2 ^ 0 = mul-pos C (pow_pos 0) in
    round-low f s 0 c C (lt_of_le_of_lt (le_of_eq l) (mul-pos (pow_pos (prec f)) C))
    ∙ ap (λ (z : ℕ). units f s z 0) (closest-none (0 * 2 ^ low f) (c * 2 ^ 0) (omega arith))
    ∙ units-finite f s 0 0 (pow_pos (low f + suc (emax f)))

pub zero_bits : (f : Format) → of_bits f 0 ≡ fin false 0 (pos 0)
unfolding of_bits
zero_bits binary32 = refl
zero_bits binary64 = refl

pub sum_level : (f : Format) (S W : Bool) (a b c : ℕ) → 0 < c → beq S W ≡ false → a ≡ b
    → sum f S a W b c ≡ of_bits f 0
sum_level f S W a b c C e l =
    let z : a - b ≡ 0 = omega arith in
    sum-unlike f S W false false a b c e (le-ltb a b (le_of_eq (sym l))) (le-ltb b a (le_of_eq l))
    ∙ ap (λ (z : Bool). round f z (a - b) c) (and-false S)
    ∙ ap (λ (v : ℕ). round f false v c) z
    ∙ round-zero f false c C
    ∙ sym (zero_bits f)

-- ---- its sign and its size, which the format does not change
abbrev pub sum-sign : Bool → ℕ → Bool → ℕ → Bool
sum-sign s a t b = cond (beq s t) s (cond (ltb a b) t (s && ltb b a))

abbrev pub sum-size : Bool → ℕ → Bool → ℕ → ℕ
sum-size s a t b = cond (beq s t) (a + b) (cond (ltb a b) (b - a) (a - b))

pub sum_is : (f : Format) (s : Bool) (a : ℕ) (t : Bool) (b c : ℕ)
    → sum f s a t b c ≡ round f (sum-sign s a t b) (sum-size s a t b) c
unfolding sum
sum_is f s a t b c = go (beq s t) (ltb a b)
  where
    go : (x y : Bool)
        → cond x (round f s (a + b) c) (cond y (round f t (b - a) c) (round f (s && ltb b a) (a - b) c))
        ≡ round f (cond x s (cond y t (s && ltb b a))) (cond x (a + b) (cond y (b - a) (a - b))) c
    go true y = refl
    go false true = refl
    go false false = refl

-- ---- the same fractions have the same sum
size-cross : (x y : Bool) (a b c a' b' c' : ℕ) → a * c' ≡ a' * c → b * c' ≡ b' * c
    → cond x (a + b) (cond y (b - a) (a - b)) * c' ≡ cond x (a' + b') (cond y (b' - a') (a' - b')) * c
size-cross true y a b c a' b' c' p q =
    add-mul a b c' ∙ ap (λ (z : ℕ). z + b * c') p ∙ ap (λ (z : ℕ). a' * c + z) q ∙ sym (add-mul a' b' c)
size-cross false true a b c a' b' c' p q =
    sub-mul b a c' ∙ ap (λ (z : ℕ). z - a * c') q ∙ ap (λ (z : ℕ). b' * c - z) p ∙ sym (sub-mul b' a' c)
size-cross false false a b c a' b' c' p q =
    sub-mul a b c' ∙ ap (λ (z : ℕ). z - b * c') p ∙ ap (λ (z : ℕ). a' * c - z) q ∙ sym (sub-mul a' b' c)

pub sum_same : (f : Format) (s : Bool) (a : ℕ) (t : Bool) (b c a' b' c' : ℕ) → 0 < c → 0 < c' → a * c' ≡ a' * c
    → b * c' ≡ b' * c → sum f s a t b c ≡ sum f s a' t b' c'
sum_same f s a t b c a' b' c' C C' p q =
    sum_is f s a t b c
    ∙ ap
    (λ (z : Bool). round f (cond (beq s t) s (cond z t (s && ltb b a)))
    (cond (beq s t) (a + b) (cond z (b - a) (a - b))) c) (cross-ltb a b c a' b' c' C C' p q)
    ∙ ap
    (λ (z : Bool). round f (cond (beq s t) s (cond (ltb a' b') t (s && z)))
    (cond (beq s t) (a + b) (cond (ltb a' b') (b - a) (a - b))) c) (cross-ltb b a c b' a' c' C C' q p)
    ∙ round_same f (sum-sign s a' t b') (cond (beq s t) (a + b) (cond (ltb a' b') (b - a) (a - b))) c
    (sum-size s a' t b') c' C C' (size-cross (beq s t) (ltb a' b') a b c a' b' c' p q)
    ∙ sym (sum_is f s a' t b' c')
