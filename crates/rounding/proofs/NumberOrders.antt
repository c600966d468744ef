-- What a comparison says: of two numbers, of two Booleans, and of two pairs of numbers in one proportion.
-- Nothing here is about floats. Assumes nothing.
use mathlib.Core.Path.{◌≡◌, refl, sym, ap, ◌∙◌, subst}
use mathlib.Core.Logic.{◌⊎◌, inl, inr}
use mathlib.Core.Bool.{Bool, true, false, not, ◌&&◌}
use Prim.Native.Nat.{ℕ, zero, suc, ◌+◌, ◌-◌, ◌*◌, ◌%◌, ◌^◌, ◌≤◌, ◌<◌, compare, Ordering}
use native.Mathlib.Nat.{le_refl, le_of_eq, lt_of_lt_of_le, lt_of_le_of_lt, zero-lt-suc, mul_comm}
use native.Mathlib.Nat.{mul-lt-mul_of_pos_right, lt_of_mul-lt-mul_right, mul-sub, add-mul, add-sub_of_le}
use native.Mathlib.Nat.{le_of_suc-le-suc, lt_of_not-le, lt_irrefl, eq_of_mul-eq-mul_right, mod-lt}
use native.Mathlib.Omega.{arith}
use lib.Dec.{T, ltb, eqb, ltb→lt, lt→ltb, leb→le, eqb→eq, is_le, compare_is_eq, nleb→lt, eqb_refl}
use lib.Arith.{lt_of_le-ne}
use lib.Pow.{pow_mono, pow-lt}
use lib.Ieee.Fits.{eq→eqb}
use borrow.Author.Tests.{ltb-true, ltb-false}

abbrev pub Cmp : Ordering → ℕ → ℕ → Type 0
Cmp Ordering.lt a b = a < b
Cmp Ordering.eq a b = a ≡ b
Cmp Ordering.gt a b = b < a

pub cmp : (a b : ℕ) → Cmp (compare a b) a b
cmp a b =
    go (compare a b) (leb→le a b) (nleb→lt a b) (eqb→eq a b)
    (λ (e : a ≡ b). subst (λ (x : ℕ). T (eqb a x)) e (eqb_refl a))
  where
    go : (o : Ordering) → (T (is_le o) → a ≤ b) → (T (not (is_le o)) → b < a) → (T (compare_is_eq o) → a ≡ b)
        → (a ≡ b → T (compare_is_eq o)) → Cmp o a b
    go Ordering.lt h k e n = lt_of_le-ne (h tt) n
    go Ordering.eq h k e n = e tt
    go Ordering.gt h k e n = k tt

pub clash : (a b : ℕ) → a < b → b ≤ a → ⊥
clash a b h k = omega arith

pub lt-or-ge : (a b : ℕ) → (a < b) ⊎ (b ≤ a)
lt-or-ge a b = go (ltb a b) refl
  where
    go : (t : Bool) → ltb a b ≡ t → (a < b) ⊎ (b ≤ a)
    go true e = inl (ltb-true a b e)
    go false e = inr (ltb-false a b e)

pub bit : (q : ℕ) → (q % 2 ≡ 0) ⊎ (q % 2 ≡ 1)
bit q = go (q % 2) refl (mod-lt q (zero-lt-suc 1))
  where
    one : (z : ℕ) → q % 2 ≡ suc z → q % 2 < 2 → q % 2 ≡ 1
    one z e h = omega arith

    go : (z : ℕ) → q % 2 ≡ z → q % 2 < 2 → (q % 2 ≡ 0) ⊎ (q % 2 ≡ 1)
    go zero e h = inl e
    go (suc z) e h = inr (one z e h)

pub pow_lt_back : (i p : ℕ) → 2 ^ i < 2 ^ p → i < p
pow_lt_back i p h = lt_of_not-le (λ (g : p ≤ i). lt_irrefl (2 ^ i) (lt_of_lt_of_le h (pow_mono g)))

pub pow_le_back : (i p : ℕ) → 2 ^ i ≤ 2 ^ p → i ≤ p
pow_le_back i p h = le_of_suc-le-suc (pow_lt_back i (suc p) (lt_of_le_of_lt h (pow-lt (le_refl (suc p)))))

pub and-true : (S : Bool) → (S && true) ≡ S
and-true true = refl
and-true false = refl

pub and-false : (S : Bool) → (S && false) ≡ false
and-false true = refl
and-false false = refl

-- ---- two tests that pass together are one
pub same_test : (a b : Bool) → (T a → T b) → (T b → T a) → a ≡ b
same_test true true p q = refl
same_test true false p q = absurd (p tt)
same_test false true p q = absurd (q tt)
same_test false false p q = refl

pub ltb_iff : (a b c d : ℕ) → (a < b → c < d) → (c < d → a < b) → ltb a b ≡ ltb c d
ltb_iff a b c d f g =
    same_test (ltb a b) (ltb c d) (λ t. lt→ltb c d (f (ltb→lt a b t))) (λ t. lt→ltb a b (g (ltb→lt c d t)))

pub eqb-iff : (a b c d : ℕ) → (a ≡ b → c ≡ d) → (c ≡ d → a ≡ b) → eqb a b ≡ eqb c d
eqb-iff a b c d f g = same_test (eqb a b) (eqb c d) (λ t. eq→eqb (f (eqb→eq a b t))) (λ t. eq→eqb (g (eqb→eq c d t)))

-- If a / c and a' / c' are the same fraction, and b / c and b' / c' too, then a and b have the order of a' and b'.
cross-lt : (a b c a' b' c' : ℕ) → 0 < c' → a * c' ≡ a' * c → b * c' ≡ b' * c → a < b → a' < b'
cross-lt a b c a' b' c' C p q h =
    lt_of_mul-lt-mul_right c (lt_of_le_of_lt (le_of_eq (sym p))
    (lt_of_lt_of_le (mul-lt-mul_of_pos_right h C) (le_of_eq q)))

pub cross-ltb : (a b c a' b' c' : ℕ) → 0 < c → 0 < c' → a * c' ≡ a' * c → b * c' ≡ b' * c → ltb a b ≡ ltb a' b'
cross-ltb a b c a' b' c' C C' p q =
    ltb_iff a b a' b' (cross-lt a b c a' b' c' C' p q) (cross-lt a' b' c' a b c C (sym p) (sym q))

cross-eq : (a b c a' b' c' : ℕ) → 0 < c → a * c' ≡ a' * c → b * c' ≡ b' * c → a ≡ b → a' ≡ b'
cross-eq a b c a' b' c' C p q e = eq_of_mul-eq-mul_right c C a' b' (sym p ∙ ap (λ (z : ℕ). z * c') e ∙ q)

pub cross-eqb : (a b c a' b' c' : ℕ) → 0 < c → 0 < c' → a * c' ≡ a' * c → b * c' ≡ b' * c → eqb a b ≡ eqb a' b'
cross-eqb a b c a' b' c' C C' p q =
    eqb-iff a b a' b' (cross-eq a b c a' b' c' C p q) (cross-eq a' b' c' a b c C' (sym p) (sym q))

pub sub-mul : (a b c : ℕ) → (a - b) * c ≡ a * c - b * c
sub-mul a b c =
    mul_comm (a - b) c
    ∙ mul-sub c a b
    ∙ ap (λ (z : ℕ). z - c * b) (mul_comm c a)
    ∙ ap (λ (z : ℕ). a * c - z) (mul_comm c b)

pub less : (a b c : ℕ) → a ≤ b → a * c + (b - a) * c ≡ b * c
less a b c h = sym (add-mul a (b - a) c) ∙ ap (λ (x : ℕ). x * c) (add-sub_of_le h)
