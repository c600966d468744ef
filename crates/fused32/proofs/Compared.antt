-- How s - x compares with y shows how s, which is G units, compares with x + y, because s - x is exact. Here x and s
-- are not below zero, and y has either sign. Assumes nothing.
use Rattle.std.proofs.Common.{◌≡◌, ℕ, ◌+◌, ◌-◌, ◌*◌, ◌^◌, ◌<◌, ◌≤◌, Bool, true, false, eqb, ltb, sym, refl, ap, ◌∙◌}
use Rattle.std.proofs.Common.{subst, inl, inr, le_of_eq, lt_of_le_of_lt, eq-or-lt_of_le, sub-le, arith, pow_pos, le-ltb}
use lib.Ieee.{Float, binary64, round, sum, of_bits, sub, neg, lt, eq}
use lib.Ieee.Exact.{HasValue, round_exact}
use Rattle.fused32.proofs.Remainder.{Few}
use Rattle.rounding.proofs.Adding.{minus, add-units}
use Rattle.rounding.proofs.Comparing.{eq-units, lt-units}
use Rattle.rounding.proofs.NumberOrders.{and-true, eqb-iff, ltb_iff}
use Rattle.rounding.proofs.Sums.{sum_level, sum_over}
use Rattle.rounding.proofs.Values.{neg_value}

abbrev L : ℕ
L = 2 ^ 1074

-- G units compare with v units as s - x compares with y.
pub record Tests (s x y : Float) (G v : ℕ) : Type 0 where
  pub less : lt (sub binary64 s x) y ≡ ltb G v
  pub same : eq (sub binary64 s x) y ≡ eqb G v

pub zero-value : HasValue (of_bits binary64 0) false 0 L
unfolding of_bits
zero-value = (refl, refl)

exact : (t : Bool) (D : ℕ) → Few D → D < 2 ^ (1074 + 1024) → HasValue (round binary64 t D L) t D L
exact t D (q, i, e, few) b =
    round_exact binary64 t D L q i (pow_pos 1074) few (lt_of_le_of_lt (le_of_eq (sym e)) b) (ap (λ (z : ℕ). z * L) e)

module _ (s x y : Float) (G X Y : ℕ) (fine : G < 2 ^ (1074 + 1024)) (bound : X < 2 ^ (1074 + 1024))
    (g : HasValue s false G L) (h : HasValue x false X L) where
  -- The case of a y above zero.
  module _ (k : HasValue y false Y L) (o : X ≤ G) (few : Few (G - X)) where
    over-value : HasValue (sub binary64 s x) false (G - X) L
    over-value =
        subst (λ (v : Float). HasValue v false (G - X) L) (sym (minus binary64 s x G X L (pow_pos 1074) o g h))
        (exact false (G - X) few (lt_of_le_of_lt (sub-le G X) fine))

    lt-plus : lt (sub binary64 s x) y ≡ ltb G (X + Y)
    lt-plus =
        lt-units (sub binary64 s x) y false false (G - X) Y L (pow_pos 1074) over-value k
        ∙ ltb_iff (G - X) Y G (X + Y) (λ a. omega arith) (λ a. omega arith)

    eq-plus : eq (sub binary64 s x) y ≡ eqb G (X + Y)
    eq-plus =
        eq-units (sub binary64 s x) y false false (G - X) Y L (pow_pos 1074) over-value k
        ∙ and-true (eqb (G - X) Y)
        ∙ eqb-iff (G - X) Y G (X + Y) (λ a. omega arith) (λ a. omega arith)

    pub tests-plus : Tests s x y G (X + Y)
    tests-plus = record { less = lt-plus; same = eq-plus }

  -- The case of a y below zero, or -0.0.
  module _ (k : HasValue y true Y L) (r : Y ≤ X) (o : G ≤ X) (few : Few (X - G)) where
    difference : sub binary64 s x ≡ sum binary64 false G true X L
    unfolding sub
    difference = add-units binary64 s (neg x) false true G X L (pow_pos 1074) g (neg_value x false X L h)

    under-value : G < X → HasValue (sub binary64 s x) true (X - G) L
    under-value l =
        subst (λ (v : Float). HasValue v true (X - G) L) (sym (difference ∙ sum_over binary64 false true G X L refl l))
        (exact true (X - G) few (lt_of_le_of_lt (sub-le X G) bound))

    none-value : G ≡ X → HasValue (sub binary64 s x) false 0 L
    none-value e =
        subst (λ (v : Float). HasValue v false 0 L)
        (sym (difference ∙ sum_level binary64 false true G X L (pow_pos 1074) refl e)) zero-value

    lt-minus : lt (sub binary64 s x) y ≡ ltb G (X - Y)
    lt-minus = elim (eq-or-lt_of_le o) [
      | inl e ↦ lt-units (sub binary64 s x) y false true 0 Y L (pow_pos 1074) (none-value e) k
          ∙ sym (le-ltb G (X - Y) (omega arith))
      | inr l ↦ lt-units (sub binary64 s x) y true true (X - G) Y L (pow_pos 1074) (under-value l) k
          ∙ ltb_iff Y (X - G) G (X - Y) (λ a. omega arith) (λ a. omega arith)
    ]

    eq-minus : eq (sub binary64 s x) y ≡ eqb G (X - Y)
    eq-minus = elim (eq-or-lt_of_le o) [
      | inl e ↦ eq-units (sub binary64 s x) y false true 0 Y L (pow_pos 1074) (none-value e) k
          ∙ and-true (eqb 0 Y)
          ∙ eqb-iff 0 Y G (X - Y) (λ a. omega arith) (λ a. omega arith)
      | inr l ↦
          eq-units (sub binary64 s x) y true true (X - G) Y L (pow_pos 1074) (under-value l) k
          ∙ and-true (eqb (X - G) Y)
          ∙ eqb-iff (X - G) Y G (X - Y) (λ a. omega arith) (λ a. omega arith)
    ]

    pub tests-minus : Tests s x y G (X - Y)
    tests-minus = record { less = lt-minus; same = eq-minus }
