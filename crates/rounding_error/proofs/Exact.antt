-- A result that is a whole number of 1 / 2 ^ t, and has no more digits than the format, is exact. By
-- `lib.Ieee.Exact.round_exact`. Assumes nothing.
use mathlib.Core.Path.{◌≡◌, sym, ap, ◌∙◌}
use mathlib.Core.Bool.{Bool, true, false, cond}
use Prim.Native.Nat.{ℕ, ◌+◌, ◌-◌, ◌*◌, ◌^◌, ◌≤◌, ◌<◌}
use native.Mathlib.Nat.{add-le-add, add-sub_of_le, add_comm, le_trans, le_of_eq, lt_of_lt_of_le, mul-pos, mul_assoc}
use native.Mathlib.Nat.{mul_right_comm, le_of_mul-le-mul_right}
use native.Mathlib.Omega.{arith}
use lib.IntN.{ℤ}
use lib.Pow.{pow-add, pow_pos, pow_mono, shl_lt}
use lib.Ieee.{Float, fin, Format, prec, low, up, down, round, add, sub, mul, div}
use lib.Ieee.Fits.{reach, up_pos}
use lib.Ieee.Exact.{round_exact}
use Rattle.rounding.proofs.NumberOrders.{less}
use Rattle.rounding_error.specs.Fraction.{Frac, frac, plus, times, opp, over, Same}
use Rattle.rounding_error.specs.Value.{signed, Is}
use Rattle.rounding_error.proofs.Same.{same-trans, plus-same, times-same, over-same}
use Rattle.rounding_error.proofs.Value.{value-is, neg_is}
use Rattle.rounding_error.proofs.Operations.{Rounded, bottom, seen, add-rounded, mul-rounded, div-rounded}

-- (P - N) / 2 ^ t has no more digits than the format.
pub record Fits (f : Format) (P N t : ℕ) : Type 0 where
  pub hi : P < N + 2 ^ prec f
  pub lo : N < P + 2 ^ prec f
  pub deep : t ≤ low f

round_whole : (f : Format) (s : Bool) (a c N t : ℕ) → 0 < c → N < 2 ^ prec f → t ≤ low f → a * 2 ^ t ≡ N * c
    → Is (round f s a c) (signed s a c)
round_whole f s a c N t C B L e =
    value-is (round f s a c) s a c C
    (round_exact f s a c N (low f - t) C B
    (lt_of_lt_of_le (shl_lt (prec f) (low f - t) B)
    (pow_mono (le_trans (le_of_eq (add_comm (prec f) (low f - t))) (add-le-add (fewer (low f) t) (reach f)))))
    (ap (λ (x : ℕ). a * x) (ap (λ (x : ℕ). 2 ^ x) (sym (add-sub_of_le L)) ∙ pow-add 2 t (low f - t))
    ∙ sym (mul_assoc a (2 ^ t) (2 ^ (low f - t)))
    ∙ ap (λ (x : ℕ). x * 2 ^ (low f - t)) e
    ∙ mul_right_comm N c (2 ^ (low f - t))))
  where
    fewer : (a b : ℕ) → a - b ≤ a
    fewer a b = omega arith

whole_of : (s : Bool) (a c P N u : ℕ) → 0 < c → Same (signed s a c) (frac P N u) → a * u ≡ cond s (N - P) (P - N) * c
whole_of false a c P N u C e =
    let l : N ≤ P = le_of_mul-le-mul_right {k = c} (omega (arith, e.cross)) C in omega (arith, e.cross, less N P c l)
whole_of true a c P N u C e =
    let l : P ≤ N = le_of_mul-le-mul_right {k = c} (omega (arith, e.cross)) C in omega (arith, e.cross, less P N c l)

pub rounded-exact : {f : Format} {x : Float} (P N t : ℕ) → Fits f P N t → Rounded f x (frac P N (2 ^ t))
    → Is x (frac P N (2 ^ t))
rounded-exact {f} P N t w r =
    let C = bottom r in
    let e =
    round_whole f r.s r.a r.c (cond r.s (N - P) (P - N)) t C
    (small r.s (2 ^ prec f) (pow_pos (prec f)) w.hi w.lo) w.deep
    (whole_of r.s r.a r.c P N (2 ^ t) C r.same) in
    rw r.is (record { real = e.real; same = same-trans e.same r.same })
  where
    small : (s : Bool) (z : ℕ) → 0 < z → P < N + z → N < P + z → cond s (N - P) (P - N) < z
    small true z o a b = omega arith
    small false z o a b = omega arith

-- ---- the operations
pub add_is : {f : Format} {x y : Float} {a b : Frac} {P N t : ℕ} → Is x a → Is y b → Same (plus a b) (frac P N (2 ^ t))
    → Fits f P N t → Is (add f x y) (frac P N (2 ^ t))
add_is {f} {x} {y} {P = P} {N} {t} h k e w =
    rounded-exact P N t w (seen (same-trans (plus-same h.same k.same) e) (add-rounded f x y h.real k.real))

pub sub_is : {f : Format} {x y : Float} {a b : Frac} {P N t : ℕ} → Is x a → Is y b
    → Same (plus a (opp b)) (frac P N (2 ^ t)) → Fits f P N t → Is (sub f x y) (frac P N (2 ^ t))
unfolding sub
sub_is h k e w = add_is h (neg_is k) e w

pub mul_is : {f : Format} {x y : Float} {a b : Frac} {P N t : ℕ} → Is x a → Is y b → Same (times a b) (frac P N (2 ^ t))
    → Fits f P N t → Is (mul f x y) (frac P N (2 ^ t))
mul_is {f} {x} {y} {P = P} {N} {t} h k e w =
    rounded-exact P N t w (seen (same-trans (times-same h.same k.same) e) (mul-rounded f x y h.real k.real))

pub div_is : {f : Format} {x : Float} {a : Frac} {P N t : ℕ} (n : ℕ) (d : ℤ) → 0 < n → Is x a
    → Same (over a (n * up d) (down d)) (frac P N (2 ^ t)) → Fits f P N t
    → Is (div f x (fin false n d)) (frac P N (2 ^ t))
div_is {f} {x} {P = P} {N} {t} n d B h e w =
    rounded-exact P N t w (seen (same-trans (over-same (n * up d) (down d) (mul-pos B (up_pos d)) h.same) e)
    (div-rounded f x n d h.real B))
