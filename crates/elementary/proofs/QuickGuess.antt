-- The quick guess. x times a number next to 1 / H, plus 2 ^ 52 + 256, is a whole number 2 ^ 52 + j, whose pattern ends
-- in j, and |x - (j - 256) * H| ≤ 8/10. From 2 ^ 52 on the sum rounds to the nearest whole number; the rest is the
-- rounding of the product and the error of the multiplier. Assumes nothing.
use mathlib.Core.Path.{◌≡◌, refl, sym, ◌∙◌, subst}
use mathlib.Core.Bool.{true, false, not}
use Prim.Native.Nat.{ℕ, suc, ◌+◌, ◌-◌, ◌*◌, ◌^◌, ◌≤◌, ◌<◌}
use native.Mathlib.Nat.{mul-one, zero-add, pow-suc}
use native.Mathlib.Omega.{arith}
use lib.IntN.{pos, negsuc}
use lib.Dec.{T, lit≤, lit<}
use lib.Pow.{pow_pos}
use lib.Ieee.{Float, nan, inf, fin, binary64, up, down, add, mul, fits, is_nan, to_bits}
use lib.Ieee.Fits.{down_pos, add-fits}
use lib.Ieee.Exact.{HasValue}
use Rattle.rounding.proofs.Values.{fits-parts}
use Rattle.rounding.proofs.Units.{bits-units}
use Rattle.rounding_error.specs.Fraction.{Frac, frac, nil, plus, times, Same, Within}
use Rattle.rounding_error.specs.Value.{val, Rounds}
use Rattle.rounding_error.proofs.Same.{same_refl, plus_comm}
use Rattle.rounding_error.proofs.Within.{chain, from, to, rescale, same-within, within-plus, beside}
use Rattle.rounding_error.proofs.ProductErrors.{mag-times}
use Rattle.rounding_error.proofs.Value.{is-val, is-near}
use Rattle.rounding_error.proofs.OperandErrors.{add-approx, mul-approx}
use Rattle.polynomials.specs.Range.{at_most}
use Rattle.elementary.specs.Steps.{Guess}
use Rattle.polynomials.proofs.Squares.{at-most-finite, at-most-mag}
use Rattle.elementary.proofs.GuessFromQuotient.{u, Inverse, near_inverse, inverse-of, guess-of, near-x}

-- The number 2 ^ 52 + 256.
abbrev middle : Float
middle = fin false 17592186044417 (pos 8)

abbrev pub shifted : Float → Float → Float
shifted i x = add binary64 (mul binary64 x i) middle

-- ---- where the sum lies
module _ {i : Float} (I : Inverse i) (x : Float) (h : T (at_most 256 x)) where
  quotient-mag : Within u (164 * u) (times (val x) (val i)) nil
  quotient-mag = rescale (lit< tt) (lit≤ tt) (mag-times (at-most-mag 256 x h) I.small)

  placed : Rounds u (2 ^ 29 + 1) (shifted i x) (plus (val middle) (times (val x) (val i)))
  placed =
      let v = is-val x (at-most-finite 256 x h) in
      let m = quotient-mag in
      let p : Rounds u 1 (mul binary64 x i) (times (val x) (val i)) =
      mul-approx binary64 1 0 8 tt v (at-most-mag 256 x h) (is-near u (is-val i I.number))
      (same_refl m.left) m (lit≤ tt) in
      add-approx binary64 (2 ^ 29) 0 53 tt p (is-near u (is-val middle tt))
      (plus_comm (times (val x) (val i)) (val middle) m.left (lit< tt)) (within-plus large m) (lit≤ tt)
    where
      large : Within u ((2 ^ 52 + 256) * u) (val middle) nil
      large = record { left = lit< tt; right = lit< tt; above = lit≤ tt; below = lit≤ tt }

-- ---- from there to the guess
-- 2 ^ 52 + j less 2 ^ 52 + 256 is j - 256.
whole-near : (w j : ℕ) {t : Frac} → w ≡ 2 ^ 52 + j → Within u (2 ^ 29 + 1) (frac w 0 1) (plus (val middle) t)
    → Within u (2 ^ 29 + 1) (frac j 256 1) t
whole-near w j {t} e h =
    from (omega (arith, e)) (to (off t (plus-right h.right))
    (within-plus h (same-within u (same_refl {x = frac 0 (2 ^ 52 + 256) 1} (lit< tt)))))
  where
    plus-right : 0 < 1 * t.d → 0 < t.d
    plus-right h = omega arith

    off : (t : Frac) → 0 < t.d → Same (plus (plus (val middle) t) (frac 0 (2 ^ 52 + 256) 1)) t
    off t P = omega arith

-- 1075 * 2 ^ 52 is the pattern of 2 ^ 52.
abbrev pub zeroth : ℕ
zeroth = 0x4330_0000_0000_0000

pub record Guessed (x y : Float) : Type 0 where
  pub number : T (not (is_nan y))
  pub enough : zeroth ≤ to_bits binary64 y
  pub guess : Guess x (to_bits binary64 y - zeroth)

abbrev reach : ℕ
reach = 2 ^ 29 + 1 + 164 * u

-- The sum is a whole number from 2 ^ 52 + 92 to 2 ^ 52 + 420.
placed-whole : {i : Float} → Inverse i → (x : Float) → T (at_most 256 x) → (y : Float) (w j : ℕ) → w ≡ 2 ^ 52 + j
    → w ≤ 2 ^ 53 → T (not (is_nan y)) → HasValue y false (w * 2 ^ 1074) (2 ^ 1074)
    → Within u (2 ^ 29 + 1) (frac w 0 1) (plus (val middle) (times (val x) (val i))) → Guessed x y
placed-whole I x h y w j e top n v r =
    let bits : to_bits binary64 y ≡ 1074 * 2 ^ 52 + w =
    bits-units binary64 y false w 1074 top (λ k. omega (arith, e)) v ∙ zero-add _ in
    let near = guess-of j x h (near-x I j (val x) (at-most-mag 256 x h) (whole-near w j e r)) in
    let is : to_bits binary64 y - zeroth ≡ j = omega (arith, bits, e) in
    record { number = n; enough = omega (arith, bits, e); guess = subst (Guess x) (sym is) near }

cut : {i : Float} → Inverse i → (x : Float) → T (at_most 256 x) → (y : Float) → T (fits binary64 y)
    → Rounds u (2 ^ 29 + 1) y (plus (val middle) (times (val x) (val i))) → Within u reach (val y) (val middle)
    → Guessed x y
unfolding is_nan
cut I x h nan f r w = absurd r.real
cut I x h (inf s) f r w = absurd r.real
cut I x h (fin true n d) f r w = absurd (negative (n * up d) (down d) (down_pos d) w)
  where
    negative : (a c : ℕ) → 0 < c → Within u reach (frac 0 a c) (val middle) → ⊥
    negative a c C w = omega (arith, w.below)
cut I x h (fin false n (negsuc k)) f r w =
    absurd (fine n (2 ^ k) (2 ^ suc k) (pow-suc 2 k) (pow_pos k) (fits-parts binary64 false n (negsuc k) f).0
    (large (n * 1) (2 ^ suc k) (pow_pos (suc k)) w))
  where
    large : (a c : ℕ) → 0 < c → Within u reach (frac a 0 c) (val middle) → 2 ^ 52 * c ≤ a
    large a c C w = omega (arith, w.below)

    fine : (n b c : ℕ) → c ≡ b * 2 → 0 < b → n < 2 ^ 53 → 2 ^ 52 * c ≤ n * 1 → ⊥
    fine n b c e B l h = omega (arith, e, B, l, h)
cut I x h (fin false n (pos k)) f r w =
    let v = n * 2 ^ k in
    let b = bounds v w in
    placed-whole I x h (fin false n (pos k)) v (v - 2 ^ 52) (omega (arith, b.0)) (omega (arith, b.1)) tt
    (refl, sym (mul-one (v * 2 ^ 1074))) r.near
  where
    bounds : (v : ℕ) → Within u reach (frac v 0 1) (val middle) → (2 ^ 52 ≤ v) × (v ≤ 2 ^ 53)
    bounds v w = (omega (arith, w.below), omega (arith, w.above))

pub guessed : (i : Float) → T (near_inverse i) → (x : Float) → T (at_most 256 x) → Guessed x (shifted i x)
guessed i t x h =
    let I = inverse-of i t in
    let r = placed I x h in
    cut I x h (shifted i x) (add-fits binary64 _ _) r
    (chain r.near (beside (val middle) (lit< tt) (quotient-mag I x h)))
