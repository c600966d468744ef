-- T3, T4. The rate of a bank's only set is that of the bank: max is a whole number of 2^-52, so max - 1 is exact; times
-- 1 and divided by 1 it stays the same, and adding 1 gives max again. Assumes nothing.
use Rattle.std.proofs.Common.{
  ◌≡◌,
  ℕ,
  ◌+◌,
  ◌-◌,
  ◌*◌,
  ◌^◌,
  ◌<◌,
  ◌≤◌,
  true,
  false,
  T,
  ℤ,
  sym,
  refl,
  ap,
  ◌∙◌,
  true≢false,
  le_trans,
  le_of_eq,
  lt_of_lt_of_le,
  lt_of_le_of_lt,
  lt_irrefl,
  mul_assoc,
  mul_comm,
  add-mul,
  mul-le-mul_left,
  mul-lt-mul_of_pos_right,
  mul-pos,
  lt_of_not-le,
  mul-one,
  mul_right_comm,
  le_of_mul-le-mul_right,
  arith,
  lit<,
  lit≤,
  pow_pos,
  pow_mono,
  pow-add,
  le-ltb,
}
use native.Mathlib.Nat.{eq_of_mul-eq-mul_right}
use lib.Ieee.{Float, nan, inf, fin, Format, binary64, up, down, round, neg, add, sub, mul, div, of_int, fits}
use lib.Ieee.Exact.{HasValue, round_exact}
use lib.Ieee.Fits.{down_pos, sub-fits}
use lib.Ieee.Scale.{round_same}
use Rattle.rounding.proofs.Values.{fits-units}
use Rattle.rounding.proofs.RoundsToItself.{round-own}
use Rattle.sinc_settings.specs.Ranges.{one-f}
use Rattle.bank_choice.specs.Rates.{bank_ok, rate_of}
use Rattle.bank_choice.proofs.SetCounts.{in-range}
use Rattle.bank_choice.proofs.RatesInSteps.{above, below}

-- ---- x * 1 and x / 1
times-one : (f : Format) (x : Float) → T (fits f x) → mul f x one-f ≡ x
unfolding mul
times-one f nan h = refl
times-one f (inf true) h = refl
times-one f (inf false) h = refl
times-one f (fin true m e) h =
    round-own f (fin true m e) true _ _ h (mul-pos (down_pos e) (lit< tt)) (refl, simp mul-one)
times-one f (fin false m e) h =
    round-own f (fin false m e) false _ _ h (mul-pos (down_pos e) (lit< tt)) (refl, simp mul-one)

over-one : (f : Format) (x : Float) → T (fits f x) → div f x one-f ≡ x
unfolding div
over-one f nan h = refl
over-one f (inf true) h = refl
over-one f (inf false) h = refl
over-one f (fin true m e) h = round-own f (fin true m e) true _ _ h (mul-pos (lit< tt) (down_pos e)) (refl, omega arith)
over-one f (fin false m e) h =
    round-own f (fin false m e) false _ _ h (mul-pos (lit< tt) (down_pos e)) (refl, omega arith)

-- ---- max as 1 + q * 2^-52
abbrev grid : ℕ
grid = 4503599627370496

record Steps (top : Float) : Type 0 where
  q : ℕ
  few : q ≤ grid
  value : HasValue top false (grid + q) grid

module _ (m : ℕ) (e : ℤ) (ok : bank_ok (fin false m e) ≡ true) (held : T (fits binary64 (fin false m e))) where
  in-steps : Steps (fin false m e)
  in-steps =
      let (i, w, few, _) = fits-units binary64 false m e held in
      let at-least-1 : down e ≤ m * up e = above (fin false m e) ok in
      let at-most-2 : m * up e ≤ 2 * down e = below (fin false m e) ok in
      let reach : 2 ^ 1074 ≤ m * 2 ^ i =
      le_of_mul-le-mul_right
      (le_trans (mul-le-mul_left (2 ^ 1074) at-least-1) (le_of_eq (mul_comm (2 ^ 1074) (m * up e) ∙ w.1)))
      (down_pos e) in
      let large : 1021 < i =
      lt_of_not-le (λ (p : i ≤ 1021).
      lt_irrefl (2 ^ 1074)
      (lt_of_le_of_lt (le_trans reach (mul-le-mul_left m (pow_mono p)))
      (mul-lt-mul_of_pos_right few (pow_pos 1021)))) in
      let back : i ≡ i - 1022 + 1022 = omega arith in
      let M = m * 2 ^ (i - 1022) in
      let whole : m * 2 ^ i ≡ M * 2 ^ 1022 =
      ap (λ (z : ℕ). m * 2 ^ z) back
      ∙ ap (λ (z : ℕ). m * z) (pow-add 2 (i - 1022) 1022)
      ∙ sym (mul_assoc m (2 ^ (i - 1022)) (2 ^ 1022)) in
      let is : m * up e * grid ≡ M * down e =
      eq_of_mul-eq-mul_right (2 ^ 1022) (pow_pos 1022) (m * up e * grid) (M * down e)
      (mul_assoc (m * up e) grid (2 ^ 1022)
      ∙ w.1
      ∙ ap (λ (z : ℕ). z * down e) whole
      ∙ mul_right_comm M (2 ^ 1022) (down e)) in
      let least : grid ≤ M = le_of_mul-le-mul_right (omega arith) (down_pos e) in
      let most : M ≤ 2 * grid = le_of_mul-le-mul_right (omega arith) (down_pos e) in
      let split : M ≡ grid + (M - grid) = omega arith in
      record { q = M - grid; few = omega arith; value = (refl, is ∙ ap (λ (z : ℕ). z * down e) split) }

steps : (top : Float) → bank_ok top ≡ true → T (fits binary64 top) → Steps top
steps nan ok held = absurd (in-range nan ok).above.second
steps (inf s) ok held = absurd (in-range (inf s) ok).above.second
steps (fin true m e) ok held = absurd (omega (arith, above (fin true m e) ok, down_pos e))
steps (fin false m e) ok held = in-steps m e ok held

-- ---- max - 1, and 1 more
less_one : (top : Float) (s : Steps top) → sub binary64 top one-f ≡ round binary64 false s.q grid
unfolding sub neg
less_one nan s = absurd s.value
less_one (inf t) s = absurd s.value
less_one (fin true m e) s = absurd (true≢false s.value.0)
less_one (fin false m e) s =
    let l : 1 * 1 * down e ≤ m * up e * 1 =
    le_of_mul-le-mul_right {k = grid} (omega (arith, s.value.1, add-mul grid s.q (down e))) (lit< tt) in
    rw (le-ltb (m * up e * 1) (1 * 1 * down e) l)
    (round_same binary64 false (m * up e * 1 - 1 * 1 * down e) (down e * 1) s.q grid (mul-pos (down_pos e) (lit< tt))
    (lit< tt)
    (omega (arith, s.value.1, add-mul grid s.q (down e))))

one_more : (d : Float) (q : ℕ) → HasValue d false q grid → add binary64 one-f d ≡ round binary64 false (grid + q) grid
unfolding add
one_more nan q v = absurd v
one_more (inf t) q v = absurd v
one_more (fin true m e) q v = absurd (true≢false v.0)
one_more (fin false m e) q v =
    round_same binary64 false (1 * 1 * down e + m * up e * 1) (1 * down e) (grid + q) grid
    (mul-pos (lit< tt) (down_pos e)) (lit< tt)
    (omega (arith, v.1, add-mul grid q (1 * down e)))

pub one_set : (top : Float) → bank_ok top ≡ true → T (fits binary64 top) → rate_of top 1 1 ≡ top
unfolding rate_of of_int
one_set top ok held =
    let s = steps top ok held in
    let d = sub binary64 top one-f in
    let exact : HasValue d false s.q grid =
    rw (less_one top s)
    (round_exact binary64 false s.q grid s.q 1022 (lit< tt) (omega (arith, s.few))
    (lt_of_lt_of_le (mul-lt-mul_of_pos_right {n = 2 ^ 53} (omega (arith, s.few)) (pow_pos 1022)) (lit≤ tt))
    (sym (mul_assoc s.q (2 ^ 1022) grid))) in
    let h = sub-fits binary64 top one-f in
    ap (add binary64 one-f) (ap (λ (z : Float). div binary64 z one-f) (times-one binary64 d h) ∙ over-one binary64 d h)
    ∙ one_more d s.q exact
    ∙ round-own binary64 top false (grid + s.q) grid held (lit< tt) s.value
