-- Where the root of n lies, seen from its whole root s. Twice s, and 1 more if s is not exact, stands for twice the
-- root in every comparison with a whole number. So digits near a root stand for it. Assumes nothing.
use Rattle.std.proofs.Common.{◌≡◌, ℕ, ◌+◌, ◌-◌, ◌*◌, ◌<◌, ◌≤◌, sym, ap, ◌∙◌, inl, inr, le_of_eq, le_refl}
use Rattle.std.proofs.Common.{lt_of_lt_of_le, lt_of_le_of_lt, mul_assoc, mul_comm, add-mul, mul-lt-mul_of_pos_right}
use Rattle.std.proofs.Common.{mul-pos, mul_left_comm, arith, eq-eqb, ne_eqb}
use mathlib.Core.Logic.{dite}
use native.Mathlib.Decide.{ℕ_discrete}
use Rattle.rounding.specs.Operations.{more}
use Rattle.float_digits.specs.Jam.{Jam}
use Rattle.square_root.specs.Digits.{NearRoot}
use Rattle.square_root.proofs.Squares.{ring, sq-lt-back}

module _ (n s : ℕ) (lo : s * s ≤ n) (hi : n < (s + 1) * (s + 1)) where
  pub above : (x : ℕ) → x * x < n → 2 * x < 2 * s + more s n
  above x h =
      dite (ℕ_discrete (s * s) n)
      (λ e.
      let l : x < s = sq-lt-back x s (omega arith) in
      rw (eq-eqb (s * s) n e) (omega arith))
      (λ g.
      let l : x < s + 1 = sq-lt-back x (s + 1) (omega arith) in
      rw (ne_eqb (s * s) n g) (omega arith))

  pub more-le : more s n ≤ 1
  more-le =
      dite (ℕ_discrete (s * s) n) (λ e. rw (eq-eqb (s * s) n e) (omega arith))
      (λ g. rw (ne_eqb (s * s) n g) (le_refl 1))

  pub under : (x : ℕ) → n < x * x → 2 * s + more s n < 2 * x
  under x h =
      let m = more-le in
      let l : s < x = sq-lt-back s x (omega arith) in
      omega arith

  pub exactly : (x : ℕ) → x * x ≡ n → 2 * s + more s n ≡ 2 * x
  exactly x h =
      let a : s < x + 1 = sq-lt-back s (x + 1) (omega (arith, next)) in
      let b : x < s + 1 = sq-lt-back x (s + 1) (omega arith) in
      let e : s ≡ x = omega arith in
      rw (eq-eqb (s * s) n (ap (λ (y : ℕ). y * y) e ∙ h)) (omega arith)
    where
      next : x * x < (x + 1) * (x + 1)
      next =
          let q : (x + 1) * (x + 1) ≡ x * x + 2 * x + 1 = simp ring (omega arith) in
          omega arith

  -- n is a * c ^ 2, and w is near the root of a.
  pub near-jam : (a c w : ℕ) → 0 < c → n ≡ a * (c * c) → NearRoot a w → Jam (2 * s + more s n) (2 * c) w
  near-jam a c w C e (inl h) =
      inl (exactly (w * c) (square w ∙ ap (λ (x : ℕ). x * (c * c)) h ∙ sym e) ∙ mul_left_comm 2 w c)
    where
      square : (v : ℕ) → v * c * (v * c) ≡ v * v * (c * c)
      square v = simp (mul_assoc, mul_comm, mul_left_comm)
  near-jam a c w C e (inr h) =
      let below =
      above ((w - 1) * c)
      (lt_of_le_of_lt (le_of_eq (square (w - 1)))
      (lt_of_lt_of_le (mul-lt-mul_of_pos_right h.1 (mul-pos C C)) (le_of_eq (sym e)))) in
      let over =
      under ((w + 1) * c) (lt_of_le_of_lt (le_of_eq e)
      (lt_of_lt_of_le (mul-lt-mul_of_pos_right h.2 (mul-pos C C)) (le_of_eq (sym (square (w + 1)))))) in
      let o = h.0 in
      let back : w - 1 + 1 ≡ w = omega arith in
      let one : (w - 1) * c + 1 * c ≡ w * c = sym (add-mul (w - 1) 1 c) ∙ ap (λ (x : ℕ). x * c) back in
      let next : (w + 1) * c ≡ w * c + 1 * c = add-mul w 1 c in
      let unit : w * (2 * c) ≡ 2 * (w * c) = mul_left_comm w 2 c in
      inr (o, omega arith, omega arith)
    where
      square : (v : ℕ) → v * c * (v * c) ≡ v * v * (c * c)
      square v = simp (mul_assoc, mul_comm, mul_left_comm)
