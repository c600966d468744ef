-- The cast to an `i64` beyond the ends of its range: from 2 ^ 63 on it is the largest `i64`, below -2 ^ 63 the
-- smallest. Assumes nothing.
use Rattle.std.proofs.Common.{◌≡◌, ℕ, ◌+◌, ◌-◌, ◌*◌, ◌/◌, ◌^◌, ◌<◌, ◌≤◌, min, Bool, true, false, T, ltb, pos, neg_ℤ}
use Rattle.std.proofs.Common.{sym, refl, ap, subst, true≢false, le_trans, le_of_lt, le-div_iff_mul-le, arith, lit≤}
use Rattle.std.proofs.Common.{ltb-false, ltb-true}
use native.Mathlib.Nat.{min-eq_right}
use lib.Ieee.{Float, nan, inf, fin, up, down, lt, le, eq, ne, to_signed}
use lib.Ieee.Compare.{differs_from_itself}
use lib.Ieee.Fits.{down_pos}
use Rattle.magnitude.specs.Bounds.{AtMost}
use Rattle.magnitude.proofs.OrderAndBounds.{at-most-ge}

-- 2 ^ 63 ≤ a / d, so the minimum is the end.
reached : (a d c : ℕ) → 0 < d → c ≤ 2 ^ 63 → 2 ^ 63 * d ≤ a → min (a / d) c ≡ c
reached a d c D C h = min-eq_right (le_trans C ((le-div_iff_mul-le D).1 h))

pub above : (x : Float) → lt x (fin false 1 (pos 63)) ≡ false → eq x x ≡ true → pos (2 ^ 63 - 1) ≡ to_signed 63 x
unfolding lt eq to_signed
above nan h k = absurd (true≢false (sym k))
above (inf true) h k = absurd (true≢false h)
above (inf false) h k = refl
above (fin true m e) h k =
    let z : m * up e * 1 + 1 * 2 ^ 63 * down e ≤ 0 = ltb-false 0 (m * up e * 1 + 1 * 2 ^ 63 * down e) h in
    absurd (omega (arith, down_pos e))
above (fin false m e) h k =
    let z : 1 * 2 ^ 63 * down e ≤ m * up e * 1 = ltb-false (m * up e * 1) (1 * 2 ^ 63 * down e) h in
    ap pos (sym (reached (m * up e) (down e) (2 ^ 63 - 1) (down_pos e) (lit≤ tt) (omega arith)))

inside : (x : Float) → le (fin true 1 (pos 63)) x ≡ false → AtMost (2 ^ 63) x → ⊥
inside x k h = subst T k (at-most-ge (2 ^ 63) x (fin true 1 (pos 63)) (refl, refl) h)

pub under : (x : Float) → lt x (fin false 1 (pos 63)) ≡ true → le (fin true 1 (pos 63)) x ≡ false
    → neg_ℤ (pos (2 ^ 63)) ≡ to_signed 63 x
unfolding lt to_signed
under nan h k = absurd (true≢false (sym h))
under (inf true) h k = refl
under (inf false) h k = absurd (true≢false (sym h))
under (fin false m e) h k =
    let z : m * up e * 1 < 1 * 2 ^ 63 * down e = ltb-true (m * up e * 1) (1 * 2 ^ 63 * down e) h in
    absurd (inside (fin false m e) k (omega arith))
under (fin true m e) h k =
    ap (λ (z : ℕ). neg_ℤ (pos z))
    (sym (reached (m * up e) (down e) (2 ^ 63) (down_pos e) (lit≤ tt) (go (ltb (m * up e) (2 ^ 63 * down e)) refl)))
  where
    go : (t : Bool) → ltb (m * up e) (2 ^ 63 * down e) ≡ t → 2 ^ 63 * down e ≤ m * up e
    go true l = absurd (inside (fin true m e) k (le_of_lt (ltb-true (m * up e) (2 ^ 63 * down e) l)))
    go false l = ltb-false (m * up e) (2 ^ 63 * down e) l

pub unordered : (x : Float) → eq x x ≡ false → pos 0 ≡ to_signed 63 x
unfolding ne to_signed
unordered x h = rw (differs_from_itself x (rw h tt))
