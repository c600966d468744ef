-- The floor by one sum with a whole number, for an x of magnitude at most 2 ^ 36. Rounding keeps the order, so the sum
-- lies between the floor and the next whole number, each with that number added. If these lie from 2 ^ 52 to 2 ^ 53,
-- where every f64 is whole, the sum is one of the two, and a comparison with x shows which. Assumes nothing.
use Rattle.std.proofs.Common.{◌≡◌, ℕ, suc, ◌+◌, ◌-◌, ◌*◌, ◌^◌, ◌<◌, ◌≤◌, Bool, true, false, cond, ◌&&◌, T, ltb, ◌⊎◌}
use Rattle.std.proofs.Common.{pos, negsuc, sym, refl, ap, ◌∙◌, subst, inl, inr, ⊎_elim, true≢false, mul-le-mul_right}
use Rattle.std.proofs.Common.{suc-mul, add-mul, mul-pos, arith, lit<, ltb→lt, pow_pos, ltb-false, ltb-true, le-ltb}
use lib.IntN.{sub_ℕ}
use lib.Ieee.{Float, nan, inf, fin, binary64, lt, le, add, sub, of_int, fits}
use lib.Ieee.Bits.{is_true}
use lib.Ieee.Exact.{HasValue}
use lib.Ieee.Fits.{add-fits, and_l, and_r}
use lib.Ieee.Positive as positives
use lib.Ieee.Positive.{num, den, den_pos, positive, positive_of_value, own_value, values_of_le}
use lib.Ieee.Scale.{finite}
use Rattle.magnitude.specs.Bounds.{AtMost}
use Rattle.magnitude.proofs.OrderAndBounds.{at-most-finite}
use Rattle.magnitude.proofs.WholeFloats.{whole-value, whole-difference}
use Rattle.interval.proofs.Signed.{gain, loss}
use Rattle.interval.proofs.Operations.{Rounds, in_order, added}
use Rattle.integer_part.specs.Parts.{floor_of}
use Rattle.integer_part.proofs.FloorOfLarge.{placed}
use Rattle.integer_part.proofs.WholeThroughFloat.{parts, parts-less, below, is_below}
use Rattle.integer_part.proofs.Floors.{pos_part, neg_part, floor-at-most, floor-around, equal}

-- The number m * 2 ^ k is large enough, and not too large.
abbrev pub fitting : ℕ → ℕ → Bool
fitting m k = ltb (2 ^ 52 + 2 ^ 36 + 1) (m * 2 ^ k) && ltb (m * 2 ^ k + 2 ^ 36 + 1) (2 ^ 53)

rounds-whole : (n : ℕ) → Rounds binary64 (of_int binary64 (pos n)) n 0 1
unfolding of_int
rounds-whole n = record { sign = false; size = n; is = refl; same = omega arith }

-- ---- the sum is one of two whole numbers
sides : (big lo p q d g l : ℕ) → lo + q ≡ big + p → (p * d + l ≤ q * d + g) × (q * d + g < suc p * d + l)
    → (lo * d + l ≤ g + big * d) × (g + big * d < suc lo * d + l)
sides big lo p q d g l e a =
    let m : lo * d + q * d ≡ big * d + p * d = sym (add-mul lo q d) ∙ ap (λ (z : ℕ). z * d) e ∙ add-mul big p d in
    (omega arith, omega (arith, suc-mul lo d, suc-mul p d))

shape : (t : Float) (lo : ℕ) → T (fits binary64 t) → T (positive t) → 2 ^ 52 < lo → lo * den t ≤ num t * 1
    → num t * 1 ≤ suc lo * den t → HasValue t false lo 1 ⊎ HasValue t false (suc lo) 1
shape nan lo f p B a b = absurd p
shape (inf s) lo f p B a b = absurd p
shape (fin true m e) lo f p B a b = absurd p
shape (fin false m (negsuc k)) lo f p B a b =
    absurd (omega (
      arith,
      placed false m k f,
      mul-le-mul_right (2 ^ suc k) B,
      suc-mul (2 ^ 52) (2 ^ suc k),
      pow_pos (suc k),
    ))
shape (fin false m (pos k)) lo f p B a b = go (ltb lo (m * 2 ^ k)) refl
  where
    go : (t : Bool) → ltb lo (m * 2 ^ k) ≡ t
        → HasValue (fin false m (pos k)) false lo 1 ⊎ HasValue (fin false m (pos k)) false (suc lo) 1
    go true h = inr (refl, omega (arith, ltb-true lo (m * 2 ^ k) h))
    go false h = inl (refl, omega (arith, ltb-false lo (m * 2 ^ k) h))

module _ (m k : ℕ) (f : T (fitting m k)) (x : Float) (h : AtMost (2 ^ 36) x) where
  abbrev big : ℕ
  big = m * 2 ^ k

  abbrev big-f : Float
  big-f = fin false m (pos k)

  big-value : HasValue big-f false big 1
  big-value = (refl, refl)

  least : 2 ^ 52 + 2 ^ 36 + 1 < big
  least = ltb→lt (2 ^ 52 + 2 ^ 36 + 1) big (and_l (ltb (2 ^ 52 + 2 ^ 36 + 1) big) _ f)

  most : big + 2 ^ 36 + 1 < 2 ^ 53
  most = ltb→lt (big + 2 ^ 36 + 1) (2 ^ 53) (and_r (ltb (2 ^ 52 + 2 ^ 36 + 1) big) _ f)

  below_top : big ≤ 2 ^ 53
  below_top = omega (arith, most)

  abbrev low : ℕ
  low = big + pos_part (floor_of x) - neg_part (floor_of x)

  ok : T (finite x)
  ok = at-most-finite (2 ^ 36) x h

  low-is : low + neg_part (floor_of x) ≡ big + pos_part (floor_of x)
  low-is = omega (arith, least, parts (floor_of x), floor-at-most (2 ^ 36) x (lit< tt) h)

  small : (2 ^ 52 < low) × (suc low ≤ 2 ^ 53)
  small = (
    omega (arith, least, parts (floor_of x), floor-at-most (2 ^ 36) x (lit< tt) h),
    omega (arith, most, parts (floor_of x), floor-at-most (2 ^ 36) x (lit< tt) h),
  )

  floor-is : sub_ℕ low big ≡ floor_of x
  floor-is = equal (sub_ℕ low big) (floor_of x) (omega (arith, parts-less low big, low-is))

  around : (low * den x + loss x ≤ gain x + big * den x) × (gain x + big * den x < suc low * den x + loss x)
  around =
      sides big low (pos_part (floor_of x)) (neg_part (floor_of x)) (den x) (gain x) (loss x) low-is
      (floor-around (2 ^ 36) x (lit< tt) h)

  abbrev t : Float
  t = add binary64 x big-f

  near : HasValue t false low 1 ⊎ HasValue t false (suc low) 1
  near =
      let under = of_int binary64 (pos low) in
      let over = of_int binary64 (pos (suc low)) in
      let r = added binary64 x big-f ok tt in
      let c = mul-pos (den_pos x) (lit< tt) in
      let above : T (le under t) =
      in_order binary64 low 0 1 _ _ _ (lit< tt) c (rounds-whole low) r (omega (arith, around.0)) in
      let below : T (le t over) =
      in_order binary64 _ _ _ (suc low) 0 1 c (lit< tt) r (rounds-whole (suc low)) (omega (arith, around.1)) in
      let u = whole-value binary64 (pos low) (omega (arith, small.1)) in
      let o = whole-value binary64 (pos (suc low)) small.1 in
      let up = positive_of_value under low 1 u (omega (arith, small.0)) in
      let op = positive_of_value over (suc low) 1 o (omega arith) in
      let p = positives.between under t over up op above below in
      let v = own_value t p in
      shape t low (add-fits binary64 x big-f) p small.0 (values_of_le under t low 1 (num t) (den t) up p u v above)
      (values_of_le t over (num t) (den t) (suc low) 1 p op v o below)

  -- If n - b is the lower of the two, then n - b less that number is the floor.
  lands : (n b : ℕ) (s : Float) → HasValue t false n 1 → HasValue s false b 1 → n ≡ low + b
      → sub binary64 (sub binary64 t s) big-f ≡ of_int binary64 (floor_of x)
  lands n b s v w e =
      let cut : sub_ℕ n b ≡ pos low = rw e (rw (le-ltb (low + b) b (omega arith)) (ap pos (omega arith))) in
      rw (
        whole-difference binary64 t s n b v w,
        cut,
        whole-difference binary64 (of_int binary64 (pos low)) big-f low big
            (whole-value binary64 (pos low) (omega (arith, small.1))) big-value,
        floor-is,
      )

  pub nearby : (b : Bool) → lt x (sub binary64 t big-f) ≡ b
      → sub binary64 (sub binary64 t (cond b (fin false 1 (pos 0)) (fin false 0 (pos 0)))) big-f
      ≡ of_int binary64 (floor_of x)
  nearby true k =
      ⊎_elim (λ v. absurd (omega (
        arith,
        around.0,
        below big below_top x ok low (omega (arith, small.1))
            (subst T (sym (rw (whole-difference binary64 t big-f low big v big-value) at k)) tt),
      )))
      (λ v. lands (suc low) 1 _ v (refl, refl) (omega arith)) near
  nearby false k =
      ⊎_elim (λ v. lands low 0 _ v (refl, refl) (omega arith))
      (λ v. absurd (true≢false (sym (is_true _ (is_below big below_top x ok (suc low) small.1 around.1))
      ∙ (rw (whole-difference binary64 t big-f (suc low) big v big-value) at k)))) near
