-- v units rounded to an f64. A finite result lies below the size from which an f64 is an infinity; and if it is an
-- infinity as an f64, it is one as an f32. Assumes nothing.
use Rattle.std.proofs.Common.{◌≡◌, ℕ, ◌+◌, ◌-◌, ◌*◌, ◌^◌, ◌<◌, ◌≤◌, Bool, T, sym, ap, ◌∙◌, subst, inl, inr, le_trans}
use Rattle.std.proofs.Common.{le_of_eq, lt_of_lt_of_le, mul-le-mul_right, mul-le-mul, arith, lit≤, pow_pos, pow_mono}
use Rattle.std.proofs.Common.{pow-add}
use lib.Ieee.{Float, binary32, binary64, round}
use lib.Ieee.Nearest.{closest}
use lib.Ieee.Scale.{finite}
use Rattle.rounding.specs.Operations.{narrowed}
use Rattle.rounding.proofs.NearestWhole.{closest-ge}
use Rattle.rounding.proofs.DroppedDigits.{round-finer}
use Rattle.rounding.proofs.NumberOrders.{lt-or-ge, pow_le_back}
use Rattle.rounding.proofs.Units.{units-over}
use Rattle.rounding.proofs.WholeUnits.{near, near_le, places, round-units, v-ge, v-lt}

pub under_top : (v : ℕ) (s : Bool) → T (finite (round binary64 s v (2 ^ 1074)))
    → near binary64 v * 2 ^ places binary64 v < 2 ^ (1074 + 1024)
under_top v s h = elim (lt-or-ge (near binary64 v * 2 ^ places binary64 v) (2 ^ (1074 + 1024))) [
  | inl l ↦ l
  | inr g ↦ absurd (subst (λ (z : Float). T (finite z))
      (round-units binary64 v s ∙ units-over binary64 s (near binary64 v) (places binary64 v) g) h)
]

pub as-infinite : (v : ℕ) (s : Bool) → 2 ^ (1074 + 1024) ≤ near binary64 v * 2 ^ places binary64 v
    → narrowed (round binary64 s v (2 ^ 1074)) ≡ round binary32 s v (2 ^ 1074)
unfolding narrowed
as-infinite v s g =
    let j = places binary64 v in
    let J : 2098 ≤ 53 + j =
    pow_le_back 2098 (53 + j)
    (le_trans g (le_trans (mul-le-mul_right (2 ^ j) (near_le binary64 v)) (le_of_eq (sym (pow-add 2 53 j))))) in
    let k = j - 896 in
    let e : 52 + j ≡ 23 + (925 + k) = omega arith in
    let f : 53 + j ≡ 24 + (925 + k) = omega arith in
    let p : 0 < j = omega arith in
    let K : 254 ≤ k = omega arith in
    let lo : 2 ^ 23 * 2 ^ (925 + k) ≤ v =
    le_trans (le_of_eq (sym (pow-add 2 23 (925 + k)) ∙ ap (λ (z : ℕ). 2 ^ z) (sym e) ∙ pow-add 2 52 j))
    (v-ge binary64 v p) in
    let hi : v < 2 ^ 24 * 2 ^ (925 + k) =
    lt_of_lt_of_le (v-lt binary64 v)
    (le_of_eq (sym (pow-add 2 53 j) ∙ ap (λ (z : ℕ). 2 ^ z) f ∙ pow-add 2 24 (925 + k))) in
    let c = closest v (2 ^ (925 + k)) in
    let top : 2 ^ 277 ≤ c * 2 ^ k =
    le_trans (lit≤ tt) (mul-le-mul (closest-ge v (2 ^ (925 + k)) (2 ^ 23) (pow_pos (925 + k)) lo) (pow_mono K)) in
    ap narrowed (round-units binary64 v s ∙ units-over binary64 s (near binary64 v) j g)
    ∙ sym (round-finer binary32 s v 925 k (λ _. lo) hi ∙ units-over binary32 s c k top)
