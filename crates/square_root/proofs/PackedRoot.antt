-- The digits that `root_digits` finds, packed, are the root: `root` at a value from which an even power of two is taken
-- out. Assumes nothing.
use Rattle.std.proofs.Common.{◌≡◌, ℕ, zero, suc, ◌+◌, ◌-◌, ◌*◌, ◌/◌, ◌%◌, ◌^◌, ◌<◌, ◌≤◌, Bool, true, false, cond, T}
use Rattle.std.proofs.Common.{eqb, sym, refl, ap, ◌∙◌, subst, le_trans, le_of_eq, lt_of_lt_of_le, lt_irrefl}
use Rattle.std.proofs.Common.{zero-lt-suc, mul_assoc, mul_comm, mul-pos, zero-mul, mul_right_comm, le-mul_of_pos_right}
use Rattle.std.proofs.Common.{mul-div_cancel, arith, pow_pos, pow-add, shl_exact}
use native.Mathlib.Nat.{pow-succ'}
use lib.Bits.{bit_and, and_mask}
use lib.Ieee.{Float, nan, inf, fin, Format, binary64, low, up, down}
use lib.Ieee.Fits.{down_pos}
use lib.Ieee.Exact.{HasValue}
use lib.Ieee.Nearest.{div_same}
use lib.Ieee.Positive.{positive}
use Rattle.rounding.specs.Operations.{whole_root, more, rounded_root, root}
use Rattle.float_digits.specs.declared.Scaled.{Scaled}
use Rattle.float_digits.specs.Pattern.{packed}
use Rattle.float_digits.proofs.Jams.{jam-scale}
use Rattle.float_digits.proofs.PackMeaning.{packed-rounds}
use Rattle.float_digits.proofs.UnpackMeaning.{Scaling}
use Rattle.square_root.specs.Digits.{NearRoot, RootDigits}
use Rattle.square_root.proofs.Squares.{whole-root}
use Rattle.square_root.proofs.WholeRoot.{near-jam}

pub root-at : (f : Format) (x : Float) (v c : ℕ) → 0 < v → 0 < c → HasValue x false v c
    → root f x ≡ rounded_root f (v * (4 * 2 ^ low f * 2 ^ low f) / c)
unfolding root
root-at f nan v c P C h = absurd h
root-at f (inf s) v c P C h = absurd h
root-at f (fin s zero e) v c P C h =
    absurd (lt_irrefl 0 (lt_of_lt_of_le (mul-pos P (down_pos e))
    (le_of_eq (sym h.1 ∙ ap (λ (x : ℕ). x * c) (zero-mul (up e)) ∙ zero-mul c))))
root-at f (fin s (suc m) e) v c P C h =
    let K = 4 * 2 ^ low f * 2 ^ low f in
    ap (λ (b : Bool). cond b nan (rounded_root f (suc m * up e * K / down e))) h.0
    ∙ ap (rounded_root f)
    (div_same (suc m * up e * K) (down e) (v * K) c (down_pos e) C
    (mul_right_comm (suc m * up e) K c ∙ ap (λ (x : ℕ). x * K) h.1 ∙ mul_right_comm v (down e) K))

rounded : (n w k c a : ℕ) → 2 ^ k ≡ 2 * c → 0 < c → n ≡ a * (c * c) → NearRoot a w → 2 ^ 54 ≤ w → w < 2 ^ 55
    → packed 0 w k ≡ rounded_root binary64 n
unfolding rounded_root
rounded n w k c a K C e near L W =
    let s = whole_root n in
    let r = whole-root n in
    let v = 2 * s + more s n in
    let D = 4 * 2 ^ 1074 in
    let P : 0 < D = pow_pos 1076 in
    packed-rounds w k W (λ _. L) 0 v D (zero-lt-suc 1) P
    (rw (mul_assoc v (2 ^ 1074) 4, mul_comm D (2 ^ k), K)
    (jam-scale v (2 * c) w D P (near-jam n s r.0 r.1 a c w C e near)))

-- ---- the code: x is m * 2 ^ e / 2 ^ 1137, and z, which is m or 2 m, leaves an even power of two
unsigned : (x : Float) (s : Bool) (v c : ℕ) → T (positive x) → HasValue x s v c → HasValue x false v c
unsigned nan s v c p h = h
unsigned (inf t) s v c p h = h
unsigned (fin true m e) s v c p h = absurd p
unsigned (fin false m e) s v c p h = (refl, h.1)

abbrev parity : ℕ → ℕ
parity e = bit_and (e + 1) 1

pub parity-lt : (e : ℕ) → parity e < 2
parity-lt e = omega (arith, and_mask (e + 1) 1)

powers : (m e : ℕ)
    → m * 2 ^ e * (4 * 2 ^ 1074 * 2 ^ 1074) / 2 ^ 1137
    ≡ m * 2 ^ parity e * 2 ^ 46 * (2 ^ ((e + 969) / 2 - 1) * 2 ^ ((e + 969) / 2 - 1))
powers m e =
    let j = (e + 969) / 2 - 1 in
    let exponents : e + 1013 ≡ parity e + (46 + (j + j)) = omega (arith, and_mask (e + 1) 1) in
    let moved : 2 ^ e * 2 ^ 1013 ≡ 2 ^ parity e * (2 ^ 46 * (2 ^ j * 2 ^ j)) =
    sym (pow-add 2 e 1013)
    ∙ ap (λ (x : ℕ). 2 ^ x) exponents
    ∙ pow-add 2 (parity e) (46 + (j + j))
    ∙ ap (λ (x : ℕ). 2 ^ parity e * x) (pow-add 2 46 (j + j) ∙ ap (λ (x : ℕ). 2 ^ 46 * x) (pow-add 2 j j)) in
    ap (λ (x : ℕ). x / 2 ^ 1137) (sym (mul_assoc (m * 2 ^ e) (2 ^ 1013) (2 ^ 1137)))
    ∙ mul-div_cancel (m * 2 ^ e * 2 ^ 1013) (pow_pos 1137)
    ∙ mul_assoc m (2 ^ e) (2 ^ 1013)
    ∙ ap (λ (x : ℕ). m * x) moved
    ∙ sym (mul_assoc m (2 ^ parity e) (2 ^ 46 * (2 ^ j * 2 ^ j)))
    ∙ sym (mul_assoc (m * 2 ^ parity e) (2 ^ 46) (2 ^ j * 2 ^ j))

module _ (x : Float) (p : Scaled) (S : Scaling x p) where
  shifted : p.m * 2 ^ parity p.e % 2 ^ 64 ≡ p.m * 2 ^ parity p.e
  shifted = shl_exact 63 (parity p.e) 64 S.below (omega (arith, parity-lt p.e))

  pub shifted-ge : 2 ^ 62 ≤ p.m * 2 ^ parity p.e % 2 ^ 64
  shifted-ge = rw shifted (le_trans S.least (le-mul_of_pos_right p.m (pow_pos (parity p.e))))

  pub root-code : (w : ℕ) → T (positive x) → RootDigits (p.m * 2 ^ parity p.e % 2 ^ 64) w
      → packed 0 w ((p.e + 969) / 2) ≡ root binary64 x
  root-code w pos d =
      let m = p.m in
      let e = p.e in
      let k = (e + 969) / 2 in
      let n = m * 2 ^ e * (4 * 2 ^ 1074 * 2 ^ 1074) / 2 ^ 1137 in
      let next : k ≡ suc (k - 1) = omega arith in
      rounded n w k (2 ^ (k - 1)) (m * 2 ^ parity e * 2 ^ 46) (ap (λ (i : ℕ). 2 ^ i) next ∙ pow-succ' 2 (k - 1))
      (pow_pos (k - 1)) (powers m e) (subst (λ (z : ℕ). NearRoot (z * 2 ^ 46) w) shifted d.near) d.least
      d.below
      ∙ sym (root-at binary64 x (m * 2 ^ e) (2 ^ 1137) (mul-pos (lt_of_lt_of_le (pow_pos 62) S.least) (pow_pos e))
      (pow_pos 1137) (unsigned x (eqb p.s 1) (m * 2 ^ e) (2 ^ 1137) pos S.value))
