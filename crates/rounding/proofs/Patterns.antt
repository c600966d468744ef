-- A pattern is the weight of its sign and a rest; the rest shows whether it is a NaN's, an infinity's or a finite
-- value's. Assumes nothing.
use mathlib.Core.Path.{◌≡◌, sym, ap, ◌∙◌, subst}
use mathlib.Core.Logic.{inl, inr}
use mathlib.Core.Bool.{Bool, true, false, not, cond}
use Prim.Native.Nat.{ℕ, zero, suc, ◌+◌, ◌-◌, ◌*◌, ◌/◌, ◌%◌, ◌^◌, ◌≤◌, ◌<◌}
use native.Mathlib.Nat.{le_trans, le_of_eq, lt_of_lt_of_le, lt_of_le_of_lt, zero-lt-suc, mul_comm, mul-pos}
use native.Mathlib.Nat.{mul-lt-mul_of_pos_right, eq-or-lt_of_le, le_of_suc-le-suc, lt_irrefl, suc-mul, div-add-mod'}
use native.Mathlib.Nat.{zero-add, mod-lt, mod-eq_of_lt, div-lt_iff_lt-mul, add-mod_left, lt-suc_self}
use native.Mathlib.Omega.{arith}
use lib.Dec.{T, leb, eqb, nltb→le, lit<, leb→le, nleb→lt}
use lib.Arith.{le→nltb}
use lib.Pow.{pow_pos}
use lib.Ieee.{Float, nan, inf, fin, Format, binary32, binary64, units, fits, to_bits, prec, emax, of_bits, is_nan}
use lib.Ieee.{nan_bits}
use lib.Ieee.{of_fields, hid, top, ones}
use lib.Ieee.Bits.{nan_bits_above, of_bits-to_bits, nan_bits_is}
use lib.Ieee.Scale.{finite}
use Rattle.rounding.proofs.DroppedDigits.{prec-pos}
use Rattle.rounding.proofs.Pack.{of_bits_is, pack}
use Rattle.rounding.proofs.Units.{to_bits_inf, twice_hid}

pub top_pos : (f : Format) → 0 < top f
top_pos f = mul-pos (pow_pos (prec f - 1)) (zero-lt-suc (ones f))

-- ---- sign and rest
pub rest-is : (f : Format) (s : Bool) (r : ℕ) → r < top f → (cond s (top f) 0 + r) % top f ≡ r
rest-is f true r h = add-mod_left (top f) r ∙ mod-eq_of_lt h
rest-is f false r h = ap (λ (z : ℕ). z % top f) (zero-add r) ∙ mod-eq_of_lt h

pub sign-rest : (f : Format) (n : ℕ) → n < 2 * top f → n ≡ cond (leb (top f) n) (top f) 0 + n % top f
sign-rest f n h = go (leb (top f) n) (leb→le (top f) n) (nleb→lt (top f) n)
  where
    go : (b : Bool) → (T b → top f ≤ n) → (T (not b) → n < top f) → n ≡ cond b (top f) 0 + n % top f
    go true a b =
        let l : top f ≤ n = a tt in
        let e : n ≡ top f + (n - top f) = omega arith in
        let r : n % top f ≡ n - top f = ap (λ (z : ℕ). z % top f) e ∙ rest-is f true (n - top f) (omega arith) in
        omega arith
    go false a b = sym (zero-add (n % top f) ∙ mod-eq_of_lt (b tt))

-- ---- a NaN's pattern lies above an infinity's
pub no-nan-rest : (f : Format) (n : ℕ) → T (not (nan_bits f n)) → n % top f ≤ ones f * hid f
no-nan-rest f n h = nltb→le (ones f * hid f) (n % top f) (subst (λ (z : Bool). T (not z)) (nan_bits_above f n) h)

pub rest-no-nan : (f : Format) (n : ℕ) → n % top f ≤ ones f * hid f → T (not (nan_bits f n))
rest-no-nan f n h = subst (λ (z : Bool). T (not z)) (sym (nan_bits_above f n)) (le→nltb (ones f * hid f) (n % top f) h)

pub value-bits : (f : Format) (x : Float) → T (fits f x) → T (not (is_nan x)) → T (not (nan_bits f (to_bits f x)))
value-bits f x held h =
    subst (λ (z : Bool). T (not z)) (sym (nan_bits_is f (to_bits f x) ∙ ap is_nan (of_bits-to_bits f x held))) h

-- A sign and a rest up to an infinity's are not a NaN's pattern.
pub inf-lt : (f : Format) → ones f * hid f < top f
inf-lt f =
    lt_of_lt_of_le (mul-lt-mul_of_pos_right (lt-suc_self (ones f)) (pow_pos (prec f - 1)))
    (le_of_eq (mul_comm (suc (ones f)) (hid f)))

pub sign-no-nan : (f : Format) (s : Bool) (r : ℕ) → r ≤ ones f * hid f → T (not (nan_bits f (cond s (top f) 0 + r)))
sign-no-nan f s r h =
    rest-no-nan f (cond s (top f) 0 + r) (le_trans (le_of_eq (rest-is f s r (lt_of_le_of_lt h (inf-lt f)))) h)

-- ---- a finite value's pattern lies below an infinity's
pub no_value : (b : Bool) (x y : Float) → (T (finite x) → ⊥) → (T (finite y) → ⊥) → T (finite (cond b x y)) → ⊥
no_value true x y f g h = f h
no_value false x y f g h = g h

full : (f : Format) (s : Bool) (t : ℕ) → T (finite (of_fields f s (ones f) t)) → ⊥
unfolding of_fields
full binary32 s t h = no_value (eqb t 0) (inf s) nan (λ z. z) (λ z. z) h
full binary64 s t h = no_value (eqb t 0) (inf s) nan (λ z. z) (λ z. z) h

pub finite-rest : (f : Format) (n : ℕ) → T (finite (of_bits f n)) → n % top f < ones f * hid f
finite-rest f n h =
    let x = n % top f / hid f in
    let l : x < suc (ones f) =
    (div-lt_iff_lt-mul (pow_pos (prec f - 1))).1
    (lt_of_lt_of_le (mod-lt n (top_pos f)) (le_of_eq (mul_comm (hid f) (suc (ones f))))) in
    elim (eq-or-lt_of_le (le_of_suc-le-suc l)) [
      | inl e ↦ absurd (full f (leb (top f) n) (n % hid f)
          (subst (λ (z : ℕ). T (finite (of_fields f (leb (top f) n) z (n % hid f)))) e
          (subst (λ (v : Float). T (finite v)) (of_bits_is f n) h)))
      | inr g ↦ (div-lt_iff_lt-mul (pow_pos (prec f - 1))).0 g
    ]

pub bits-finite : (f : Format) (x : Float) → T (not (is_nan x)) → to_bits f x % top f < ones f * hid f → T (finite x)
unfolding is_nan
bits-finite f nan n h = n
bits-finite f (inf s) n h =
    lt_irrefl (ones f * hid f) (subst (λ (z : ℕ). z < ones f * hid f)
    (ap (λ (z : ℕ). z % top f) (to_bits_inf f s) ∙ rest-is f s (ones f * hid f) (inf-lt f)) h)
bits-finite f (fin s m e) n h = tt

-- Let b be a finite value's pattern without its sign. The exponent of its unit is b / hid - 1, and the rest of b counts
-- that unit.
pub unpacked : (f : Format) (s : Bool) (b : ℕ) → b < ones f * hid f
    → of_bits f (cond s (top f) 0 + b) ≡ units f s (b - (b / hid f - 1) * hid f) (b / hid f - 1)
unpacked f s b h =
    go (b / hid f) (b % hid f) (sym (div-add-mod' b (hid f))) (mod-lt b (pow_pos (prec f - 1)))
    ((div-lt_iff_lt-mul (pow_pos (prec f - 1))).1 h)
  where
    read : (q k : ℕ) → b ≡ k * hid f + q → q ≤ 2 ^ prec f → (0 < k → hid f ≤ q) → k < 2 * emax f
        → of_bits f (cond s (top f) 0 + b) ≡ units f s q k
    read q k e a l c = ap (λ (z : ℕ). of_bits f (cond s (top f) 0 + z)) e ∙ pack f s q k a l c

    go : (x t : ℕ) → b ≡ x * hid f + t → t < hid f → x < ones f
        → of_bits f (cond s (top f) 0 + b) ≡ units f s (b - (x - 1) * hid f) (x - 1)
    go zero t e T X =
        let w : 2 ^ prec f ≡ hid f + hid f = twice_hid (prec f) (prec-pos f) in
        read (b - 0 * hid f) 0 (omega arith) (omega arith) (λ (k : 0 < 0). absurd (lt_irrefl 0 k)) (half f)
      where
        half : (f : Format) → 0 < 2 * emax f
        half binary32 = lit< tt
        half binary64 = lit< tt
    go (suc x) t e T X =
        let w : 2 ^ prec f ≡ hid f + hid f = twice_hid (prec f) (prec-pos f) in
        let m : suc x * hid f ≡ x * hid f + hid f = suc-mul x (hid f) in
        let k : x ≡ suc x - 1 = omega arith in
        read (b - x * hid f) x (omega arith) (omega arith) (λ _. omega arith) (omega arith)
        ∙ ap (λ (z : ℕ). units f s (b - z * hid f) z) k
