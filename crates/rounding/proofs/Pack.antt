-- A pattern that is put together reads as it was meant. A sign and k * hid + q read as q * 2 ^ k units, carry and
-- overflow included; a sign, an exponent field and digits read as those three fields. Assumes nothing.
use mathlib.Core.Path.{◌≡◌, refl, sym, ap, ◌∙◌, subst}
use mathlib.Core.Logic.{inl, inr}
use mathlib.Core.Bool.{Bool, true, false, cond}
use Prim.Native.Nat.{ℕ, suc, ◌+◌, ◌*◌, ◌/◌, ◌%◌, ◌^◌, ◌≤◌, ◌<◌}
use native.Mathlib.Nat.{le_refl, le_trans, le_of_eq, lt_of_le_of_lt, mul_comm, mul-le-mul_right, add-mul}
use native.Mathlib.Nat.{le_of_mul-le-mul_right, zero-add, le-add_right, mod-eq_of_lt, le_antisymm, add-mod_left}
use native.Mathlib.Nat.{mul-add-mod_self_left}
use native.Mathlib.Omega.{arith}
use lib.Dec.{T, leb, le→leb}
use lib.Arith.{digits_mod, digits_div, digits_lt, lt→nleb}
use lib.Pow.{pow-add, pow_pos, pow-lt}
use lib.Ieee.{Float, inf, Format, units, fits, prec, emax, low, of_bits, of_fields, hid, top, ones}
use lib.Ieee.Fits.{two, odd-fits, inf-fits}
use lib.Ieee.Exact.{units_val}
use lib.Ieee.Bits.{is_true, is_false, of_bits-to_bits}
use lib.Ieee.Scale.{overflow}
use Rattle.rounding.proofs.DroppedDigits.{prec-pos}
use Rattle.rounding.proofs.NumberOrders.{lt-or-ge, pow_le_back, pow_lt_back}
use Rattle.rounding.proofs.Units.{bits-units, carried, hid-le, to_bits_inf, twice_hid, units-finite, units-over}
use Rattle.rounding.proofs.Units.{up-hid}

-- ---- sign + (k * hid + q)
units-fits : (f : Format) (s : Bool) (q k : ℕ) → q ≤ 2 ^ prec f → q * 2 ^ k < overflow f → T (fits f (units f s q k))
units-fits f s q k Q h =
    subst (λ (v : Float). T (fits f v)) (sym (units-finite f s q k h))
    (odd-fits f (suc (prec f)) s q k (lt_of_le_of_lt Q (pow-lt (le_refl (suc (prec f))))) Q h)

-- Where it overflows, k is the last place and q is 2 ^ prec.
pack-over : (f : Format) (q k : ℕ) → q ≤ 2 ^ prec f → k < 2 * emax f → overflow f ≤ q * 2 ^ k
    → k * hid f + q ≡ ones f * hid f
pack-over f q k Q K h =
    let p = prec f in
    let P : 2 ≤ p = two f in
    let a : low f + suc (emax f) ≤ p + k =
    pow_le_back (low f + suc (emax f)) (p + k)
    (le_trans h (le_trans (mul-le-mul_right (2 ^ k) Q) (le_of_eq (sym (pow-add 2 p k))))) in
    let e : k + 2 ≡ ones f = omega arith in
    let b : p + k ≡ low f + suc (emax f) = omega arith in
    let c : 2 ^ p ≤ q =
    le_of_mul-le-mul_right (le_trans (le_of_eq (sym (pow-add 2 p k) ∙ ap (λ (z : ℕ). 2 ^ z) b)) h) (pow_pos k) in
    let d : q ≡ hid f + hid f = le_antisymm Q c ∙ twice_hid p (prec-pos f) in
    let g : (k + 2) * hid f ≡ k * hid f + 2 * hid f = add-mul k 2 (hid f) in
    let i : k * hid f + q ≡ (k + 2) * hid f = omega arith in
    i ∙ ap (λ (z : ℕ). z * hid f) e

pub pack : (f : Format) (s : Bool) (q k : ℕ) → q ≤ 2 ^ prec f → (0 < k → hid f ≤ q) → k < 2 * emax f
    → of_bits f (cond s (top f) 0 + (k * hid f + q)) ≡ units f s q k
pack f s q k Q N K = elim (lt-or-ge (q * 2 ^ k) (overflow f)) [
  | inl h ↦ ap (of_bits f) (sym (bits-units f (units f s q k) s q k Q N (units_val f s q k h)))
      ∙ of_bits-to_bits f (units f s q k) (units-fits f s q k Q h)
  | inr g ↦
      ap (λ (z : ℕ). of_bits f (cond s (top f) 0 + z)) (pack-over f q k Q K g)
      ∙ ap (of_bits f) (sym (to_bits_inf f s))
      ∙ of_bits-to_bits f (inf s) (inf-fits f s)
      ∙ sym (units-over f s q k g)
]

-- 2 ^ prec units at k are hid units at k + 1.
pub units-carry : (f : Format) (s : Bool) (k : ℕ) → units f s (hid f) (suc k) ≡ units f s (2 ^ prec f) k
units-carry f s k = elim (lt-or-ge (2 ^ prec f * 2 ^ k) (overflow f)) [
  | inl h ↦
      let P : 2 ≤ prec f = two f in
      let l : prec f + k < low f + suc (emax f) =
      pow_lt_back (prec f + k) (low f + suc (emax f)) (lt_of_le_of_lt (le_of_eq (pow-add 2 (prec f) k)) h) in
      sym (pack f s (hid f) (suc k) (hid-le f) (λ _. le_refl (hid f)) (omega arith))
      ∙ ap (λ (z : ℕ). of_bits f (cond s (top f) 0 + z)) (carried f k)
      ∙ pack f s (2 ^ prec f) k (le_refl (2 ^ prec f)) (λ _. hid-le f) (omega arith)
  | inr g ↦ units-over f s (hid f) (suc k) (le_trans g (le_of_eq (sym (up-hid f k))))
      ∙ sym (units-over f s (2 ^ prec f) k g)
]

-- ---- sign, exponent field and digits
pub of_bits_is : (f : Format) (b : ℕ) → of_bits f b ≡ of_fields f (leb (top f) b) (b % top f / hid f) (b % hid f)
unfolding of_bits
of_bits_is f b = refl

pub fields : (f : Format) (s : Bool) (x t : ℕ) → x < suc (ones f) → t < hid f
    → of_bits f (cond s (top f) 0 + (x * hid f + t)) ≡ of_fields f s x t
fields f s x t X H = go s
  where
    r : ℕ
    r = x * hid f + t

    small : r < top f
    small = subst (λ (a : ℕ). r < a) (mul_comm (suc (ones f)) (hid f)) (digits_lt X H)

    same : {s s' : Bool} {x x' t t' : ℕ} → s ≡ s' → x ≡ x' → t ≡ t' → of_fields f s x t ≡ of_fields f s' x' t'
    same p q r = cc

    go : (s : Bool) → of_bits f (cond s (top f) 0 + r) ≡ of_fields f s x t
    go true =
        of_bits_is f (top f + r)
        ∙ same (is_true (leb (top f) (top f + r)) (le→leb (top f) (top f + r) (le-add_right (top f) r)))
        (ap (λ (a : ℕ). a / hid f) (add-mod_left (top f) r ∙ mod-eq_of_lt small) ∙ digits_div x H)
        (mul-add-mod_self_left (hid f) (suc (ones f)) r ∙ digits_mod x H)
    go false =
        ap (λ (a : ℕ). of_bits f a) (zero-add r)
        ∙ of_bits_is f r
        ∙ same (is_false (leb (top f) r) (lt→nleb (top f) r small))
        (ap (λ (a : ℕ). a / hid f) (mod-eq_of_lt small) ∙ digits_div x H) (digits_mod x H)
