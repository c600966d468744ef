-- The places of the quick way: what fields in range show of the product and the addend, and that the sum at either's
-- place is the exact sum. Assumes nothing.
use Rattle.std.proofs.Common.{◌≡◌, ℕ, suc, ◌+◌, ◌-◌, ◌*◌, ◌/◌, ◌%◌, ◌^◌, ◌<◌, ◌≤◌, sym, ap, ◌∙◌, subst, le_of_eq}
use Rattle.std.proofs.Common.{lt_of_le_of_lt, mul_assoc, mul-le-mul, mul-div_cancel, arith, lit<, pow_pos, pow-add}
use lib.Bits.{shifted_even}
use Rattle.float_digits.specs.Jam.{Jam}
use Rattle.float_digits.proofs.Jams.{jam-scale}
use Rattle.fused64.specs.Wide.{val}
use Rattle.fused64.specs.Word.{Heads, Cutoff, Beside, Joined, Normal, Quick, digits53, field_of}

-- A head in range is the sign and the field less 768.
pub reached : (n f : ℕ) → n < 2 ^ 64 → f < 2 ^ 64 → (f + 768) % 2 ^ 64 ≡ n / 2 ^ 52 → f % 2 ^ 11 < 2 ^ 9
    → (f % 2 ^ 11 + 768 ≡ field_of n) × (f / 2 ^ 11 ≡ n / 2 ^ 63) × (f < 2 ^ 12)
reached n f N F e h =
    let w : n / 2 ^ 52 ≡ n / 2 ^ 63 * 2 ^ 11 + field_of n = omega arith in
    let q : n / 2 ^ 63 < 2 = omega arith in
    let u : field_of n < 2 ^ 11 = omega arith in
    apart (n / 2 ^ 63) (field_of n) f q u F (e ∙ w) h
  where
    apart : (q u f : ℕ) → q < 2 → u < 2 ^ 11 → f < 2 ^ 64 → (f + 768) % 2 ^ 64 ≡ q * 2 ^ 11 + u → f % 2 ^ 11 < 2 ^ 9
        → (f % 2 ^ 11 + 768 ≡ u) × (f / 2 ^ 11 ≡ q) × (f < 2 ^ 12)
    apart q u f Q U F e h =
        let s : f + 768 ≡ q * 2 ^ 11 + u = omega arith in
        (omega arith, omega arith, omega arith)

pub high_lt : (a b hi lo : ℕ) → val hi lo ≡ digits53 a * 2 ^ 10 * (digits53 b * 2 ^ 10) → hi < 2 ^ 62
high_lt a b hi lo M =
    let x : digits53 a * 2 ^ 10 ≤ 2 ^ 63 - 2 ^ 10 = omega arith in
    let y : digits53 b * 2 ^ 10 ≤ 2 ^ 63 - 2 ^ 10 = omega arith in
    let m : digits53 a * 2 ^ 10 * (digits53 b * 2 ^ 10) ≤ (2 ^ 63 - 2 ^ 10) * (2 ^ 63 - 2 ^ 10) = mul-le-mul x y in
    high hi lo (lt_of_le_of_lt (le_of_eq M) (lt_of_le_of_lt m (lit< tt)))
  where
    high : (h l : ℕ) → val h l < 2 ^ 126 → h < 2 ^ 62
    high h l q = omega arith

normal : (n x : ℕ) → x < 2 ^ 9 → x + 768 ≡ field_of n → Normal n
normal n x h e = record { least = omega arith; below = omega arith }

-- The addend ends in eight zeros, and fewer than eight digits are dropped.
pub halved : (n d : ℕ) → d < 8 → (n * 2 ^ 8 / 2 ^ d ≡ n * 2 ^ (8 - d)) × (n * 2 ^ (8 - d) * 2 ^ d ≡ n * 2 ^ 8)
halved n d h =
    let e : 8 - d + d ≡ 8 = omega arith in
    let same : n * 2 ^ (8 - d) * 2 ^ d ≡ n * 2 ^ 8 =
    mul_assoc n (2 ^ (8 - d)) (2 ^ d)
    ∙ ap (λ (x : ℕ). n * x) (sym (pow-add 2 (8 - d) d) ∙ ap (λ (x : ℕ). 2 ^ x) e) in
    (ap (λ (x : ℕ). x / 2 ^ d) (sym same) ∙ mul-div_cancel (n * 2 ^ (8 - d)) (pow_pos d), same)

pub halved-even : (n d : ℕ) → d < 8 → n * 2 ^ 8 / 2 ^ d % 2 ≡ 0
halved-even n d h =
    let e : 8 - d ≡ suc (7 - d) = omega arith in
    ap (λ (x : ℕ). x % 2) ((halved n d h).0 ∙ ap (λ (x : ℕ). n * 2 ^ x) e) ∙ shifted_even n (7 - d)

pub beside : (k h p z e : ℕ) → p < 2 ^ 62 → z < 2 ^ 62 → z % 2 ≡ 0 → 9 ≤ e → e < 1600
    → Beside (k / 2 ^ 11 % 2 * 2 ^ 11) p (h / 2 ^ 11 % 2 * 2 ^ 11) z e
beside k h p z e P Z even l m =
    record {
      first = (omega arith, omega arith);
      second = (omega arith, omega arith);
      left = P;
      right = Z;
      even = even;
      place = (l, m);
    }

module _ (a b c f g h hi lo : ℕ) (A : (f % 2 ^ 11 + 768 ≡ field_of a) × (f / 2 ^ 11 ≡ a / 2 ^ 63) × (f < 2 ^ 12))
    (B : (g % 2 ^ 11 + 768 ≡ field_of b) × (g / 2 ^ 11 ≡ b / 2 ^ 63) × (g < 2 ^ 12))
    (C : (h % 2 ^ 11 + 768 ≡ field_of c) × (h / 2 ^ 11 ≡ c / 2 ^ 63) × (h < 2 ^ 12)) (R : Heads f g h)
    (M : val hi lo ≡ digits53 a * 2 ^ 10 * (digits53 b * 2 ^ 10)) where
  abbrev X : ℕ
  X = field_of a + 52 + (field_of b + 52)

  -- The sum at the place e.
  at : (s p t z e r d : ℕ) → s / 2 ^ 11 ≡ (a / 2 ^ 63 + b / 2 ^ 63) % 2 → t / 2 ^ 11 ≡ c / 2 ^ 63 → Cutoff hi lo d p
      → 64 + d + X ≡ e + 1189 → z * 2 ^ (e + 1189) ≡ digits53 c * 2 ^ 8 * 2 ^ (field_of c + 1191) → Joined s p t z e r
      → Quick a b c r
  at s p t z e r d S T K E Z J =
      let unit : 2 ^ (64 + d) * 2 ^ X ≡ 2 ^ (e + 1189) = sym (pow-add 2 (64 + d) X) ∙ ap (λ (i : ℕ). 2 ^ i) E in
      let jam : Jam (val hi lo * 2 ^ X) (2 ^ (e + 1189)) p =
      subst (λ (u : ℕ). Jam (val hi lo * 2 ^ X) u p) unit
      (jam-scale (val hi lo) (2 ^ (64 + d)) p (2 ^ X) (pow_pos X) K.jams) in
      record {
        first = normal a (f % 2 ^ 11) R.first A.0;
        second = normal b (g % 2 ^ 11) R.second B.0;
        third = normal c (h % 2 ^ 11) R.third C.0;
        finite = J.finite;
        sums = rw (← S, ← T, ← Z, ← M) (J.sums (val hi lo * 2 ^ X) jam);
      }

  -- The heads of the sum, as the code has them.
  pub sign-is : (f + g) / 2 ^ 11 % 2 * 2 ^ 11 / 2 ^ 11 ≡ (a / 2 ^ 63 + b / 2 ^ 63) % 2
  sign-is = omega (arith, A.1, B.1, R.first, R.second)

  pub product-place : (f + g) % 2 ^ 11 + 1536 ≡ field_of a + field_of b
  product-place = omega (arith, A.0, B.0, R.first, R.second)

  module _ (p r : ℕ) where
    abbrev s : ℕ
    s = (f + g) / 2 ^ 11 % 2 * 2 ^ 11

    abbrev t : ℕ
    t = h / 2 ^ 11 % 2 * 2 ^ 11

    abbrev i : ℕ
    i = (f + g) % 2 ^ 11 + 515

    abbrev j : ℕ
    j = h % 2 ^ 11 + 770

    abbrev z : ℕ
    z = digits53 c * 2 ^ 8

    lower-sign : t / 2 ^ 11 ≡ c / 2 ^ 63
    lower-sign = omega (arith, C.1, C.2)

    end : j + 1189 ≡ field_of c + 1191
    end = omega (arith, C.0)

    -- The sum is made at the addend's place.
    pub at-addend : i ≤ j → Cutoff hi lo (j - i) p → Joined s p t z j r → Quick a b c r
    at-addend l K J =
        at s p t z j r (j - i) sign-is lower-sign K (omega (arith, product-place)) (ap (λ (x : ℕ). z * 2 ^ x) end) J

    -- The sum is made at the product's place.
    pub at-product : j < i → i - j < 8 → Cutoff hi lo 0 p → Joined s p t (z / 2 ^ (i - j)) i r → Quick a b c r
    at-product l m K J =
        let e : i + 1189 ≡ i - j + (j + 1189) = omega arith in
        let back : z / 2 ^ (i - j) * 2 ^ (i - j) ≡ z =
        ap (λ (x : ℕ). x * 2 ^ (i - j)) (halved (digits53 c) (i - j) m).0 ∙ (halved (digits53 c) (i - j) m).1 in
        at s p t (z / 2 ^ (i - j)) i r 0 sign-is lower-sign K (omega (arith, product-place))
        (ap (λ (x : ℕ). z / 2 ^ (i - j) * x) (ap (λ (x : ℕ). 2 ^ x) e ∙ pow-add 2 (i - j) (j + 1189))
        ∙ sym (mul_assoc (z / 2 ^ (i - j)) (2 ^ (i - j)) (2 ^ (j + 1189)))
        ∙ ap (λ (x : ℕ). x * 2 ^ (j + 1189)) back
        ∙ ap (λ (x : ℕ). z * 2 ^ x) end) J
