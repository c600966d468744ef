-- D2b, K4, K5. IEEE 754's words for one rounding, to nearest with ties to even, for any format. The function `round`,
-- and so every operation that rounds once, is proved to be this. Sizes are counted in the format's smallest positive
-- value, 2 ^ -low. Definitions only.
use Rattle.std.specs.Prelude.{◌≡◌, Bool, ◌&&◌, cond, ℕ, suc, ◌+◌, ◌-◌, ◌*◌, ◌%◌, ◌^◌, ◌≤◌, ◌<◌, T, Float}
use Rattle.std.specs.Bool.{beq}
use Rattle.std.specs.Float.{nan, inf, fin, Format}
use Rattle.std.specs.Float.Ieee.{prec, emax, low, hid, unlike, up, down, fits}
use Rattle.std.specs.Float.Ieee.Exact.{HasValue}

-- The distance between ±a and ±b.
abbrev pub apart : Bool → ℕ → Bool → ℕ → ℕ
apart s a t b = cond (beq s t) (a - b + (b - a)) (a + b)

-- The distance between ±num / den and a value of size Y and sign t, in smallest values times den.
abbrev pub off : Format → Bool → ℕ → ℕ → Bool → ℕ → ℕ
off f s num den t Y = apart s (num * 2 ^ low f) t (Y * den)

-- The largest finite value: every digit is 1, and the unit is the format's largest.
abbrev pub largest : Format → ℕ
largest f = (2 ^ prec f - 1) * 2 ^ (suc (emax f) - prec f)

-- The midpoint above the largest value, half a unit in the last place more: 2 ^ (emax + 1) - 2 ^ (emax - prec).
abbrev pub limit : Format → ℕ
limit f = largest f + 2 ^ (emax f - prec f)

-- The value of size R has an even last digit. R is q units of 2 ^ k; where the unit is above 1, q has all the format's
-- digits; and q is even.
pub record LastEven (f : Format) (R : ℕ) : Type 0 where
  pub q : ℕ
  pub k : ℕ
  pub is : R ≡ q * 2 ^ k
  pub few : q ≤ 2 ^ prec f
  pub full : 0 < k → hid f ≤ q
  pub even : q % 2 ≡ 0

-- x is the format's value nearest to ±num / den. It has the sign s, even if it is a zero; no value lies nearer; and if
-- another lies as near, x is the one whose last digit is even.
pub record Nearest (f : Format) (s : Bool) (num den : ℕ) (x : Float) : Type 0 where
  pub size : ℕ
  pub held : T (fits f x)
  pub value : HasValue x s size (2 ^ low f)
  pub nearest : (y : Float) (t : Bool) (Y : ℕ) → T (fits f y) → HasValue y t Y (2 ^ low f)
      → off f s num den s size ≤ off f s num den t Y
  pub even : (y : Float) (t : Bool) (Y : ℕ) → T (fits f y) → HasValue y t Y (2 ^ low f)
      → (y ≡ x → ⊥) → off f s num den s size ≡ off f s num den t Y → LastEven f size

-- x is ±num / den rounded once: an infinity from the midpoint above the largest value on, otherwise the nearest value.
pub record RoundedOnce (f : Format) (s : Bool) (num den : ℕ) (x : Float) : Type 0 where
  pub above : limit f * den ≤ num → x ≡ inf s
  pub below : num < limit f * den → Nearest f s num den x

-- ±v is ±a + ±b. All negative parts are moved to the other side, so that both sides are whole numbers. A sum of exactly
-- zero is -0 if both parts are negative, and +0 otherwise.
pub record SumOf (S : Bool) (v : ℕ) (s : Bool) (a : ℕ) (t : Bool) (b : ℕ) : Type 0 where
  pub adds : cond S 0 v + (cond s a 0 + cond t b 0) ≡ cond S v 0 + (cond s 0 a + cond t 0 b)
  pub sign : v ≡ 0 → S ≡ (s && t)

-- ±num / den is exactly x * y + z, for finite x, y and z. All three are written over one denominator, that of the
-- product, of z and of the fraction.
abbrev pub ExactFused : Float → Float → Float → Bool → ℕ → ℕ → Type 0
ExactFused nan y z S num den = ⊥
ExactFused (inf s) y z S num den = ⊥
ExactFused (fin s m e) nan z S num den = ⊥
ExactFused (fin s m e) (inf t) z S num den = ⊥
ExactFused (fin s m e) (fin t n d) nan S num den = ⊥
ExactFused (fin s m e) (fin t n d) (inf u) S num den = ⊥
ExactFused (fin s m e) (fin t n d) (fin u k g) S num den =
    SumOf S (num * (down e * down d * down g))
    (unlike s t) (m * up e * (n * up d) * down g * den)
    u (k * up g * (down e * down d) * den)
