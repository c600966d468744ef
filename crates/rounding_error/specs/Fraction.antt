-- A number as a fraction with a sign: p, n and d stand for (p - n) / d. Definitions only.
use Rattle.std.specs.Prelude.{◌≡◌, ℕ, suc, ◌+◌, ◌*◌, ◌≤◌, ◌<◌, ℤ, pos, negsuc}

pub record Frac : Type 0 where
  pub p : ℕ
  pub n : ℕ
  pub d : ℕ

abbrev pub frac : ℕ → ℕ → ℕ → Frac
frac a b c = record { p = a; n = b; d = c }

abbrev pub nil : Frac
nil = frac 0 0 1

abbrev pub plus : Frac → Frac → Frac
plus x y = frac (x.p * y.d + y.p * x.d) (x.n * y.d + y.n * x.d) (x.d * y.d)

abbrev pub times : Frac → Frac → Frac
times x y = frac (x.p * y.p + x.n * y.n) (x.p * y.n + x.n * y.p) (x.d * y.d)

abbrev pub opp : Frac → Frac
opp x = frac x.n x.p x.d

-- The fraction x divided by b / d.
abbrev pub over : Frac → ℕ → ℕ → Frac
over x b d = frac (x.p * d) (x.n * d) (x.d * b)

-- The fraction z / d of a whole number z, by its positive and its negative part.
abbrev pub zp : ℤ → ℕ
zp (pos n) = n
zp (negsuc n) = 0

abbrev pub zn : ℤ → ℕ
zn (pos n) = 0
zn (negsuc n) = suc n

abbrev pub whole : ℤ → ℕ → Frac
whole z d = frac (zp z) (zn z) d

-- Two fractions are the same number. The relations of this page include that both denominators are above zero.
pub record Same (x y : Frac) : Type 0 where
  pub left : 0 < x.d
  pub right : 0 < y.d
  pub cross : x.p * y.d + y.n * x.d ≡ y.p * x.d + x.n * y.d

-- The inequality x - y ≤ e / g.
abbrev pub Upto : ℕ → ℕ → Frac → Frac → Type 0
Upto g e x y = g * (x.p * y.d + y.n * x.d) ≤ g * (y.p * x.d + x.n * y.d) + e * (x.d * y.d)

-- The inequality |x - y| ≤ e / g.
pub record Within (g e : ℕ) (x y : Frac) : Type 0 where
  pub left : 0 < x.d
  pub right : 0 < y.d
  pub above : Upto g e x y
  pub below : Upto g e y x

-- The inequality |x| ≤ b.
abbrev pub Mag : ℕ → Frac → Type 0
Mag b x = Within 1 b x nil
