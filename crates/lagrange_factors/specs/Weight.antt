-- K7. The weight of a node by 000's inner loop, over any arithmetic: in floats it is the kernel's, in fractions it is
-- Lagrange's formula. Definitions only.
use Rattle.std.specs.Prelude.{ℕ, zero, suc, ◌<◌, ◌≡◌, cond, eqb, ℤ, pos, nat_abs, ◌-ℤ◌, ◌*ℤ◌, Float}
use Rattle.std.specs.Float.{binary64}
use Rattle.std.specs.Float.Ieee.{sub, mul, div, of_int}
use Rattle.constants.specs.Numbers.{one-f}

-- The operations that the loop uses.
pub record Arithmetic (A : Type 0) : Type 0 where
  pub one : A
  pub number : ℕ → A
  pub less : A → A → A
  pub times : A → A → A
  pub over : A → A → A

-- In 000: `if j != k { weight *= (local - j) / (k - j) }`.
abbrev pub factor : {A : Type 0} → Arithmetic A → A → ℕ → ℕ → A → A
factor a local k j w =
    cond (eqb j k) w (a.times w (a.over (a.less local (a.number j)) (a.less (a.number k) (a.number j))))

-- The weight of node k after the factors of the nodes below n.
unfoldable pub weight : {A : Type 0} → Arithmetic A → A → ℕ → ℕ → A
weight a local k zero = a.one
weight a local k (suc j) = factor a local k j (weight a local k j)

-- K4. The arithmetic of 000, in which every operation is rounded.
abbrev pub floats : Arithmetic Float
floats =
    record {
      one = one-f;
      number = λ n. of_int binary64 (pos n);
      less = sub binary64;
      times = mul binary64;
      over = div binary64;
    }

-- A numerator and a denominator; the fraction has a value if the denominator is not zero.
pub record Fraction : Type 0 where
  pub top : ℤ
  pub bottom : ℤ

pub record Is (z : ℤ) (f : Fraction) : Type 0 where
  pub proper : 0 < nat_abs f.bottom
  pub value : f.top ≡ z *ℤ f.bottom

-- D2b. The arithmetic of exact fractions, in which nothing is rounded.
abbrev pub fractions : Arithmetic Fraction
fractions =
    record {
      one = record { top = pos 1; bottom = pos 1 };
      number = λ n. record { top = pos n; bottom = pos 1 };
      less = λ f g. record { top = f.top *ℤ g.bottom -ℤ g.top *ℤ f.bottom; bottom = f.bottom *ℤ g.bottom };
      times = λ f g. record { top = f.top *ℤ g.top; bottom = f.bottom *ℤ g.bottom };
      over = λ f g. record { top = f.top *ℤ g.bottom; bottom = f.bottom *ℤ g.top };
    }
