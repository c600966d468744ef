-- A finite f64 as a whole number of the smallest values, and numbers with no more digits than an f64, which rounding
-- does not change. Assumes nothing.
use mathlib.Core.Path.{◌≡◌, refl, sym, ap, ◌∙◌}
use mathlib.Core.Bool.{Bool, true, false, not}
use Prim.Native.Nat.{ℕ, ◌*◌, ◌^◌, ◌<◌}
use native.Mathlib.Nat.{le_of_eq, lt_of_le_of_lt, lt_of_lt_of_le}
use native.Mathlib.Omega.{arith}
use lib.Dec.{T}
use lib.Pow.{pow_pos}
use lib.Ieee.{Float, nan, inf, fin, binary64, round, fits}
use lib.Ieee.Exact.{HasValue, round_exact}
use lib.Ieee.Scale.{finite, overflow}
use Rattle.rounding.proofs.Values.{fits-units}
use Rattle.rounding_error.specs.Fraction.{Frac, opp, Same}
use Rattle.rounding_error.specs.Value.{signed, val, Is}
use Rattle.rounding_error.proofs.Same.{same-sym, same-trans, opp-same}
use Rattle.rounding_error.proofs.Value.{value-is}
use Rattle.rounding_error.proofs.Operations.{Rounded, bottom}
use Rattle.near_fused.proofs.RoundTo53.{Few}

abbrev pub L : ℕ
L = 2 ^ 1074

-- A finite f64: its sign, and how many of the smallest values it is.
pub record Units (x : Float) : Type 0 where
  pub sign : Bool
  pub amount : ℕ
  pub few : Few amount
  pub under : amount < overflow binary64
  pub value : HasValue x sign amount (2 ^ 1074)

-- A number with no more digits than an f64.
pub record Short (q : Frac) : Type 0 where
  pub sign : Bool
  pub amount : ℕ
  pub few : Few amount
  pub under : amount < overflow binary64
  pub same : Same (signed sign amount (2 ^ 1074)) q

pub units_of : (x : Float) → T (fits binary64 x) → T (finite x) → Units x
units_of nan h f = absurd f
units_of (inf s) h f = absurd f
units_of (fin s m e) h f =
    let (i, v, few, b) = fits-units binary64 s m e h in
    record {
      sign = s;
      amount = m * 2 ^ i;
      few = (m, i, refl, few);
      under = lt_of_lt_of_le b (le_of_eq refl);
      value = v;
    }

pub units-same : {x : Float} (u : Units x) → Same (signed u.sign u.amount (2 ^ 1074)) (val x)
units-same {x} u = same-sym (value-is x u.sign u.amount L (pow_pos 1074) u.value).same

pub short-of : {x : Float} → Units x → Short (val x)
short-of u = record { sign = u.sign; amount = u.amount; few = u.few; under = u.under; same = units-same u }

pub short-same : {q r : Frac} → Same q r → Short q → Short r
short-same e h =
    record { sign = h.sign; amount = h.amount; few = h.few; under = h.under; same = same-trans h.same e }

pub short-opp : {q : Frac} → Short q → Short (opp q)
short-opp {q} h =
    record {
      sign = not h.sign;
      amount = h.amount;
      few = h.few;
      under = h.under;
      same = go h.sign (opp-same h.same);
    }
  where
    go : (s : Bool) → Same (opp (signed s h.amount L)) (opp q) → Same (signed (not s) h.amount L) (opp q)
    go true e = e
    go false e = e

-- Such a number is not changed by rounding.
size_same : (s t : Bool) (a c b d : ℕ) → Same (signed s a c) (signed t b d) → a * d ≡ b * c
size_same false false a c b d e = omega (arith, e.cross)
size_same true true a c b d e = omega (arith, e.cross)
size_same false true a c b d e = omega (arith, e.cross)
size_same true false a c b d e = omega (arith, e.cross)

pub short-exact : {x : Float} {q : Frac} → Short q → Rounded binary64 x q → Is x q
short-exact {x} {q} h r =
    let C = bottom r in
    let (d, i, e, few) = h.few in
    let a = size_same r.s h.sign r.a r.c h.amount L (same-trans r.same (same-sym h.same)) in
    let v =
    value-is (round binary64 r.s r.a r.c) r.s r.a r.c C
    (round_exact binary64 r.s r.a r.c d i C few (lt_of_le_of_lt (le_of_eq (sym e)) h.under)
    (a ∙ ap (λ (z : ℕ). z * r.c) e)) in
    rw r.is (record { real = v.real; same = same-trans v.same r.same })
