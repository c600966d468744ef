-- K6. Power 0 needs no sum: the sum by column 0, which is 1 at the integer and 0 elsewhere, equals the sample there.
-- Assumes nothing.
use mathlib.Core.Path.{◌≡◌, sym, ap, ◌∙◌, subst}
use mathlib.Core.Bool.{Bool, true, false}
use mathlib.Core.List.{List}
use Prim.Native.Nat.{ℕ, ◌<◌}
use lib.Dec.{T, lit<}
use lib.IntN.{pos}
use lib.ListN.{get_or}
use lib.Ieee.{Float, nan, fin, binary64, fits, mul, eq}
use lib.Ieee.Scale.{finite}
use Rattle.farrow8_powers.specs.Sums.{dot_of, power, powers_of}
use Rattle.farrow8_powers.proofs.Basis.{centre}
use Rattle.farrow8_powers.proofs.Zeros.{Like, Sample, sample, plus-null, null-plus, by_zero, by_one, equal}

-- y is a finite f64.
abbrev pub Finite : Float → Type 0
Finite y = T (finite y) × T (fits binary64 y)

module _ (x : List Float) (samples : (k : ℕ) → k < 8 → Finite (get_or x k nan)) where
  at : (k : ℕ) → k < 8 → Sample (get_or x k nan)
  at k h = sample (get_or x k nan) (samples k h).0 (samples k h).1

  zero-at : (s : Bool) (k : ℕ) → k < 8 → Like s 0 (mul binary64 (get_or x k nan) (fin false 0 (pos 0)))
  zero-at s k h = let v = at k h in by_zero s v.sign v.size v.like

  -- The two are equal as IEEE 754 compares them, for which -0 equals 0.
  pub power-0 : eq (power x 0) (powers_of x).s0 ≡ true
  unfolding dot_of
  power-0 =
      let c = at 3 (lit< tt) in
      let s = c.sign in
      let own = subst (Like s c.size) (sym (by_one s c.size c.like)) c.like in
      let to-2 = plus-null (plus-null (zero-at s 0 (lit< tt)) (zero-at s 1 (lit< tt))) (zero-at s 2 (lit< tt)) in
      let to-5 = plus-null (plus-null (null-plus to-2 own) (zero-at s 4 (lit< tt))) (zero-at s 5 (lit< tt)) in
      let all = plus-null (plus-null to-5 (zero-at s 6 (lit< tt))) (zero-at s 7 (lit< tt)) in
      ap (λ (column : List Float). eq (dot_of x column) (powers_of x).s0) centre ∙ equal s c.size all c.like
