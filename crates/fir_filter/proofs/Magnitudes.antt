-- What is kept: two comparisons are one comparison of the magnitude. Assumes nothing.
use mathlib.Core.Path.{◌≡◌, refl}
use mathlib.Core.Bool.{true, false}
use Prim.Native.Nat.{ℕ}
use lib.IntN.{ℤ}
use lib.Ieee.{Float, nan, inf, fin, lt}
use Rattle.fir_filter.specs.Filters.{abs_of}

module _ (n : ℕ) (d : ℤ) where
  pub above : (x : Float) → lt (fin false n d) x ≡ true → lt (fin false n d) (abs_of x) ≡ true
  unfolding lt
  above nan h = h
  above (inf s) h = refl
  above (fin false m e) h = h
  above (fin true m e) h = cc

  pub under : (x : Float) → lt x (fin true n d) ≡ true → lt (fin false n d) (abs_of x) ≡ true
  unfolding lt
  under nan h = h
  under (inf s) h = refl
  under (fin false m e) h = cc
  under (fin true m e) h = h

  pub between : (x : Float) → lt (fin false n d) x ≡ false → lt x (fin true n d) ≡ false
      → lt (fin false n d) (abs_of x) ≡ false
  unfolding lt
  between nan h k = refl
  between (inf false) h k = h
  between (inf true) h k = k
  between (fin false m e) h k = h
  between (fin true m e) h k = k
