-- W13. Cutting the stretch differently gives the same report. Assumes nothing.
use Rattle.std.proofs.Common.{◌≡◌, ℕ, List, [], ◌∷◌, ◌++◌, length, ℤ, sym, refl, ap, ◌∙◌, arith}
use mathlib.Core.List.{foldl, foldl-append}
use Rattle.residual.specs.declared.Report.{Report}
use Rattle.residual.specs.Report.{difference, differences, one, carried}

pub differences-append : (xs ys us vs : List ℤ) → length xs ≡ length ys
    → differences (xs ++ us) (ys ++ vs) ≡ differences xs ys ++ differences us vs
unfolding differences
differences-append [] [] us vs e = refl
differences-append [] (y ∷ ys) us vs e = absurd (omega arith)
differences-append (x ∷ xs) [] us vs e = absurd (omega arith)
differences-append (x ∷ xs) (y ∷ ys) us vs e =
    ap (λ (ds : List ℕ). difference x y ∷ ds) (differences-append xs ys us vs (omega arith))

pub cut : (r : Report) (xs ys us vs : List ℤ) → length xs ≡ length ys
    → carried (carried r xs ys) us vs ≡ carried r (xs ++ us) (ys ++ vs)
unfolding carried
cut r xs ys us vs e =
    sym (foldl-append one r (differences xs ys) (differences us vs))
    ∙ ap (foldl one r) (sym (differences-append xs ys us vs e))
