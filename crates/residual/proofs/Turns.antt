-- A loop over the differences of two stretches by an index, whatever a turn does with a difference: before each turn
-- the differences so far have been folded. Assumes nothing.
use Rattle.std.proofs.Common.{◌≡◌, ℕ, ◌+◌, ◌<◌, ◌≤◌, List, [], ◌∷◌, length, get_or, take, ℤ, pos, ap, ◌∙◌}
use Rattle.std.proofs.Common.{add-one, arith, take_all, take-suc}
use mathlib.Core.List.{foldl, foldl-append}
use Rattle.residual.specs.Report.{difference, differences}
use Rattle.residual.proofs.Stretches.{length-differences, at-difference}

module _ {T : Type 0} (step : T → ℕ → T) (t : T) (xs ys : List ℤ) (long : length xs ≡ length ys) (i : ℕ) where
  pub one-turn : i < length xs → {v w : T} (d : ℕ) → v ≡ foldl step t (take i (differences xs ys))
      → d ≡ difference (get_or xs i (pos 0)) (get_or ys i (pos 0)) → w ≡ step v d
      → w ≡ foldl step t (take (i + 1) (differences xs ys))
  one-turn inside d e f g =
      let ds = differences xs ys in
      let k : i < length ds = omega (arith, length-differences xs ys long) in
      g ∙ rw (
        add-one i,
        take-suc ds i 0 k,
        foldl-append step t (take i ds) (get_or ds i 0 ∷ []),
        at-difference xs ys i long inside,
        e,
        f,
      )

  pub all-turns : length xs ≤ i → {v : T} → v ≡ foldl step t (take i (differences xs ys))
      → v ≡ foldl step t (differences xs ys)
  all-turns h e = e ∙ ap (foldl step t) (take_all i (differences xs ys) (omega (arith, length-differences xs ys long)))
