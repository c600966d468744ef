-- K8. A run of calls of any function that has a state: each call finds the state as the last one left it. It is defined
-- over the number by which a call is refused, 0 for none, and the state that the call leaves for that number.
-- Definitions only.
use Rattle.std.specs.Prelude.{ℕ, zero, suc, List, [], ◌∷◌}

-- Keeps what belongs to an accepted call and drops what belongs to a refused one.
abbrev pub keep : {A : Type 0} → ℕ → A → List A → List A
keep zero a rest = a ∷ rest
keep (suc k) a rest = rest

module _ {S C : Type 0} (due : S → C → ℕ) (after_by : ℕ → S → C → S) where
  unfoldable pub run_of : S → List C → S
  run_of s [] = s
  run_of s (c ∷ cs) = run_of (after_by (due s c) s c) cs

  -- The calls of a run that are accepted.
  unfoldable pub accepted_of : S → List C → List C
  accepted_of s [] = []
  accepted_of s (c ∷ cs) = keep (due s c) c (accepted_of (after_by (due s c) s c) cs)
