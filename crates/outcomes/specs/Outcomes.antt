-- How a run over a file's frames ended. Definitions only.
use Rattle.std.specs.Prelude.{ℕ, ◌+◌, ◌/◌, ◌%◌, min, Bool, cond, ◌&&◌, eqb}
use Rattle.sizes.specs.Sizes.{most}
use Rattle.outcomes.specs.declared.Outcome.{Outcome}

abbrev pub outcome_of : ℕ → ℕ → ℕ → ℕ → Outcome
outcome_of io number frame channel = record { io = io; number = number; frame = frame; channel = channel }

-- The samples of two channels alternate: the first channel's stand at even places, the second's at odd ones.
unfoldable pub side_of : ℕ → ℕ
side_of at = cond (eqb (at % 2) 0) 1 2

unfoldable pub misfit_at : ℕ → ℕ → ℕ → Outcome
misfit_at channels done at =
    cond (eqb channels 2) (outcome_of 0 15 (min (done + at / 2) most) (side_of at))
    (outcome_of 0 15 (min (done + at) most) 1)

-- A run went well if nothing failed and nothing was refused.
abbrev pub is_well : Outcome → Bool
is_well o = eqb o.io 0 && eqb o.number 0
