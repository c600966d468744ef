-- W11d. Inside an accepted call nothing but 4 can be due: at every phase the inner reader refuses its sample exactly if
-- that is not finite, and then by 4. The direct reader's own laws say so; here it is said of a call. Assumes nothing.
use mathlib.Core.Path.{◌≡◌, refl}
use mathlib.Core.Bool.{true, cond}
use Prim.Native.Nat.{ℕ, ◌+◌, ◌≤◌, ◌<◌}
use lib.Dec.{T}
use lib.ListN.{length}
use lib.Ieee.{Float, binary64, fits}
use lib.Ieee.Scale.{finite}
use Rattle.kernels.specs.declared.Kernel.{Kernel}
use Rattle.kernels.specs.Kernels.{read_by}
use Rattle.fir_filter.specs.Filters.{pushed}
use Rattle.variable_delay.specs.Reader.{verdict}
use Rattle.oversampled_delay.specs.Phases.{Turn, High, inner_of, turn_of, high_of, raised_of, delay_of, phases_of}
use Rattle.oversampled_delay.specs.Reader.{Lent, lengths_of, due_of, from_of}
use Rattle.oversampled_delay.specs.declared.OversampledVariableDelay.{OversampledVariableDelay}
use Rattle.oversampled_delay.proofs.Inner as direct
use Rattle.oversampled_delay.proofs.Inner.{only-four-inside}
use Rattle.oversampled_delay.proofs.OneCall.{ready, tested}

-- After n phases: at most n inner samples more, and a ring of the same length.
pub phases-inner : (t : Turn) (h : High) (n : ℕ) → (phases_of t h n).inner ≤ h.inner + n
phases-inner = direct.phases-inner

pub phases-ring : (t : Turn) (h : High) (n : ℕ) → length (phases_of t h n).ring ≡ length h.ring
phases-ring = direct.phases-ring

module _ (k : Kernel) (d : OversampledVariableDelay) (l : Lent) (x y : Float)
    (none : due_of k d (lengths_of l) x y ≡ 0) where
  abbrev pub turn : Turn
  turn = turn_of (read_by k l.table) d l.coefficients (pushed l.up d.accepted x) (from_of d y) y

  abbrev pub start : High
  start = high_of d.inner l.down l.ring

  -- The delay before the first phase is a number of the format, as every f64 is.
  module _ (f : T (fits binary64 (from_of d y))) (n : ℕ) (h : n < d.factor) where
    pub inside : let g = phases_of turn start n in
        verdict true true (inner_of d g.inner) (length g.ring) (raised_of turn n) (delay_of turn n)
        ≡ cond (finite (raised_of turn n)) 0 4
    inside =
        (only-four-inside turn start (ready k d l x y refl none) (tested k d l x y refl none refl) f refl n h refl
        ).due (raised_of turn n)
