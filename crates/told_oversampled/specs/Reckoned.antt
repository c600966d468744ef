-- The same sums as the code computes them: from which inner samples were accepted. What is promised stands in
-- Direct.antt and Cascaded.antt, which do not use them. Definitions only.
use Rattle.std.specs.Prelude.{ℕ, zero, suc, ◌+◌, ◌*◌, ◌%◌, ◌^◌, ◌≤◌, Bool, true, false, cond, not, ◌&&◌, List, length}
use Rattle.std.specs.Prelude.{◌==◌, nat_lt, slice_index_or, Float}
use Rattle.std.specs.Float.{nan, binary64}
use Rattle.std.specs.Float.Ieee.{mul}
use Rattle.std.specs.Float.Ieee.Scale.{finite}
use Rattle.constants.specs.Numbers.{zero-f}
use Rattle.absent_taps.specs.declared.Absent.{Absent}
use Rattle.absent_taps.specs.Absent.{none, plus}
use Rattle.told_call.specs.Told.{counted_of}
use Rattle.high_delay.specs.Between.{num, high_delay}
use Rattle.kernels.specs.declared.Kernel.{Kernel}
use Rattle.kernels.specs.Kernels.{taps_of}
use Rattle.cascaded_delay.specs.Reader.{from_of}
use Rattle.cascaded_delay.specs.declared.CascadedOversampledVariableDelay4x.{CascadedOversampledVariableDelay4x}
use Rattle.fir_filter.specs.Filters.{pushed, output_of}
use Rattle.told_oversampled.specs.declared.readings.Accepted.{Accepted}
use Rattle.told_oversampled.specs.declared.readings.Sums.{Sums}

abbrev pub accepted_of : Bool → Bool → Bool → Bool → Accepted
accepted_of a b c d = record { first = a; second = b; third = c; fourth = d }

abbrev pub which_of : Accepted → ℕ → Bool
which_of a zero = a.first
which_of a (suc zero) = a.second
which_of a (suc (suc zero)) = a.third
which_of a (suc (suc (suc k))) = a.fourth

abbrev pub sums_of : ℕ → Absent → Sums
sums_of inner absent = record { inner = inner; absent = absent }

-- One inner sample more. Only an accepted one is read, and raises the inner accepted number.
abbrev pub with_reading : Bool → ℕ → Float → ℕ → Sums → Sums
with_reading false len y n s = s
with_reading true len y n s = sums_of (s.inner + 1) (plus s.absent (counted_of len s.inner (s.inner + 1) y n))

-- The first k inner samples, with the delays ys; `ok` says which of them were accepted.
unfoldable pub reckoned : (ℕ → Bool) → (ℕ → Float) → ℕ → ℕ → ℕ → ℕ → Sums
reckoned ok ys len n inner zero = sums_of inner none
reckoned ok ys len n inner (suc k) = with_reading (ok k) len (ys k) n (reckoned ok ys len n inner k)

-- There is room for one reading more.
pub record Room (s : Sums) : Type 0 where
  pub inner : s.inner ≤ 2 ^ 37
  pub unwritten : s.absent.unwritten ≤ 512
  pub ahead : s.absent.ahead ≤ 512
  pub overwritten : s.absent.overwritten ≤ 512

-- Whether the inner reader accepts what an upsampler gives at a phase.
abbrev pub accepts_at : List Float → List Float → ℕ → ℕ → ℕ → Bool
accepts_at coefficients history pushes factor phase =
    finite (mul binary64 (output_of coefficients history pushes factor phase) (num factor))

abbrev pub phases_accepted : Bool → List Float → List Float → ℕ → ℕ → Accepted
phases_accepted all coefficients up pushes factor =
    let ok = accepts_at coefficients up pushes factor in
    cond all (accepted_of true true true true) (accepted_of (ok 0) (ok 1) (ok 2) (ok 3))

-- What stands where the second half of the next call writes in the second upsampler's history.
abbrev pub saved_of : List Float → ℕ → Float
saved_of up2 accepted =
    cond (nat_lt accepted (2 ^ 34) && not (length up2 == 0)) (slice_index_or up2 ((2 * accepted + 2) % length up2) nan)
    zero-f

-- The same for the cascade: `up2` is the second upsampler's history after the call, `before` what was saved of it.
abbrev pub quarters_accepted : Bool → List Float → List Float → ℕ → Float → Accepted
quarters_accepted all halfband up2 accepted before =
    let early = accepts_at halfband (pushed up2 (2 * accepted + 1) before) (2 * accepted + 1) 2 in
    let late = accepts_at halfband up2 (2 * accepted + 2) 2 in
    cond all (accepted_of true true true true) (accepted_of (early 0) (early 1) (late 0) (late 1))

-- The sums of an accepted call of the cascade, from the state d before it; `inner` is the inner accepted number after
-- it.
abbrev pub reckoned_inside : CascadedOversampledVariableDelay4x → ℕ → Kernel → List Float → List Float → Float → Float
    → ℕ → Absent
reckoned_inside d inner k halfband up2 before y len =
    (reckoned (which_of (quarters_accepted (inner == d.inner + 4) halfband up2 d.accepted before))
    (λ (j : ℕ). high_delay (from_of d y) y (j + 1) 4) len (taps_of k) d.inner 4).absent
