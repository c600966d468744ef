-- `fir_filter::sums::lags` meets its contract: the last lag with a coefficient is a quotient. Assumes nothing.
use Prim.Native.Nat.{ℕ, ◌+◌, ◌-◌, ◌*◌, ◌/◌, ◌≤◌, ◌<◌}
use native.Mathlib.Nat.{div-add-mod', mod-lt, mul-le-mul_right, add-mul, one-mul, mul-zero}
use native.Mathlib.Omega.{arith}
use Rattle.fir_filter.specs.Runs.{Lags}
use Rattle.fir_filter.proofs.sums.lags.Goals as goal

-- No lag has a coefficient; every lag has the same one.
none : (taps len step phase : ℕ) → taps ≤ phase → Lags taps len step phase 0
none taps len step phase h =
    record { most = omega arith; inside = λ j l. omega arith; beyond = λ j l k. omega arith }

all : (taps len phase : ℕ) → phase < taps → Lags taps len 0 phase len
all taps len phase h =
    record { most = omega arith; inside = λ j l. omega (arith, mul-zero j); beyond = λ j l k. omega arith }

-- q is the last lag with a coefficient.
module _ (taps len step phase : ℕ) (P : 0 < step) (h : phase < taps) where
  abbrev q : ℕ
  q = (taps - 1 - phase) / step

  within : (j : ℕ) → j ≤ q → j * step + phase < taps
  within j l = omega (arith, div-add-mod' (taps - 1 - phase) step, mul-le-mul_right step l)

  past : (j : ℕ) → q + 1 ≤ j → taps ≤ j * step + phase
  past j l =
      omega (
        arith,
        div-add-mod' (taps - 1 - phase) step,
        mod-lt (taps - 1 - phase) P,
        mul-le-mul_right step l,
        add-mul q 1 step,
        one-mul step,
      )

  up-to : q < len → Lags taps len step phase (q + 1)
  up-to l = record { most = omega arith; inside = λ j k. within j (omega arith); beyond = λ j k m. past j k }

  every : len ≤ q → Lags taps len step phase len
  every l = record { most = omega arith; inside = λ j k. within j (omega arith); beyond = λ j k m. omega arith }

pub returns-then-phase-taps : goal.returns-then-phase-taps
returns-then-phase-taps c = none _ _ _ _ c.if-phase-taps.true

pub returns-then-step-eq0 : goal.returns-then-step-eq0
returns-then-step-eq0 c = rw c.if-step-eq0.true (all _ _ _ c.if-phase-taps.false)

pub returns-then-last-len : goal.returns-then-last-len
returns-then-last-len c =
    rw c.quotient-last.ensures
    (up-to _ _ _ _ (omega arith) c.if-phase-taps.false (omega (arith, c.quotient-last.ensures, c.if-last-len.true)))

pub returns-else-last-len : goal.returns-else-last-len
returns-else-last-len c =
    every _ _ _ _ (omega arith) c.if-phase-taps.false (omega (arith, c.quotient-last.ensures, c.if-last-len.false))
