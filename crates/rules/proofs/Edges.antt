-- N5, N7, N8. At the ends of the ranges: a delay of -0.0 is accepted as 0.0 is, an infinite playback rate is accepted
-- and clamped to an end of the bank's rates, and a state with 2^36 accepted samples is valid and full. Assumes nothing.
use mathlib.Core.Path.{◌≡◌, refl, sym}
use mathlib.Core.Bool.{Bool, true, false, true≢false, ◌&&◌}
use Prim.Native.Nat.{ℕ, ◌^◌}
use lib.Dec.{eqb}
use lib.IntN.{pos}
use lib.Ieee.{Float, nan, inf, fin, le, lt, is_nan}
use lib.Ieee.Bits.{is_true}
use lib.Ieee.Scale.{finite}
use Rattle.answer.specs.Refusals.{lowest_of}
use Rattle.answer.proofs.Passed.{passed}
use Rattle.ring.specs.Length.{settings_ok, length_for}
use Rattle.min_max.specs.Choice.{clamped}
use Rattle.sinc_settings.specs.Ranges.{one-f}
use Rattle.bank_choice.specs.Rates.{bank_ok}
use Rattle.variable_delay.specs.Reader.{verdict}
use Rattle.variable_delay.specs.Opening.{fresh, reset_verdict}
use Rattle.variable_delay.specs.declared.VariableDelay.{VariableDelay}
use Rattle.quality_variable_delay.specs.Reader as quality
use Rattle.quality_variable_delay.specs.declared.QualityVariableDelayF32.{QualityVariableDelayF32}

-- N5. A delay of -0.0 counts as 0.0.
pub minus-zero : (own lent : Bool) (d : VariableDelay) (len : ℕ) (x : Float)
    → verdict own lent d len x (fin true 0 (pos 0)) ≡ verdict own lent d len x (fin false 0 (pos 0))
unfolding le
minus-zero own lent d len x = refl

-- N7. This holds for every quality and for either infinity.
pub infinite-accepted : (bank lent : Bool) (d : QualityVariableDelayF32) (len : ℕ) (x y : Float) (s : Bool)
    → quality.verdict bank lent d len x y (inf s) ≡ quality.verdict bank lent d len x y one-f
unfolding is_nan
infinite-accepted bank lent d len x y s = refl

pub rate-above : (top : Float) → bank_ok top ≡ true → clamped (inf false) one-f top ≡ top
unfolding clamped le lt
rate-above nan h = absurd (true≢false (sym h))
rate-above (inf false) h = absurd (true≢false (sym h))
rate-above (inf true) h = absurd (true≢false (sym h))
rate-above (fin s m e) h = refl

pub rate-below : (top : Float) → clamped (inf true) one-f top ≡ one-f
unfolding clamped lt
rate-below top = refl

-- N8. A full state.
abbrev full : ℕ → ℕ → VariableDelay
full maximum margin = record { maximum = maximum; margin = margin; accepted = 2 ^ 36 }

pub full-valid : (maximum margin len : ℕ)
    → reset_verdict (full maximum margin) len ≡ reset_verdict (fresh maximum margin) len
full-valid maximum margin len = refl

-- All tests passed, and then only the last one fails.
eighth : (t1 t2 t3 t4 t5 t6 t7 t8 : Bool) → lowest_of t1 t2 t3 t4 t5 t6 t7 t8 ≡ 0
    → lowest_of t1 t2 t3 t4 t5 t6 t7 false ≡ 8
eighth t1 t2 t3 t4 t5 t6 t7 t8 e =
    let p = passed t1 t2 t3 t4 t5 t6 t7 t8 e in
    rw (
      is_true t1 p.p1,
      is_true t2 p.p2,
      is_true t3 p.p3,
      is_true t4 p.p4,
      is_true t5 p.p5,
      is_true t6 p.p6,
      is_true t7 p.p7,
    )

-- What was accepted before is refused by 8 when the state is full.
pub full_refuses : (own lent : Bool) (maximum margin len : ℕ) (x y : Float)
    → verdict own lent (fresh maximum margin) len x y ≡ 0 → verdict own lent (full maximum margin) len x y ≡ 8
full_refuses own lent maximum margin len x y e =
    eighth (settings_ok maximum margin && own) (eqb len (length_for maximum margin) && lent) true (finite x)
    (finite y && le (fin false 0 (pos 0)) y) (le y (fin false 1 (pos 36))) true true e
