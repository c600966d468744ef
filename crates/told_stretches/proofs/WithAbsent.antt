-- A stretch with its absent taps, from what the stretch returned and what was counted beside it. Assumes nothing.
use mathlib.Core.Path.{◌≡◌, refl, sym, ap, ◌∙◌}
use mathlib.Core.Bool.{Bool, true, false, true≢false, ◌&&◌}
use mathlib.Core.List.{List}
use Prim.Native.Nat.{ℕ, ◌%◌, ◌≤◌}
use native.Mathlib.Omega.{arith}
use borrow.Author.Tests.{leb-true}
use lib.Dec.{eqb, leb}
use lib.ListN.{length}
use lib.Ieee.{Float}
use Rattle.absent_taps.specs.declared.Absent.{Absent}
use Rattle.lagrange.specs.Kernel as lagrange
use Rattle.sinc_settings.specs.Ranges as sinc
use Rattle.variable_delay.specs.Reader.{Reading}
use Rattle.variable_delay.specs.declared.VariableDelay.{VariableDelay}
use Rattle.stretch.specs.Stretch.{Ran}
use Rattle.stretch.specs.Whole.{whole_of}
use Rattle.stretch_call.specs.Items.{delay_reader, Left, left_by}
use Rattle.stretch_call.specs.Items as plain
use Rattle.stretch_call.specs.declared.StretchAnswer.{StretchAnswer}
use Rattle.stretch_absent.specs.Sums.{sums_of}
use Rattle.stretch_absent.proofs.Wholes.{by-done}
use Rattle.told_stretches.specs.Told.{leaves, told_by, told_of}
use Rattle.told_stretches.specs.Told.{Left as ToldLeft}
use Rattle.told_stretches.specs.declared.ToldStretch.{ToldStretch}

abbrev with-absent : StretchAnswer → Absent → ToldStretch
with-absent a s = record { state = a.state; done = a.done; refusal = a.refusal; absent = s }

-- The same stretch, told.
abbrev told-left : Left → Absent → ToldLeft
told-left l s = leaves (with-absent l.answer s) l.ring l.out

module _ (read : Reading) (own lent : Bool) (n : ℕ) (few : own ≡ true → n ≤ 128) (d : VariableDelay)
    (ring inputs delays out : List Float) where
  abbrev all : Ran VariableDelay
  all = whole_of (delay_reader read own lent) d ring inputs delays (length out)

  pub told : (a : StretchAnswer) (s : Absent) {ring-left out-left : List Float}
      → plain.leaves a ring-left out-left ≡ left_by out all
      → s ≡ sums_of (length ring) d.accepted delays a.done n
      → leaves (with-absent a s) ring-left out-left ≡ told_of read own lent n d ring inputs delays out
  told a s e f =
      ap (λ (l : Left). told-left l s) e
      ∙ ap (told_by out all)
      (f ∙ ap (λ (l : Left). sums_of (length ring) d.accepted delays l.answer.done n) e
      ∙ sym (by-done read own lent d ring inputs delays (length out) n few))

-- No kernel whose taps are in range reads more than 128 of them.
pub lagrange-few : (taps : ℕ) → lagrange.taps_ok taps ≡ true → taps ≤ 128
lagrange-few taps h = by (leb taps 16) (leb 2 taps) refl h
  where
    by : (t u : Bool) → leb taps 16 ≡ t → t && u && eqb (taps % 2) 0 ≡ true → taps ≤ 128
    by true u e h = omega (arith, leb-true taps 16 e)
    by false u e h = absurd (true≢false (sym h))

pub sinc-few : (taps : ℕ) (phases : Bool) → sinc.taps_ok taps && phases ≡ true → taps ≤ 128
sinc-few taps phases h = by (leb 4 taps) (leb taps 128) refl h
  where
    by : (t u : Bool) → leb taps 128 ≡ u → (t && u && eqb (taps % 2) 0) && phases ≡ true → taps ≤ 128
    by true true e h = leb-true taps 128 e
    by true false e h = absurd (true≢false (sym h))
    by false u e h = absurd (true≢false (sym h))
