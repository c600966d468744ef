-- `sinc_row::sinc` meets its contract: the argument of the sine is in its range, so its answer is a value. Assumes
-- nothing.
use Rattle.std.specs.Prelude.{Ok, Err}
use Rattle.refusal.specs.declared.Refusal.{Refusal}
use mathlib.Core.Path.{◌≡◌, refl, sym, ◌∙◌, ap}
use mathlib.Core.Bool.{Bool, true, false, cond}
use Prim.Native.Nat.{ℕ}
use native.Mathlib.Omega.{arith}
use lib.Ieee.{Float, binary64, mul, div, of_bits}
use Rattle.magnitude.specs.Bounds.{AtMost}
use Rattle.elementary.specs.Answers.{sine_at, sine_of}
use Rattle.sinc_settings.specs.Ranges.{one-f}
use Rattle.sinc_row.specs.Coefficient.{small_of, pi, sinc_of}
use Rattle.sinc_row.proofs.Distance.{in-range}
use Rattle.sinc_row.proofs.sinc.Goals as goal

-- The answer is a value, that of the sine.
answers : (x : Float) → AtMost 65 x → sine_of (mul binary64 pi x) ≡ Ok (sine_at (mul binary64 pi x))
unfolding sine_of
answers x h = rw (in-range x h)

same : (x v : Float) → AtMost 65 x → sine_of (mul binary64 pi x) ≡ Ok v → v ≡ sine_at (mul binary64 pi x)
same x v h e = let a = answers x h in cc

never : (x : Float) (r : Refusal) → AtMost 65 x → sine_of (mul binary64 pi x) ≡ Err r → {A : Type 0} → A
never x r h e = let a = answers x h in let z : ◌≡◌ {A = ℕ} 0 1 = cc in absurd (omega arith)

picked : (x r : Float) (b : Bool) → small_of x ≡ b
    → r ≡ cond b one-f (div binary64 (sine_at (mul binary64 pi x)) (mul binary64 pi x)) → r ≡ sinc_of x
unfolding sinc_of
picked x r b h e = e ∙ rw h

pub returns-then-small : goal.returns-then-small
unfolding of_bits
returns-then-small c = picked c.args.x _ true (sym c.small.ensures ∙ c.if-small.true) refl

pub returns-in-Ok : goal.returns-in-Ok
unfolding of_bits
returns-in-Ok c =
    let x = c.args.x in
    picked x _ false (sym c.small.ensures ∙ c.if-small.false)
    (ap (λ (v : Float). div binary64 v (mul binary64 pi x))
    (same x _ c.requires (sym c.sine.ensures.value ∙ c.in-Ok.is)))

pub returns-in-Err : goal.returns-in-Err
unfolding of_bits
returns-in-Err c =
    never c.args.x _ c.requires
    (sym c.sine.ensures.value ∙ c.in-Err.is)
