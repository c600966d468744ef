-- The phases of a call, from the contracts of the calls within them: what the upsampler gives, one phase, none, and one
-- more. Assumes nothing.
use Rattle.std.proofs.Common.{◌≡◌, ℕ, zero, suc, ◌+◌, ◌*◌, ◌<◌, ◌≤◌, List, sym, refl, ap, ◌∙◌, add-one, arith}
use lib.Ieee.{Float, binary64, mul, div}
use Rattle.variable_delay.specs.Reader.{processed}
use Rattle.high_delay.specs.Between.{num, delay_at, high_delay}
use Rattle.constants.specs.Numbers.{zero-f}
use Rattle.fir_filter.specs.Filters.{pushed, output_of}
use Rattle.fir_filter.specs.Pairs.{two_of, four_of}
use Rattle.fir_filter.specs.declared.Two.{Two}
use Rattle.fir_filter.specs.declared.Four.{Four}
use Rattle.inner_reader.specs.declared.Stepped.{Stepped}
use Rattle.inner_reader.specs.Inner.{stepped_of, ring_stepped}
use Rattle.oversampled_delay.specs.Upsampled.{of_phase, Upsampled}
use Rattle.oversampled_delay.specs.Phases.{Turn, High, inner_of, high_of, delay_of, phase_of, phases_of}

-- What the upsampler gives at once, phase by phase.
module _ {cs up : List Float} {pushes factor : ℕ} where
  pub two-phases : {two : Two} → factor ≡ 2
      → two ≡ two_of (output_of cs up pushes 2 0) (output_of cs up pushes 2 1)
      → Upsampled cs up pushes factor (four_of two.first two.second zero-f zero-f)
  two-phases {two} f e = record { each = each }
    where
      each : (k : ℕ) → k < factor → factor ≤ 4
          → of_phase (four_of two.first two.second zero-f zero-f) k ≡ output_of cs up pushes factor k
      each zero l m = rw (e, f)
      each (suc zero) l m = rw (e, f)
      each (suc (suc k)) l m = absurd (omega arith)

  pub four-phases : {four : Four}
      → four
      ≡ four_of (output_of cs up pushes factor 0) (output_of cs up pushes factor 1) (output_of cs up pushes factor 2)
      (output_of cs up pushes factor 3)
      → Upsampled cs up pushes factor four
  four-phases {four} e = record { each = each }
    where
      each : (k : ℕ) → k < factor → factor ≤ 4 → of_phase four k ≡ output_of cs up pushes factor k
      each zero l m = rw e
      each (suc zero) l m = rw e
      each (suc (suc zero)) l m = rw e
      each (suc (suc (suc zero))) l m = rw e
      each (suc (suc (suc (suc k)))) l m = absurd (omega arith)

-- The delay of a phase, from the factor as a number.
pub delay-is : (from delay : Float) (next factor : ℕ) {rate y : Float} → rate ≡ num factor
    → y ≡ mul binary64 (delay_at from delay (div binary64 (num next) rate)) rate → y ≡ high_delay from delay next factor
unfolding high_delay
delay-is from delay next factor e g = rw (g, e)

-- One phase: o is what the upsampler gave, y the delay, s what the inner reader gave.
module _ (t : Turn) (k : ℕ) (h : High) {o rate y : Float} {s : Stepped} {down ring : List Float}
    (raised : o ≡ output_of t.coefficients t.up (t.state.accepted + 1) t.state.factor k)
    (rated : rate ≡ num t.state.factor)
    (delayed : y ≡ delay_of t k)
    (stepped : s
    ≡ stepped_of (processed t.read (inner_of t.state h.inner) h.ring (mul binary64 o rate) y))
    (stored : ring ≡ ring_stepped (inner_of t.state h.inner) h.ring (mul binary64 o rate) y)
    (put : down ≡ pushed h.down (t.state.factor * t.state.accepted + k) s.sample) where
  pub one-phase : (s.accepted ≡ (phase_of t k h).inner)
      × ((down ≡ (phase_of t k h).down) × (ring ≡ (phase_of t k h).ring))
  unfolding phase_of
  one-phase = (
    rw (stepped, raised, rated, delayed),
    (rw (put, stepped, raised, rated, delayed), rw (stored, raised, rated, delayed)),
  )

module _ (t : Turn) (h : High) where
  pub no-phase : h ≡ phases_of t h 0
  unfolding phases_of
  no-phase = refl

  pub one_more : (k : ℕ) {g : High} → g ≡ phases_of t h k → {inner : ℕ} {down ring : List Float}
      → (inner ≡ (phase_of t k g).inner) × ((down ≡ (phase_of t k g).down) × (ring ≡ (phase_of t k g).ring))
      → high_of inner down ring ≡ phases_of t h (k + 1)
  unfolding phases_of
  one_more k e p = rw (p.0, p.1.0, p.1.1) (ap (phase_of t k) e ∙ ap (phases_of t h) (sym (add-one k)))
