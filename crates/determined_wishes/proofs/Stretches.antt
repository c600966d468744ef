-- C1, W3. The contract of each whole stretch determines its answer, which has the state and, where they are told, the
-- absent taps in it, and every element of the ring and of the output. Assumes nothing.
use mathlib.Core.Path.{◌≡◌, sym, ◌∙◌, ap}
use mathlib.Core.List.{List}
use lib.Ieee.{Float}
use contract.Lifetimes.{Lfts}
use Rattle.stretch_call.specs.Items as plain
use Rattle.told_stretches.specs.Told as told
use Rattle.quality_stretch.specs.Reader as quality
use Rattle.told_quality_stretch.specs.Told as told-quality
use Rattle.cubic_stretch.proofs.process_stretch.Reads as cubic
use Rattle.lagrange_stretch.proofs.process_stretch.Reads as lagrange
use Rattle.farrow8_stretch.proofs.process_stretch.Reads as farrow8
use Rattle.sinc_stretch.proofs.process_stretch.Reads as sinc
use Rattle.sinc_stretch_f32.proofs.process_stretch.Reads as sinc-f32
use Rattle.quality_stretch.proofs.process_stretch.Reads as quality-stretch
use Rattle.told_stretches.proofs.cubic_told.Reads as cubic-told
use Rattle.told_stretches.proofs.lagrange_told.Reads as lagrange-told
use Rattle.told_stretches.proofs.farrow8_told.Reads as farrow8-told
use Rattle.told_stretches.proofs.sinc_told.Reads as sinc-told
use Rattle.told_stretch_f32.proofs.sinc_told.Reads as sinc-f32-told
use Rattle.told_quality_stretch.proofs.process_stretch_told.Reads as quality-told
use Rattle.determined.specs.Determined.{Determined}

-- The ring and the output.
abbrev two : List Float → List Float → List Float × List Float
two ring out = (ring, out)

-- Two calls that leave the same record leave the same of each of its fields.
module _ {L R : Type 0} (answer : L → R) (ring out : L → List Float) where
  agree : (left : L) {l m : L} → l ≡ left → m ≡ left
      → (answer l ≡ answer m) × (two (ring l) (out l) ≡ two (ring m) (out m))
  agree left p q = (ap answer (p ∙ sym q), ap (λ l. two (ring l) (out l)) (p ∙ sym q))

delay-agree : (left : plain.Left) {l m : plain.Left} → l ≡ left → m ≡ left
    → (l.answer ≡ m.answer) × (two l.ring l.out ≡ two m.ring m.out)
delay-agree = agree (λ l. l.answer) (λ l. l.ring) (λ l. l.out)

told-agree : (left : told.Left) {l m : told.Left} → l ≡ left → m ≡ left
    → (l.answer ≡ m.answer) × (two l.ring l.out ≡ two m.ring m.out)
told-agree = agree (λ l. l.answer) (λ l. l.ring) (λ l. l.out)

-- The arguments are state, ring, inputs, delays, output, and for Lagrange the taps.
module _ (κs : Lfts 4) where
  pub cubic-determined : Determined (cubic.Learnt κs) (λ e. two e.1.0.now e.1.1.1.1.0.now)
  cubic-determined f g p q a = delay-agree _ (p a) (q a)

  pub lagrange-determined : Determined (lagrange.Learnt κs) (λ e. two e.1.0.now e.1.1.1.1.0.now)
  lagrange-determined f g p q a = delay-agree _ (p a) (q a)

  pub farrow8-determined : Determined (farrow8.Learnt κs) (λ e. two e.1.0.now e.1.1.1.1.0.now)
  farrow8-determined f g p q a = delay-agree _ (p a) (q a)

  pub cubic-told-determined : Determined (cubic-told.Learnt κs) (λ e. two e.1.0.now e.1.1.1.1.0.now)
  cubic-told-determined f g p q a = told-agree _ (p a) (q a)

  pub lagrange-told-determined : Determined (lagrange-told.Learnt κs)
      (λ e. two e.1.0.now e.1.1.1.1.0.now)
  lagrange-told-determined f g p q a = told-agree _ (p a) (q a)

  pub farrow8-told-determined : Determined (farrow8-told.Learnt κs)
      (λ e. two e.1.0.now e.1.1.1.1.0.now)
  farrow8-told-determined f g p q a = told-agree _ (p a) (q a)

-- The same and a table, its taps and its phases.
module _ (κs : Lfts 5) where
  pub sinc-determined : Determined (sinc.Learnt κs) (λ e. two e.1.0.now e.1.1.1.1.0.now)
  sinc-determined f g p q a = delay-agree _ (p a) (q a)

  pub sinc-told-determined : Determined (sinc-told.Learnt κs) (λ e. two e.1.0.now e.1.1.1.1.0.now)
  sinc-told-determined f g p q a = told-agree _ (p a) (q a)

-- Over f32 samples; for the quality reader state, ring, sets, maximum rate, inputs, delays, quality, rate and output.
module _ (κs : Lfts 3) where
  pub sinc-f32-determined : Determined (sinc-f32.Learnt κs) (λ e. two e.1.0.now e.1.1.1.1.0.now)
  sinc-f32-determined f g p q a = delay-agree _ (p a) (q a)

  pub sinc-f32-told-determined : Determined (sinc-f32-told.Learnt κs)
      (λ e. two e.1.0.now e.1.1.1.1.0.now)
  sinc-f32-told-determined f g p q a = told-agree _ (p a) (q a)

  pub quality-determined : Determined (quality-stretch.Learnt κs)
      (λ e. two e.1.0.now e.1.1.1.1.1.1.1.1.0.now)
  quality-determined f g p q a =
      agree (λ (l : quality.Left). l.answer) (λ (l : quality.Left). l.ring) (λ (l : quality.Left). l.out) _ (p a)
      (q a)

  pub quality-told-determined : Determined (quality-told.Learnt κs)
      (λ e. two e.1.0.now e.1.1.1.1.1.1.1.1.0.now)
  quality-told-determined f g p q a =
      agree (λ (l : told-quality.Left). l.answer) (λ (l : told-quality.Left). l.ring)
      (λ (l : told-quality.Left). l.out) _ (p a) (q a)
