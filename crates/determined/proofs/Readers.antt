-- What the contract of each reader settles. C1: it determines the answer, including the state in it, and every element
-- of the ring. K8: what it leaves is what a run of its calls has, state and ring, whether accepted or refused, with the
-- taps, the table or the bank of the call itself, so that the laws of `runs` and `quality_runs` hold for the readers.
-- `Learnt` is what a caller learns from a call; the toolchain takes it from the function's own clauses, so that a
-- missing clause, or one that leaves something open, makes a proof here fail. Assumes nothing.
use contract.Lifetimes.{Lfts}
use Rattle.cubic_delay.proofs.process_sample.Reads as cubic
use Rattle.lagrange_delay.proofs.process_sample.Reads as lagrange
use Rattle.farrow8_delay.proofs.process_sample.Reads as farrow8
use Rattle.sinc_delay.proofs.process_sample.Reads as sinc
use Rattle.sinc_delay_f32.proofs.process_sample.Reads as sinc-f32
use Rattle.quality_variable_delay.proofs.process_sample.Reads as quality
use Rattle.quality_variable_delay.proofs.process_sample_rate_aware.Reads as rate-aware
use Rattle.runs.specs.Runs.{bare_call, after}
use Rattle.quality_runs.specs.Runs as qualities
use Rattle.determined.specs.Determined.{Determined}
use Rattle.determined.specs.Calls.{lagrange_call, sinc_call, quality_call, Follows}
use Rattle.determined.proofs.ByEquations.{agree}

-- Readers without a table. The arguments are state, ring, input and delay, and for Lagrange the taps.
module _ (κs : Lfts 1) where
  pub cubic-delay : Determined (cubic.Learnt κs) (λ e. e.1.0.now)
  cubic-delay f g p q a = agree _ _ (p a) (q a)

  pub cubic-leaves : Follows after (cubic.Learnt κs)
      (λ a. record { state = a.0; ring = a.1.0.now })
      (λ a. bare_call a.1.1.0 a.1.1.1.0)
      (λ r e. record { state = r.state; ring = e.1.0.now })
  cubic-leaves f p a = λ i. record { state = ((p a).0 i).state; ring = (p a).1 i }

  pub lagrange-delay : Determined (lagrange.Learnt κs) (λ e. e.1.0.now)
  lagrange-delay f g p q a = agree _ _ (p a) (q a)

  pub lagrange-leaves : Follows after (lagrange.Learnt κs)
      (λ a. record { state = a.0; ring = a.1.0.now })
      (λ a. lagrange_call a.1.1.1.1.0 a.1.1.0 a.1.1.1.0)
      (λ r e. record { state = r.state; ring = e.1.0.now })
  lagrange-leaves f p a = λ i. record { state = ((p a).0 i).state; ring = (p a).1 i }

  pub farrow8-delay : Determined (farrow8.Learnt κs) (λ e. e.1.0.now)
  farrow8-delay f g p q a = agree _ _ (p a) (q a)

  pub farrow8-leaves : Follows after (farrow8.Learnt κs)
      (λ a. record { state = a.0; ring = a.1.0.now })
      (λ a. bare_call a.1.1.0 a.1.1.1.0)
      (λ r e. record { state = r.state; ring = e.1.0.now })
  farrow8-leaves f p a = λ i. record { state = ((p a).0 i).state; ring = (p a).1 i }

-- Readers to which a table or a bank is lent beside the ring. The arguments are state, ring, input, delay, table, taps
-- and phases; for the quality reader state, ring, sets, maximum rate, input, delay, quality and, if it is not the
-- maximum, the rate.
module _ (κs : Lfts 2) where
  pub sinc-delay : Determined (sinc.Learnt κs) (λ e. e.1.0.now)
  sinc-delay f g p q a = agree _ _ (p a) (q a)

  pub sinc-leaves : Follows after (sinc.Learnt κs)
      (λ a. record { state = a.0; ring = a.1.0.now })
      (λ a. let t = a.1.1.1.1 in sinc_call t.0.now t.1.0 t.1.1.0 a.1.1.0 a.1.1.1.0)
      (λ r e. record { state = r.state; ring = e.1.0.now })
  sinc-leaves f p a = λ i. record { state = ((p a).0 i).state; ring = (p a).1 i }

  pub sinc-delay-f32 : Determined (sinc-f32.Learnt κs) (λ e. e.1.0.now)
  sinc-delay-f32 f g p q a = agree _ _ (p a) (q a)

  pub sinc-f32-leaves : Follows after (sinc-f32.Learnt κs)
      (λ a. record { state = a.0; ring = a.1.0.now })
      (λ a. let t = a.1.1.1.1 in sinc_call t.0.now t.1.0 t.1.1.0 a.1.1.0 a.1.1.1.0)
      (λ r e. record { state = r.state; ring = e.1.0.now })
  sinc-f32-leaves f p a = λ i. record { state = ((p a).0 i).state; ring = (p a).1 i }

  pub quality-delay : Determined (quality.Learnt κs) (λ e. e.1.0.now)
  quality-delay f g p q a = agree _ _ (p a) (q a)

  pub quality-leaves : Follows qualities.after (quality.Learnt κs)
      (λ a. record { state = a.0; ring = a.1.0.now })
      (λ a.
      let b = a.1.1 in
      let c = b.1.1 in quality_call b.0.now b.1.0 c.0 c.1.0 c.1.1.0 b.1.0)
      (λ r e. record { state = r.state; ring = e.1.0.now })
  quality-leaves f p a = λ i. record { state = ((p a).0 i).state; ring = (p a).1 i }

  pub quality-delay-rate-aware : Determined (rate-aware.Learnt κs) (λ e. e.1.0.now)
  quality-delay-rate-aware f g p q a = agree _ _ (p a) (q a)

  pub rate-aware-leaves : Follows qualities.after (rate-aware.Learnt κs)
      (λ a. record { state = a.0; ring = a.1.0.now })
      (λ a.
      let b = a.1.1 in
      let c = b.1.1 in quality_call b.0.now b.1.0 c.0 c.1.0 c.1.1.0 c.1.1.1.0)
      (λ r e. record { state = r.state; ring = e.1.0.now })
  rate-aware-leaves f p a = λ i. record { state = ((p a).0 i).state; ring = (p a).1 i }
