-- C1. Each contract of an opening or a reset determines the answer, including the state in it, and every element of the
-- ring. Assumes nothing.
use contract.Lifetimes.{Lfts}
use Rattle.variable_delay.proofs.open.Reads as plain-open
use Rattle.variable_delay.proofs.reset.Reads as plain-reset
use Rattle.variable_delay_f32.proofs.open.Reads as open-f32
use Rattle.variable_delay_f32.proofs.reset.Reads as reset-f32
use Rattle.quality_variable_delay.proofs.open.Reads as quality-open
use Rattle.quality_variable_delay.proofs.open_returning.Reads as quality-open-returning
use Rattle.quality_variable_delay.proofs.reset.Reads as quality-reset
use Rattle.determined.specs.Determined.{Determined}
use Rattle.determined.proofs.ByEquations.{agree}

module _ (κs : Lfts 1) where
  pub opened : Determined (plain-open.Learnt κs) (λ e. e.1.1.0.now)
  opened f g p q a = agree _ _ (p a) (q a)

  pub renewed : Determined (plain-reset.Learnt κs) (λ e. e.1.0.now)
  renewed f g p q a = agree _ _ (p a) (q a)

  pub opened-f32 : Determined (open-f32.Learnt κs) (λ e. e.1.1.0.now)
  opened-f32 f g p q a = agree _ _ (p a) (q a)

  pub renewed-f32 : Determined (reset-f32.Learnt κs) (λ e. e.1.0.now)
  renewed-f32 f g p q a = agree _ _ (p a) (q a)

  pub quality-opened : Determined (quality-open.Learnt κs) (λ e. e.1.1.1.1.0.now)
  quality-opened f g p q a = agree _ _ (p a) (q a)

  pub quality-opened-returning : Determined (quality-open-returning.Learnt κs) (λ e. e.1.1.1.1.0.now)
  quality-opened-returning f g p q a = agree _ _ (p a) (q a)

  pub quality-renewed : Determined (quality-reset.Learnt κs) (λ e. e.1.0.now)
  quality-renewed f g p q a = agree _ _ (p a) (q a)
