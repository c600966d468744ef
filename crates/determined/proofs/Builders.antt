-- C1. The contract of each table builder determines the answer, including the settings in it, and every element of the
-- table, the set or the bank. Assumes nothing.
use contract.Lifetimes.{Lfts}
use Rattle.windowed_sinc.proofs.new.Reads as new
use Rattle.windowed_sinc.proofs.for_max_rate.Reads as for-rate
use Rattle.windowed_sinc_f32.proofs.new.Reads as new-f32
use Rattle.windowed_sinc_f32.proofs.for_max_rate.Reads as for-rate-f32
use Rattle.sinc_bank_f32.proofs.build_set.Reads as build-set
use Rattle.sinc_bank_f32.proofs.build.Reads as build
use Rattle.determined.specs.Determined.{Determined}
use Rattle.determined.proofs.ByEquations.{agree}

module _ (κs : Lfts 1) where
  pub windowed-sinc : Determined (new.Learnt κs) (λ e. e.1.0.now)
  windowed-sinc f g p q a = agree _ _ (p a) (q a)

  pub windowed-sinc-for-rate : Determined (for-rate.Learnt κs) (λ e. e.1.1.1.1.1.0.now)
  windowed-sinc-for-rate f g p q a = agree _ _ (p a) (q a)

  pub windowed-sinc-f32 : Determined (new-f32.Learnt κs) (λ e. e.1.0.now)
  windowed-sinc-f32 f g p q a = agree _ _ (p a) (q a)

  pub windowed-sinc-f32-for-rate : Determined (for-rate-f32.Learnt κs) (λ e. e.1.1.1.1.1.0.now)
  windowed-sinc-f32-for-rate f g p q a = agree _ _ (p a) (q a)

  pub bank-set : Determined (build-set.Learnt κs) (λ e. e.1.0.now)
  bank-set f g p q a = agree _ _ (p a) (q a)

  pub bank : Determined (build.Learnt κs) (λ e. e.1.0.now)
  bank f g p q a = agree _ _ (p a) (q a)
