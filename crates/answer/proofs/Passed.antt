-- If there is no refusal, every test has passed. Assumes nothing.
use mathlib.Core.Path.{◌≡◌}
use mathlib.Core.Bool.{Bool, true, false}
use native.Mathlib.Omega.{arith}
use lib.Dec.{T}
use Rattle.answer.specs.Refusals.{lowest_of}

pub record Passed (t1 t2 t3 t4 t5 t6 t7 t8 : Bool) : Type 0 where
  pub p1 : T t1
  pub p2 : T t2
  pub p3 : T t3
  pub p4 : T t4
  pub p5 : T t5
  pub p6 : T t6
  pub p7 : T t7
  pub p8 : T t8

pub passed : (t1 t2 t3 t4 t5 t6 t7 t8 : Bool) → lowest_of t1 t2 t3 t4 t5 t6 t7 t8 ≡ 0 → Passed t1 t2 t3 t4 t5 t6 t7 t8
passed true true true true true true true true h =
    record { p1 = tt; p2 = tt; p3 = tt; p4 = tt; p5 = tt; p6 = tt; p7 = tt; p8 = tt }
passed true true true true true true true false h = absurd (omega arith)
passed true true true true true true false t8 h = absurd (omega arith)
passed true true true true true false t7 t8 h = absurd (omega arith)
passed true true true true false t6 t7 t8 h = absurd (omega arith)
passed true true true false t5 t6 t7 t8 h = absurd (omega arith)
passed true true false t4 t5 t6 t7 t8 h = absurd (omega arith)
passed true false t3 t4 t5 t6 t7 t8 h = absurd (omega arith)
passed false t2 t3 t4 t5 t6 t7 t8 h = absurd (omega arith)
