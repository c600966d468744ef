-- W4j. The room's test stands beside the reader's own test of its fields: it changes nothing in a room in range, and
-- otherwise gives 3 unless 1 or 2 is due. Assumes nothing.
use Rattle.std.proofs.Common.{◌≡◌, ℕ, zero, suc, Bool, true, false, ◌&&◌, refl, arith}
use Rattle.answer.specs.Refusals.{lowest_of}
use Rattle.desk_delay.specs.Inner.{out_of_range}

pub in-range : (t1 t2 t3 t4 t5 t6 t7 t8 : Bool)
    → lowest_of t1 t2 t3 t4 t5 t6 t7 t8 ≡ lowest_of t1 t2 (t3 && true) t4 t5 t6 t7 t8
in-range t1 t2 true t4 t5 t6 t7 t8 = refl
in-range t1 t2 false t4 t5 t6 t7 t8 = refl

-- Of the later tests any may fail first.
later : (t4 t5 t6 t7 t8 : Bool) → out_of_range (lowest_of true true true t4 t5 t6 t7 t8) ≡ 3
later true true true true true = refl
later true true true true false = refl
later true true true false t8 = refl
later true true false t7 t8 = refl
later true false t6 t7 t8 = refl
later false t5 t6 t7 t8 = refl

pub out_of_range-number : (t1 t2 t3 t4 t5 t6 t7 t8 : Bool)
    → out_of_range (lowest_of t1 t2 t3 t4 t5 t6 t7 t8) ≡ lowest_of t1 t2 (t3 && false) t4 t5 t6 t7 t8
out_of_range-number true true true t4 t5 t6 t7 t8 = later t4 t5 t6 t7 t8
out_of_range-number true true false t4 t5 t6 t7 t8 = refl
out_of_range-number true false true t4 t5 t6 t7 t8 = refl
out_of_range-number true false false t4 t5 t6 t7 t8 = refl
out_of_range-number false t2 true t4 t5 t6 t7 t8 = refl
out_of_range-number false t2 false t4 t5 t6 t7 t8 = refl

pub gives-way : (v : ℕ) → (v ≡ 1 → ⊥) → (v ≡ 2 → ⊥) → 3 ≡ out_of_range v
gives-way zero h k = refl
gives-way (suc zero) h k = absurd (h refl)
gives-way (suc (suc zero)) h k = absurd (k refl)
gives-way (suc (suc (suc v))) h k = refl

-- A room out of range is always refused.
pub some_number : (v : ℕ) → out_of_range v ≡ 0 → ⊥
some_number zero h = omega arith
some_number (suc zero) h = omega arith
some_number (suc (suc zero)) h = omega arith
some_number (suc (suc (suc k))) h = omega arith
