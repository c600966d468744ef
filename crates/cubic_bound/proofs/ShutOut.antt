-- C2, D3. Demand 3 alone refuses a reader that always gives the same answer, whatever it is, one that reads a sample
-- late, one with two weights exchanged, and one with a sixth rounded to an f32. Each fails at the first call on a ring
-- of 8. Assumes nothing.
use mathlib.Core.Path.{◌≡◌, refl, subst}
use mathlib.Core.Bool.{false, not}
use mathlib.Core.List.{[]}
use Prim.Native.Nat.{ℕ, ◌^◌, ◌≤◌}
use native.Mathlib.Omega.{arith}
use lib.Dec.{T, T_not, leb, le→leb, lit≤, lit<}
use lib.IntN.{ℤ, pos, negsuc}
use lib.Ieee.{Float, fin, add, sub, mul, div, neg, of_int, le, size}
use Rattle.answer.specs.declared.Answer.{Answer}
use Rattle.answer.specs.declared.Answer.TheVariants.{Sample}
use Rattle.rounding_error.specs.Value.{Rounds}
use Rattle.rounding_error.proofs.Within.{chain, flip}
use Rattle.ring.specs.Length.{length_for, zeros}
use Rattle.integer_part.specs.Parts.{floor_of, fraction_of}
use Rattle.cubic_farrow.specs.Cubic.{cubic_at}
use Rattle.variable_delay.specs.Reader.{Reading, stored, position_of}
use Rattle.runs.specs.Calls.{run_of, accepted_of}
use Rattle.runs.specs.Runs.{Call, bare_call}
use Rattle.runs.specs.Filled.{stored_from}
use Rattle.cubic_bound.specs.Desk.{WholeSample, WholeDelay, none, exact_at}
use Rattle.cubic_bound.specs.Demand.{Desk, Meets, start}
use Rattle.cubic_bound.specs.Readers.{constant, late, exchanged, rounded_sixth}
use Rattle.cubic_bound.proofs.Demand.{answered}

same-sample : {a : Answer} {v w : Float} → a ≡ Sample v → a ≡ Sample w → v ≡ w
same-sample p q = cc

-- What a reader that meets Demand 3 answers to a first call.
first : (read : Reading) → Meets read → {x y : Float} {s : ℤ} {d : ℕ} → WholeSample x s → WholeDelay y d
    → Rounds (2 ^ 50) 1 (read (stored 0 (zeros 8) x) 1 (position_of 0 y)) (exact_at 8 [] s d)
unfolding run_of accepted_of length_for size stored_from
first read meets {x} {y} {s} {d} w v =
    let c : Call = bare_call x y in
    let desk : Desk 0 0 [] c [] s d =
    record { settings = lit≤ tt; earlier = none; fewer = lit< tt; input = w; delay = v } in
    let close = (meets (start 0 0) c).close 0 0 [] [] s d desk refl in
    subst (λ (v : Float). Rounds (2 ^ 50) 1 v (exact_at 8 [] s d)) (same-sample close.given (answered desk read))
    close.near

-- The samples 0 and 1, and the delays 0 and 1.5.
silence : WholeSample (fin false 0 (pos 0)) (pos 0)
silence = record { is = record { real = tt; same = omega arith }; small = lit≤ tt }

full : WholeSample (fin false 1 (pos 0)) (pos (2 ^ 23))
full = record { is = record { real = tt; same = omega arith }; small = lit≤ tt }

no-delay : WholeDelay (fin false 0 (pos 0)) 0
no-delay = record { is = record { real = tt; same = omega arith }; small = lit≤ tt }

delayed : WholeDelay (fin false 3 (negsuc 0)) 98304
delayed = record { is = record { real = tt; same = omega arith }; small = lit≤ tt }

far : {a b : ℕ} → T (not (leb a b)) → a ≤ b → ⊥
far {a} {b} t h = T_not (leb a b) t (le→leb a b h)

-- 0 and 1 are further apart than two bounds.
pub not-constant : (k : Float) → Meets (constant k) → ⊥
not-constant k m =
    far tt (chain (flip (first (constant k) m silence no-delay).near)
    (first (constant k) m full no-delay).near).below

-- It answers 0 where 1 is right.
pub not_late : Meets late → ⊥
unfolding cubic_at floor_of fraction_of le add sub mul div neg of_int
not_late m = far tt (first late m full no-delay).near.below

pub not-exchanged : Meets exchanged → ⊥
unfolding cubic_at floor_of fraction_of le add sub mul div neg of_int
not-exchanged m = far tt (first exchanged m full no-delay).near.below

-- It answers -0.375 times the rounded sixth where -0.0625 is right.
pub not-sixth : Meets rounded_sixth → ⊥
unfolding cubic_at floor_of fraction_of le add sub mul div neg of_int
not-sixth m = far tt (first rounded_sixth m full delayed).near.below
