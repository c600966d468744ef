-- A block of differences counted at once: the three sums of products of parts make the sum of the squares, and if no
-- difference is above the largest so far, only the number and the sum change. By induction over the differences.
-- Assumes nothing.
use Rattle.std.proofs.Common.{◌≡◌, ℕ, suc, ◌+◌, ◌*◌, ◌/◌, ◌%◌, ◌^◌, ◌<◌, ◌≤◌, Bool, true, ◌&&◌, leb, List, [], ◌∷◌}
use Rattle.std.proofs.Common.{length, sym, refl, ap, ◌∙◌, subst, mul_assoc, mul_comm, add-mul, mul-le-mul, zero-add}
use Rattle.std.proofs.Common.{mul-add, mul_left_comm, arith, le-ltb, leb-true}
use mathlib.Core.List.{foldl}
use Rattle.residual.specs.declared.tally.Tally.{Tally}
use Rattle.residual.specs.declared.parts.Parts.{Parts}
use Rattle.residual.specs.Report.{squares}
use Rattle.residual.specs.Tallies.{tallied, step_of}
use Rattle.residual.specs.Blocks.{high_part, low_part, no_parts, part_of, sum_of_parts, Space, none_above, added_to}
use Rattle.report_tests.proofs.BothTests.{left-true, right-true, and-true, and_assoc}
use Rattle.residual.proofs.Stretches.{Small, none, more}

ruleset ring = (mul-add, add-mul, mul_assoc, mul_comm, mul_left_comm)

-- ---- a square by its parts
square-of : (h l : ℕ) → (h * 4096 + l) * (h * 4096 + l) ≡ h * h * 2 ^ 24 + h * l * 2 ^ 13 + l * l
square-of h l = simp ring (omega arith)

square-parts : (d : ℕ) → d < 2 ^ 24
    → d * d ≡ high_part d * high_part d * 2 ^ 24 + high_part d * low_part d * 2 ^ 13 + low_part d * low_part d
square-parts d h =
    let e : d ≡ high_part d * 4096 + low_part d = omega arith in
    ap (λ (n : ℕ). n * n) e ∙ square-of (high_part d) (low_part d)

-- ---- room for each product
pub part-most : (a b : ℕ) → a < 4096 → b < 4096 → a * b ≤ 16769025
part-most a b p q = mul-le-mul {n₂ = 4095} {m₂ = 4095} (omega arith) (omega arith)

space-step : (top : ℕ) (p : Parts) (d n : ℕ) → Space p (suc n) → Space (part_of top p d) n
unfolding part_of
space-step top p d n s =
    let hh = part-most (high_part d) (high_part d) (omega arith) (omega arith) in
    let hl = part-most (high_part d) (low_part d) (omega arith) (omega arith) in
    let ll = part-most (low_part d) (low_part d) (omega arith) (omega arith) in
    record { high = omega (arith, hh, s.high); mix = omega (arith, hl, s.mix); low = omega (arith, ll, s.low) }

pub space-fold : (top : ℕ) (p : Parts) (ds : List ℕ) (n : ℕ) → Space p (length ds + n)
    → Space (foldl (part_of top) p ds) n
space-fold top p [] n s = subst (Space p) (zero-add n) s
space-fold top p (d ∷ ds) n s =
    space-fold top (part_of top p d) ds n (space-step top p d (length ds + n) (subst (Space p) (omega arith) s))

-- ---- what the loop computes
sum_step : (top : ℕ) (p : Parts) (d : ℕ) → d < 2 ^ 24 → sum_of_parts (part_of top p d) ≡ sum_of_parts p + d * d
unfolding part_of
sum_step top p d h = omega (arith, square-parts d h)

pub sum-fold : (top : ℕ) (p : Parts) (ds : List ℕ) → Small ds
    → sum_of_parts (foldl (part_of top) p ds) ≡ sum_of_parts p + squares ds
unfolding squares
sum-fold top p [] none = omega arith
sum-fold top p (d ∷ ds) (more h s) = sum-fold top (part_of top p d) ds s ∙ omega (arith, sum_step top p d h)

quiet_step : (top : ℕ) (p : Parts) (d : ℕ) → (part_of top p d).quiet ≡ (p.quiet && leb d top)
unfolding part_of
quiet_step top p d = refl

pub quiet-fold : (top : ℕ) (p : Parts) (ds : List ℕ)
    → (foldl (part_of top) p ds).quiet ≡ (p.quiet && none_above top ds)
unfolding none_above
quiet-fold top p [] = sym (and-true p.quiet)
quiet-fold top p (d ∷ ds) =
    quiet-fold top (part_of top p d) ds ∙ ap (λ (b : Bool). b && none_above top ds) (quiet_step top p d)
    ∙ sym (and_assoc p.quiet (leb d top) (none_above top ds))

-- ---- a tally to which no difference above its largest is added
added-step : (t : Tally) (d n s : ℕ) → d ≤ t.largest → added_to (step_of t d) n s ≡ added_to t (suc n) (d * d + s)
unfolding added_to step_of
added-step t d n s h =
    let sum : (tallied t + d * d) / 2 ^ 64 * 2 ^ 64 + (tallied t + d * d) % 2 ^ 64 + s ≡ tallied t + (d * d + s) =
    omega arith in
    let number : t.number + 1 + n ≡ t.number + suc n = omega arith in
    rw (le-ltb t.largest d h, sum, number)

added_none : (t : Tally) → t.low < 2 ^ 64 → t ≡ added_to t 0 0
unfolding added_to
added_none t h =
    let high : t.high ≡ (tallied t + 0) / 2 ^ 64 = omega arith in
    let low : t.low ≡ (tallied t + 0) % 2 ^ 64 = omega arith in
    let number : t.number ≡ t.number + 0 = omega arith in
    rw (← high, ← low, ← number)

low_step : (t : Tally) (d : ℕ) → (step_of t d).low < 2 ^ 64
unfolding step_of
low_step t d = omega arith

largest_step : (t : Tally) (d : ℕ) → d ≤ t.largest → (step_of t d).largest ≡ t.largest
unfolding step_of
largest_step t d h = rw (le-ltb t.largest d h)

pub added-fold : (t : Tally) (ds : List ℕ) → t.low < 2 ^ 64 → none_above t.largest ds ≡ true
    → foldl step_of t ds ≡ added_to t (length ds) (squares ds)
unfolding none_above squares
added-fold t [] half h = added_none t half
added-fold t (d ∷ ds) half h =
    let top = leb-true d t.largest (left-true (leb d t.largest) (none_above t.largest ds) h) in
    added-fold (step_of t d) ds (low_step t d)
    (ap (λ (g : ℕ). none_above g ds) (largest_step t d top)
    ∙ right-true (leb d t.largest) (none_above t.largest ds) h)
    ∙ added-step t d (length ds) (squares ds) top

-- Adding the sums of a block at once is the same as counting its differences one by one.
pub quietly : (t : Tally) (ds : List ℕ) {p : Parts} {n : ℕ} → t.low < 2 ^ 64 → Small ds → length ds ≡ n
    → p ≡ foldl (part_of t.largest) no_parts ds → p.quiet ≡ true → added_to t n (sum_of_parts p) ≡ foldl step_of t ds
quietly t ds {p} {n} half small e f q =
    let none_above : none_above t.largest ds ≡ true = sym (quiet-fold t.largest no_parts ds) ∙ rw (← f) q in
    let sum : sum_of_parts p ≡ squares ds = rw f (sum-fold t.largest no_parts ds small ∙ zero-add (squares ds)) in
    rw (sum, ← e) (sym (added-fold t ds half none_above))
