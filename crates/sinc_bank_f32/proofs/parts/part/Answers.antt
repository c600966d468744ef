-- `sinc_bank_f32::parts::part` meets its contract: the part of a quality lies within a set, and is the definition's.
-- Assumes nothing.
use borrow.Author.Tests.{eq-eqb, ne_eqb}
use mathlib.Core.Path.{◌≡◌, refl}
use mathlib.Core.List.{List}
use Prim.Native.Nat.{ℕ, ◌-◌, ◌≤◌}
use native.Mathlib.Omega.{arith}
use lib.ListN.{length, take, drop}
use lib.Ieee.{Float}
use Rattle.quality_mode.specs.declared.QualityMode.{QualityMode}
use Rattle.quality_mode.specs.declared.QualityMode.TheVariants.{Draft, Normal, Hq, Ultra}
use Rattle.sinc_bank_f32.specs.Sets.{set_length}
use Rattle.sinc_bank_f32.specs.Parts.{start_of, end_of, part_of}
use Rattle.sinc_bank_f32.proofs.parts.part.Goals as goal
use Rattle.sinc_bank_f32.proofs.parts.part.Goals.{After-end-e}

within : (q : QualityMode) → (start_of q ≤ end_of q) × (end_of q ≤ set_length)
within Draft = (omega arith, omega arith)
within Normal = (omega arith, omega arith)
within Hq = (omega arith, omega arith)
within Ultra = (omega arith, omega arith)

part-is : (q : QualityMode) (xs : List Float) → take (end_of q - start_of q) (drop (start_of q) xs) ≡ part_of q xs
part-is Draft xs = refl
part-is Normal xs = refl
part-is Hq xs = refl
part-is Ultra xs = refl

-- The ends that the code holds.
record Ends (q : QualityMode) (a e : ℕ) : Type 0 where
  start_is : a ≡ start_of q
  end_is : e ≡ end_of q
  order : a ≤ e
  small : e ≤ set_length

ends : (c : After-end-e) → Ends c.args.quality c.start-a.result c.end-e.result
ends c =
    let w = within c.args.quality in
    record {
      start_is = c.start-a.ensures;
      end_is = c.end-e.ensures;
      order = omega (arith, c.start-a.ensures, c.end-e.ensures, w.0);
      small = omega (arith, c.end-e.ensures, w.1);
    }

pub offset_bounds-set-a : goal.offset_bounds-set-a
offset_bounds-set-a c = let x = ends (goal.at.offset_bounds-set-a c).After-end-e in omega (arith, x.order, x.small)

pub slice_bounds-result-count : goal.slice_bounds-result-count
slice_bounds-result-count c = (ends (goal.at.slice_bounds-result-count c).After-end-e).order

pub slice_bounds-result-start : goal.slice_bounds-result-start
slice_bounds-result-start c = (ends (goal.at.slice_bounds-result-start c).After-end-e).order

pub slice_bounds-result-end : goal.slice_bounds-result-end
slice_bounds-result-end c = omega (
  arith,
  (ends (goal.at.slice_bounds-result-end c).After-end-e).small,
  c.if-set-eq-SET_LENGTH.true,
)

pub returns-then-set-eq-SET_LENGTH : goal.returns-then-set-eq-SET_LENGTH
returns-then-set-eq-SET_LENGTH c =
    let x = ends (goal.at.returns-then-set-eq-SET_LENGTH c).After-end-e in
    let a = c.args in
    rw (eq-eqb (length a.set.now) set_length c.if-set-eq-SET_LENGTH.true, x.start_is, x.end_is)
    (part-is a.quality a.set.now)

pub returns : goal.returns
returns c =
    let a = c.args in
    rw (ne_eqb (length a.set.now) set_length (λ z. omega (arith, z, c.if-set-eq-SET_LENGTH.false)))
