-- `fir_filter::pairs::last` meets its contract: by its two tests. Assumes nothing.
use borrow.Author.Rules.{scaled_Fits}
use mathlib.Core.Logic.{inl, inr}
use Prim.Native.Nat.{◌+◌, ◌-◌, ◌<◌}
use native.Mathlib.Nat.{mod-lt, zero-mul}
use native.Mathlib.Omega.{arith}
use lib.ListN.{length}
use Rattle.fir_filter.proofs.PairSums.{index-small, no-sample, no-coefficient, added}
use Rattle.fir_filter.proofs.pairs.last.Goals as goal
use Rattle.fir_filter.proofs.pairs.last.Goals.{After-place_of-p}

pub returns-then-lag-history : goal.returns-then-lag-history
returns-then-lag-history c =
    let a = c.args in
    no-sample a.coefficients.now a.history.now _ _ _ _ _ c.if-lag-history.true

pub overflow_mul-i : goal.overflow_mul-i
overflow_mul-i c = omega (arith, (index-small _ c.requires).0, c.well_formed.0.1)

pub overflow_add-i : goal.overflow_add-i
overflow_add-i c =
    elim (index-small _ c.requires).1 [
      | inl h ↦ rw (h, zero-mul) (omega arith)
      | inr h ↦ omega (arith, h, c.well_formed.0.1)
    ]

pub returns-then-i-coefficients : goal.returns-then-i-coefficients
returns-then-i-coefficients c =
    let a = c.args in
    no-coefficient a.coefficients.now a.history.now _ _ _ _ _ c.if-lag-history.false c.if-i-coefficients.true

inside : (c : After-place_of-p) → let a = c.args in
    c.place_of-p.result < length a.history.now
inside c =
    let a = c.args in
    let p : 0 < length a.history.now = omega (arith, c.if-lag-history.false) in
    omega (arith, c.place_of-p.ensures, mod-lt (a.head + length a.history.now - a.lag) p)

pub offset_bounds-history-p : goal.offset_bounds-history-p
offset_bounds-history-p c =
    scaled_Fits _ (length c.args.history.now) 8 (inside (goal.at.offset_bounds-history-p c).After-place_of-p)
    c.well_formed.1.0.1

pub bounds-history-p : goal.bounds-history-p
bounds-history-p c = inside (goal.at.bounds-history-p c).After-place_of-p

pub returns : goal.returns
returns c =
    let a = c.args in
    added a.coefficients.now a.history.now _ _ _ _ _ c.if-lag-history.false _ c.place_of-p.ensures
    c.if-i-coefficients.false
