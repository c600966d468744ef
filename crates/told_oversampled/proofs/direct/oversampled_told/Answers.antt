-- `told_oversampled::direct::oversampled_told` meets its contract: the reader answers, and its inner readings' taps are
-- counted beside it. Assumes nothing.
use Rattle.std.proofs.Common.{◌≡◌, ℕ, ◌≤◌, T, sym, ap, ◌∙◌, subst, rules, eqb-true}
use lib.Ieee.{binary64, fits}
use Rattle.oversampled_delay.specs.Reader.{lent_of, Lent, called, processed_of}
use Rattle.told_oversampled.proofs.DirectCall.{refused, small, counted}
use Rattle.told_oversampled.proofs.direct.oversampled_told.Goals as goal
use Rattle.told_oversampled.proofs.direct.oversampled_told.Goals.{After-process_sample-p}

abbrev lent : After-process_sample-p → Lent
lent c =
    let a = c.args in
    lent_of a.table.now a.coefficients.now a.up.now a.down.now a.ring.now

-- What the call gave.
gave : (c : After-process_sample-p) → let a = c.args in
    let l = called a.kernel a.state (lent c) a.input a.delay in
    let p = c.process_sample-p in
    (p.result ≡ processed_of l) × ((p.new.up ≡ l.up) × ((p.new.down ≡ l.down) × (p.new.ring ≡ l.ring)))
gave c =
    let e = c.process_sample-p.ensures in
    (e.value, (e.up_after, (e.down_after, e.ring_after)))

pub returns-then-after-state : goal.returns-then-after-state
returns-then-after-state c =
    let a = c.args in
    let p = (goal.at.returns-then-after-state c).After-process_sample-p in
    refused a.kernel a.state (lent p) a.input a.delay (gave p) c.if-after-state.true c.nothing.ensures

pub overflow_add-all : goal.overflow_add-all
overflow_add-all c =
    let a = c.args in
    let p = (goal.at.overflow_add-all c).After-process_sample-p in
    let s = small a.kernel a.state (lent p) a.input a.delay (gave p) c.if-after-state.false in
    search rules

pub summed-absent-requires : goal.summed-absent-requires
summed-absent-requires c =
    let a = c.args in
    let p = (goal.at.summed-absent-requires c).After-process_sample-p in
    let s = small a.kernel a.state (lent p) a.input a.delay (gave p) c.if-after-state.false in
    (s.0, s.1, subst (λ (n : ℕ). n ≤ 128) (sym c.taps.ensures) s.2)

pub returns : goal.returns
returns c =
    let a = c.args in
    let p = (goal.at.returns c).After-process_sample-p in
    let f = c.start-from.ensures in
    counted a.kernel a.state (lent p) a.input a.delay (gave p) c.if-after-state.false
    (subst T (sym (ap (fits binary64) (sym f.value) ∙ f.result_value)) tt) (λ r. eqb-true _ _ r)
    c.phases_accepted-accepted.ensures f.value c.taps.ensures c.summed-absent.ensures
