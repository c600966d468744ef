-- `told_oversampled::cascaded::cascaded_told` meets its contract: the reader answers, and its inner readings' taps are
-- counted beside it. Assumes nothing.
use Rattle.std.proofs.Common.{◌≡◌, T, sym, subst}
use Rattle.cascaded_delay.specs.Reader.{lent_of, Lent, called, processed_of}
use Rattle.told_oversampled.proofs.CascadedCall.{refused, small, up2-kept, counted}
use Rattle.told_oversampled.proofs.cascaded.cascaded_told.Goals as goal
use Rattle.told_oversampled.proofs.cascaded.cascaded_told.Goals.{After-process_sample-p}

abbrev lent : After-process_sample-p → Lent
lent c =
    let a = c.args in
    lent_of a.table.now a.halfband.now a.last.now a.up1.now a.up2.now a.down2.now
    a.down1.now a.ring.now

-- What the call gave.
gave : (c : After-process_sample-p) → let a = c.args in
    let l = called a.kernel a.state (lent c) a.input a.delay in
    let p = c.process_sample-p in
    (p.result ≡ processed_of l)
    × ((p.new.up1 ≡ l.up1) × ((p.new.up2 ≡ l.up2) × ((p.new.down2 ≡ l.down2)
    × ((p.new.down1 ≡ l.down1) × (p.new.ring ≡ l.ring)))))
gave c =
    let e = c.process_sample-p.ensures in
    (e.value, (e.up1_after, (e.up2_after, (e.down2_after, (e.down1_after, e.ring_after)))))

pub returns-then-after-state : goal.returns-then-after-state
returns-then-after-state c =
    let a = c.args in
    let p = (goal.at.returns-then-after-state c).After-process_sample-p in
    refused a.kernel a.state (lent p) a.input a.delay (gave p) c.if-after-state.true c.nothing.ensures

pub absent_inside-absent-requires : goal.absent_inside-absent-requires
absent_inside-absent-requires c =
    let a = c.args in
    let p = (goal.at.absent_inside-absent-requires c).After-process_sample-p in
    let s = small a.kernel a.state (lent p) a.input a.delay (gave p) c.if-after-state.false in (
      s.0,
      s.1,
      s.2,
      up2-kept a.kernel a.state (lent p) a.input a.delay (gave p) c.if-after-state.false,
    )

pub returns : goal.returns
returns c =
    let a = c.args in
    let p = (goal.at.returns c).After-process_sample-p in
    let i = c.absent_inside-absent.ensures in
    counted a.kernel a.state (lent p) a.input a.delay (gave p) c.if-after-state.false
    (subst T (sym i.delay_value) tt) c.saved-before.ensures i.value i.up2_unchanged
