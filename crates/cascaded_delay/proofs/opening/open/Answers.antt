-- `cascaded_delay::opening::open` meets its contract: it is refused, or the filters are designed and the rest is
-- cleared. Assumes nothing.
use mathlib.Core.Path.{◌≡◌, sym, ap, ◌∙◌}
use mathlib.Core.Bool.{◌&&◌}
use lib.Count.{count_trailing_zeros}
use lib.Dec.{eqb}
use lib.ListN.{length}
use lib.Ieee.{of_bits, size, span, climb, odd, units, round}
use Rattle.variable_delay.proofs.Refused.{not-cleared}
use Rattle.cascaded_delay.specs.Reader.{held_ok, needed_by}
use Rattle.cascaded_delay.specs.Opening.{fresh, renew_due, halfband_of, last_of}
use Rattle.cascaded_delay.specs.declared.CascadedOversampledVariableDelay4x.{CascadedOversampledVariableDelay4x}
use Rattle.cascaded_delay.specs.declared.Opened.TheVariants.{Reader}
use Rattle.cascaded_delay.proofs.Renewal.{not_opened, not_written, opened, cleared, filters-lent, halfband-is}
use Rattle.cascaded_delay.proofs.Renewal.{last-is}
use Rattle.cascaded_delay.proofs.opening.open.Goals as goal
use Rattle.cascaded_delay.proofs.opening.open.Goals.{After-renewal_refusal-no}

abbrev anew : After-renewal_refusal-no → CascadedOversampledVariableDelay4x
anew r = fresh r.args.maximum r.args.margin

due : (r : After-renewal_refusal-no) → let a = r.args in
    r.renewal_refusal-no.result
    ≡ renew_due (anew r)
    (eqb (length a.halfband.now) 65 && eqb (length a.last.now) 129
    && held_ok (needed_by (anew r)) (length a.up1.now) (length a.up2.now) (length a.down2.now)
    (length a.down1.now) (length a.ring.now))
due r = rw (r.renewed-state.ensures, r.both.ensures) at r.renewal_refusal-no.ensures

pub returns-then-no-ne0 : goal.returns-then-no-ne0
returns-then-no-ne0 c =
    let a = c.args in
    let e = due (goal.at.returns-then-no-ne0 c).After-renewal_refusal-no in
    let w = c.renewal_refusal-no.result in
    let h = c.if-no-ne0.true in record {
      value =
          not_opened w e h (anew (goal.at.returns-then-no-ne0 c).After-renewal_refusal-no);
      halfband_after =
          not_written w e h halfband_of a.halfband.now;
      last_after = not_written w e h last_of a.last.now;
      up1_after =
          not-cleared w e h a.up1.now;
      up2_after = not-cleared w e h a.up2.now;
      down2_after =
          not-cleared w e h a.down2.now;
      down1_after = not-cleared w e h a.down1.now;
      ring_after =
          not-cleared w e h a.ring.now;
    }

pub returns : goal.returns
unfolding of_bits count_trailing_zeros size span climb odd units round
returns c =
    let a = c.args in
    let z = sym (due (goal.at.returns c).After-renewal_refusal-no) ∙ c.if-no-ne0.false in
    let f =
    filters-lent (anew (goal.at.returns c).After-renewal_refusal-no) (eqb (length a.halfband.now) 65)
    (eqb (length a.last.now) 129)
    (held_ok (needed_by (anew (goal.at.returns c).After-renewal_refusal-no)) (length a.up1.now) (length a.up2.now)
    (length a.down2.now)
    (length a.down1.now) (length a.ring.now)) z in
    record {
      value = ap Reader c.renewed-state.ensures ∙ opened z (anew (goal.at.returns c).After-renewal_refusal-no);
      halfband_after = halfband-is z a.halfband.now f.0 c.design_lowpass.ensures.out_after c.keep.ensures;
      last_after =
          last-is z a.last.now f.1 c.design_lowpass-2.ensures.out_after c.keep-2.ensures;
      up1_after =
          cleared z a.up1.now c.clear.ensures;
      up2_after = cleared z a.up2.now c.clear-2.ensures;
      down2_after =
          cleared z a.down2.now c.clear-3.ensures;
      down1_after = cleared z a.down1.now c.clear-4.ensures;
      ring_after =
          cleared z a.ring.now c.clear-5.ensures;
    }
