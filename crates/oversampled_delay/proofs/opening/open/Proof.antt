-- `oversampled_delay::opening::open` meets its contract: it is refused, or the filters are designed and the rest is
-- cleared. Assumes nothing.
use Rattle.std.proofs.Common.{◌≡◌, length, sym, ap, ◌∙◌, rules}
use lib.Count.{count_trailing_zeros}
use lib.Ieee.{of_bits, size, span, climb, odd, units, round}
use Rattle.variable_delay.proofs.Refused.{not-cleared}
use Rattle.oversampled_delay.specs.Opening.{fresh, open_due}
use Rattle.oversampled_delay.specs.declared.OversampledVariableDelay.{OversampledVariableDelay}
use Rattle.oversampled_delay.specs.declared.Opened.TheVariants.{Reader}
use Rattle.oversampled_delay.proofs.Renewal.{not_opened, not-designed, opened, cleared, design-is}
use Rattle.oversampled_delay.proofs.opening.open.Statement.{statement}
use Rattle.oversampled_delay.proofs.opening.open.Tie as tie

abbrev anew : tie.After-renewal_refusal-no → OversampledVariableDelay
anew r = let a = r.before.before.before.before.before.before.args in fresh a.maximum a.margin a.factor a.taps

due : (r : tie.After-renewal_refusal-no) → let a = r.before.before.before.before.before.before.args in
    r.renewal_refusal-no.result
    ≡ open_due (anew r) (length a.coefficients.now) (length a.up.now) (length a.down.now)
    (length a.ring.now)
due r = rw r.before.renewed-state.ensures at r.renewal_refusal-no.ensures

returns : tie.Need-returns-then-no-ne0
returns c =
    let r = c.before in
    let a = r.before.before.before.before.before.before.args in
    let e = due r in
    let w = r.renewal_refusal-no.result in
    let h = c.if-no-ne0.true in (
      not_opened w e h (anew r),
      (
        not-designed w e h (anew r) a.coefficients.now,
        (not-cleared w e h a.up.now, (not-cleared w e h a.down.now, not-cleared w e h a.ring.now)),
      ),
    )

returns-2 : tie.Need-returns
unfolding of_bits count_trailing_zeros size span climb odd units round
returns-2 c =
    let c3 = c.before.before in
    let c2 = c3.before.before.before.before in
    let c1 = c2.before.before.before.before in
    let k = c1.before.before.before.before in
    let g = k.before.before.before.before in
    let n = g.before.before in
    let e = n.before in
    let r = e.before in
    let a = r.before.before.before.before.before.before.args in
    let z = sym (due r) ∙ e.if-no-ne0.false in (
      ap Reader r.before.renewed-state.ensures ∙ opened z (anew r),
      (
        design-is a.maximum a.margin a.factor a.taps a.coefficients.now (length a.up.now)
            (length a.down.now) (length a.ring.now) z n.nearest_u64_to_f64-cutoff.ensures
            g.design_lowpass.ensures.1 k.keep.ensures,
        (
          cleared z a.up.now c1.clear.ensures,
          (cleared z a.down.now c2.clear-2.ensures, cleared z a.ring.now c3.clear-3.ensures),
        ),
      ),
    )

pub open_spec : {M : Type 1} → statement M
open_spec =
    tie.close (tie.spec (λ c κs. search rules) (λ c κs. search rules) returns (λ c κs. search rules)
    (λ c κs. search rules) (λ c κs. search rules) (λ c κs. search rules) (λ c κs. search rules) (λ c κs. search rules)
    (λ c. search rules) (λ c. search rules) (λ c. search rules) (λ c. search rules) returns-2)
