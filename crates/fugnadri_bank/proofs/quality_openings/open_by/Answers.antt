-- `fugnadri_bank::quality_openings::open_by` meets its contract: a refusal keeps what stood there, and an opening
-- writes what the reset gives. Assumes nothing.
use mathlib.Core.Path.{ap}
use Rattle.quality_codes.specs.Left.{begun_of}
use Rattle.quality_codes.proofs.NamedQualities.{kept, given}
use Rattle.fugnadri_bank.proofs.quality_openings.open_by.Goals as goal

pub returns-then-c-ne0 : goal.returns-then-c-ne0
returns-then-c-ne0 c =
    let e = rw c.rule_code.ensures at c.renew-c.ensures in
    kept _ _ _ (ap (λ p. p.number) e.value) c.if-c-ne0.true e.ring_after

pub returns : goal.returns
returns c =
    let e = rw c.rule_code.ensures at c.renew-c.ensures in
    given _ _ _ (ap (λ p. p.number) e.value) c.if-c-ne0.false (ap (λ p. begun_of p.state) e.value) e.ring_after
