-- `fugnadri_bank::quality_openings::fugnadri_quality_reset` meets its contract: it writes what the reset gives. Assumes
-- nothing.
use mathlib.Core.Path.{refl}
use Rattle.answer_parts.proofs.LeftByExports.{renewed}
use Rattle.quality_codes.specs.Left.{changed_of}
use Rattle.fugnadri_bank.proofs.quality_openings.fugnadri_quality_reset.Goals as goal

pub returns : goal.returns
returns c =
    renewed (λ p. p.number) (λ p. changed_of p.state) (c.renew-c.ensures.value, c.renew-c.ensures.ring_after) refl refl
