-- `quality_variable_delay::opening::reset_refusal` meets its contract: each test is the definition's,
-- the first two by `settled`. Assumes nothing.
use Rattle.std.proofs.Common.{◌^◌, Bool, true, ◌&&◌, leb, refl}
use Rattle.answer.specs.Refusals.{lowest_of}
use Rattle.variable_delay.proofs.Settings.{settled}
use Rattle.quality_fade.specs.Fade.{length_ok}
use Rattle.returning_fade.specs.Rules.{place_ok}
use Rattle.quality_variable_delay.specs.State.{fade_part}
use Rattle.quality_variable_delay.proofs.opening.reset_refusal.Goals as goal

pub returns : goal.returns
returns c =
    let s = c.args.state in
    rw (
      c.first.ensures,
      c.both-t3.ensures,
      c.place_ok.ensures,
      c.fading.ensures,
      c.both-t1.ensures,
      c.length_ok.ensures,
    )
    (settled s.maximum s.margin c.args.len c.length_for-needed.result
    (λ (t u : Bool). lowest_of (t && length_ok s.crossfade_samples) u
    (leb s.accepted (2 ^ 36) && place_ok (fade_part s)) true true true true true)
    (λ t u. refl)
    c.length_for-needed.ensures)
