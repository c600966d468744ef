-- `quality_variable_delay::refusing::refusal` meets its contract: each test is the definition's,
-- the first two by `settled`. Assumes nothing.
use Rattle.std.proofs.Common.{◌^◌, Bool, false, not, ◌&&◌, ltb, leb, pos, refl}
use lib.Ieee.{fin, le, of_bits, is_nan}
use lib.Ieee.Scale.{finite}
use Rattle.answer.specs.Refusals.{lowest_of}
use Rattle.variable_delay.proofs.Settings.{settled}
use Rattle.quality_fade.specs.Fade.{length_ok}
use Rattle.returning_fade.specs.Rules.{place_ok}
use Rattle.quality_variable_delay.specs.State.{fade_part}
use Rattle.quality_variable_delay.proofs.refusing.refusal.Goals as goal

pub returns : goal.returns
unfolding of_bits
returns c =
    let a = c.args in
    let s = a.state in
    rw (
      c.first.ensures,
      c.is_number-t7.ensures,
      c.both-t5.ensures,
      c.is_finite.ensures,
      c.is_finite_f32-t4.ensures,
      c.both-t3.ensures,
      c.place_ok.ensures,
      c.fading.ensures,
      c.both-t2.ensures,
      c.both-t1.ensures,
      c.both.ensures,
      c.length_ok.ensures,
    )
    (settled s.maximum s.margin a.len c.length_for-needed.result
    (λ (t u : Bool).
    lowest_of (t && (length_ok s.crossfade_samples && a.bank)) (u && a.lent)
    (leb s.accepted (2 ^ 36) && place_ok (fade_part s)) (finite a.input)
    (finite a.delay && le (fin false 0 (pos 0)) a.delay) (le a.delay (fin false 1 (pos 36)))
    (not (is_nan a.playback_rate)) (ltb s.accepted (2 ^ 36)))
    (λ t u. refl)
    c.length_for-needed.ensures)
