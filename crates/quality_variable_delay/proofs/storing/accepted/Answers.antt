-- `quality_variable_delay::storing::accepted` meets its contract: if nothing is refused, the ring has room, and the
-- position and the bank are in range. Assumes nothing.
use Rattle.std.proofs.Common.{◌*◌, eqb, length, ap, ◌∙◌, arith, eqb-true}
use Rattle.bank_choice.specs.Rates.{bank_ok, steps_of}
use Rattle.sinc_bank_f32.specs.Sets.{set_length}
use Rattle.bank_read.specs.Bank.{bank_at}
use Rattle.returning_fade.specs.declared.RuledFade.{RuledFade}
use Rattle.returning_fade.specs.Step.{step_of}
use Rattle.quality_variable_delay.proofs.AcceptedCall.{Taken, taken, room, ring-some, position-in-range}
use Rattle.quality_variable_delay.proofs.AcceptedCall.{taken-call}
use Rattle.quality_variable_delay.proofs.storing.accepted.Goals as goal
use Rattle.quality_variable_delay.proofs.storing.accepted.Goals.{Start}

passed : (c : Start) → let a = c.args in
    Taken (bank_ok a.max_rate) (eqb (length a.sets.now) (steps_of a.max_rate * set_length)) a.state
    (length a.ring.now) a.input a.delay
passed c =
    let a = c.args in
    taken (bank_ok a.max_rate) (eqb (length a.sets.now) (steps_of a.max_rate * set_length)) a.state
    (length a.ring.now) a.input a.delay a.playback_rate c.requires

pub store-position-requires : goal.store-position-requires
store-position-requires c = let t = passed (goal.at.store-position-requires c).Start in (room t, ring-some t)

pub overflow_add-i : goal.overflow_add-i
overflow_add-i c =
    omega (arith, room (passed (goal.at.overflow_add-i c).Start))

pub output-y-requires : goal.output-y-requires
output-y-requires c =
    let t = passed (goal.at.output-y-requires c).Start in (
      t.banked,
      eqb-true (length c.args.sets.now) (steps_of c.args.max_rate * set_length) t.lasting,
      rw c.store-position.ensures.value (position-in-range t),
    )

pub after-requires : goal.after-requires
after-requires c =
    room (passed (goal.at.after-requires c).Start)

pub returns : goal.returns
returns c =
    let a = c.args in
    let turned = c.step-ruled.ensures ∙ ap (λ (f : RuledFade). step_of f a.quality) c.fading.ensures in record {
      value = taken-call (bank_at a.sets.now a.max_rate a.playback_rate) a.state a.ring.now a.input
          a.delay a.quality c.after.ensures c.answered_f32.ensures c.output-y.ensures turned
          c.store-position.ensures.ring_after c.store-position.ensures.value;
      ring_after = c.store-position.ensures.ring_after;
    }
