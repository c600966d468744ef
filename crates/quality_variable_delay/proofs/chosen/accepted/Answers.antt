-- `quality_variable_delay::chosen::accepted` meets its contract, as the call over a bank does. Assumes nothing.
use Rattle.std.proofs.Common.{ap, ◌∙◌, arith}
use Rattle.returning_fade.specs.declared.RuledFade.{RuledFade}
use Rattle.returning_fade.specs.Step.{step_of}
use Rattle.quality_variable_delay.specs.Chosen.{read_by}
use Rattle.quality_variable_delay.proofs.AcceptedCall.{taken-call}
use Rattle.quality_variable_delay.proofs.chosen.accepted.Goals as goal

pub store-position-requires : goal.store-position-requires
store-position-requires c = c.requires

pub overflow_add-i : goal.overflow_add-i
overflow_add-i c =
    omega (arith, c.requires.0)

pub after-requires : goal.after-requires
after-requires c =
    c.requires.0

pub returns : goal.returns
returns c =
    let a = c.args in
    let turned = c.step-ruled.ensures ∙ ap (λ (f : RuledFade). step_of f a.quality) c.fading.ensures in record {
      value = taken-call (read_by a.choice a.sets.now) a.state a.ring.now a.input a.delay a.quality
          c.after.ensures c.answered_f32.ensures c.output-y.ensures turned c.store-position.ensures.ring_after
          c.store-position.ensures.value;
      ring_after = c.store-position.ensures.ring_after;
    }
