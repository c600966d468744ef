-- `modulation_sample::render` meets its contract: the amplitudes do not depend on the side, and if the phases of both
-- sides are equal, nothing does. Assumes nothing.
use Rattle.std.proofs.Common.{sym, ◌∙◌}
use denote.Floats.{passes}
use Rattle.oscillator_arithmetic.specs.Arithmetic.{oscillator_delay}
use Rattle.modulation_sample.specs.Sample.{render_of}
use Rattle.modulation_sample.proofs.Sides.{one_side}
use Rattle.modulation_sample.proofs.render.Goals as goal

pub returns-then-pairs : goal.returns-then-pairs
unfolding render_of oscillator_delay
returns-then-pairs c =
    let a = c.args in
    rw (
      one_side a.engine a.params c.clamp-side.result c.clamp-side.ensures
          (passes _ (sym c.pairs.ensures ∙ c.if-pairs.true)),
      c.shape_primitive-2.ensures,
      c.shape_primitive.ensures,
      c.amplitude-flutter.ensures,
      c.amplitude-wow.ensures,
      c.clamp-side.ensures,
    )

pub returns : goal.returns
unfolding render_of oscillator_delay
returns c =
    rw (
      c.shape_primitive-4.ensures,
      c.shape_primitive-3.ensures,
      c.shape_primitive-2.ensures,
      c.shape_primitive.ensures,
      c.amplitude-flutter.ensures,
      c.amplitude-wow.ensures,
      c.clamp-side.ensures,
    )
