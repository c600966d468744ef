-- `oscillator_arithmetic::shape_primitive` meets its contract: each branch returns what the definition gives there.
-- Assumes nothing.
use Rattle.oscillator_arithmetic.specs.Arithmetic.{rounded_square, triangle, shape_primitive}
use Rattle.oscillator_arithmetic.proofs.shape_primitive.Goals as goal

pub returns-then-s : goal.returns-then-s
unfolding shape_primitive rounded_square
returns-then-s c =
    rw (← c.clamp-s.ensures, ← c.cosine-third.ensures, ← c.cosine-sine.ensures, c.if-s.true)

pub returns : goal.returns
unfolding shape_primitive triangle
returns c =
    rw (
      ← c.clamp-s.ensures,
      ← c.cosine-third.ensures,
      ← c.cosine-sine.ensures,
      ← c.cosine-fifth.ensures,
      c.if-s.false,
    )
