-- `wav_format::tags::tag_of` meets its contract, by its two cases. Assumes nothing.
use Rattle.wav_format.proofs.tags.tag_of.Goals as goal

pub returns-then-wrapped : goal.returns-then-wrapped
returns-then-wrapped c = rw c.if-wrapped.true c.unwrapped.ensures

pub returns : goal.returns
returns c = rw c.if-wrapped.false c.two.ensures.value
