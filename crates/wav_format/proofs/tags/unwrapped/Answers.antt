-- `wav_format::tags::unwrapped` meets its contract, by its two cases. Assumes nothing.
use mathlib.Core.Path.{sym, ◌∙◌}
use Rattle.wav_format.proofs.tags.unwrapped.Goals as goal

pub returns-then-is_wrapped : goal.returns-then-is_wrapped
returns-then-is_wrapped c =
    rw (sym c.is_wrapped.ensures ∙ c.if-is_wrapped.true) c.two.ensures.value

pub returns : goal.returns
returns c =
    rw (sym c.is_wrapped.ensures ∙ c.if-is_wrapped.false) c.two-2.ensures.value
