-- `wav_turns::finish` meets its contract, by the contracts of the functions that it calls. Assumes nothing.
use Rattle.wav_turns.proofs.finish.Goals as goal

pub returns : goal.returns
returns c = rw (← c.tag_of-tag.ensures) c.finish.ensures
