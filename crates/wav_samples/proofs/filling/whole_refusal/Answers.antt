-- `wav_samples::filling::whole_refusal` meets its contract by those of its calls. Assumes nothing.
use Rattle.wav_samples.proofs.filling.whole_refusal.Goals as goal

pub returns : goal.returns
returns c = rw (← c.is_pcm.ensures) c.refusal.ensures
