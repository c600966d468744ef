-- `fugnadri_wav::samples::fugnadri_wav_samples` meets its contract by those of its calls. Assumes nothing.
use Rattle.fugnadri_wav.proofs.samples.fugnadri_wav_samples.Goals as goal

pub returns : goal.returns
returns c =
    let k = c.of_code-k.ensures in
    let n = c.channels_of-n.ensures in
    record { value = rw (k, n) at c.fill.ensures.value; out_after = rw (k, n) at c.fill.ensures.out_after }
