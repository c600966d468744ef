-- `fugnadri_wav::samples::fugnadri_wav_whole` meets its contract by those of its calls. Assumes nothing.
use Rattle.fugnadri_wav.proofs.samples.fugnadri_wav_whole.Goals as goal

pub returns : goal.returns
returns c =
    let k = c.of_code-k.ensures in
    let n = c.channels_of-n.ensures in
    record { value = rw (k, n) at c.fill_whole.ensures.value; out_after = rw (k, n) at c.fill_whole.ensures.out_after }
