-- `fugnadri_wav::samples::fugnadri_wav_samples_f32` meets its contract by those of its calls. Assumes nothing.
use Rattle.fugnadri_wav.proofs.samples.fugnadri_wav_samples_f32.Goals as goal

pub returns : goal.returns
returns c =
    let k = c.of_code-k.ensures in
    let n = c.channels_of-n.ensures in
    record { value = rw (k, n) at c.fill_f32.ensures.value; out_after = rw (k, n) at c.fill_f32.ensures.out_after }
