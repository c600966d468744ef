-- `rounded_samples::fits` meets its contract, by the cases of the three kinds. Assumes nothing.
use Rattle.rounded_samples.proofs.fits.Goals as goal

pub returns-in-Pcm16 : goal.returns-in-Pcm16
returns-in-Pcm16 c = rw c.in-Pcm16.is c.fits16_f32.ensures

pub returns-in-Pcm24 : goal.returns-in-Pcm24
returns-in-Pcm24 c = rw c.in-Pcm24.is c.fits24_f32.ensures

pub returns-in-Float32 : goal.returns-in-Float32
returns-in-Float32 c = rw c.in-Float32.is c.fits_float_f32.ensures
