-- `wav_samples::by_frame::pcm` meets its contract, by the kind and the number of channels. Assumes nothing.
use Rattle.sample_kind.specs.declared.SampleKind.TheVariants.{Pcm16, Pcm24}
use Rattle.wav_samples.proofs.Framing.{two-channels}
use Rattle.wav_samples.proofs.by_frame.pcm.Goals as goal

pub returns-then-channels-eq1 : goal.returns-then-channels-eq1
returns-then-channels-eq1 g c = λ means h16 h24.
    rw (c.in-Pcm16.is, c.if-channels-eq1.true) (c.fill_by.ensures (means Pcm16) h16)

pub returns-in-Pcm16 : goal.returns-in-Pcm16
returns-in-Pcm16 g c = λ means h16 h24.
    rw (c.in-Pcm16.is, two-channels c.requires.framed c.if-channels-eq1.false)
    (c.fill_by-else-channels-eq1.ensures (means Pcm16) h16)

pub returns-then-channels-eq1-2 : goal.returns-then-channels-eq1-2
returns-then-channels-eq1-2 g c = λ means h16 h24.
    rw (c.in-Pcm24.is, c.if-channels-eq1-2.true) (c.fill_by-then-channels-eq1-2.ensures (means Pcm24) h24)

pub returns-in-Pcm24 : goal.returns-in-Pcm24
returns-in-Pcm24 g c = λ means h16 h24.
    rw (c.in-Pcm24.is, two-channels c.requires.framed c.if-channels-eq1-2.false)
    (c.fill_by-else-channels-eq1-2.ensures (means Pcm24) h24)
