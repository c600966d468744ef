-- `fugnadri_wav::turns::fugnadri_wav_finish` meets its contract: it writes what was found. Assumes nothing.
use mathlib.Core.Path.{◌∙◌, ap}
use Rattle.riff_chunks.specs.declared.Walked.{Walked}
use Rattle.wav_turns.specs.Turns.{finished_of}
use Rattle.fugnadri_wav.specs.Exports.{left_by}
use Rattle.fugnadri_wav.proofs.turns.fugnadri_wav_finish.Goals as goal

pub returns : goal.returns
returns c =
    let a = c.args in
    c.hand_out.ensures
    ∙ ap left_by (c.finish-found.ensures ∙ ap (λ (w : Walked). finished_of w a.fmt.now) c.seen_from-seen.ensures)
