-- `fugnadri_wav::files::fugnadri_wav_read_wrapped` meets its contract: it writes what was found. Assumes nothing.
use mathlib.Core.Path.{◌∙◌, ap}
use Rattle.fugnadri_wav.specs.Exports.{left_by}
use Rattle.fugnadri_wav.proofs.files.fugnadri_wav_read_wrapped.Goals as goal

pub returns : goal.returns
returns c = c.hand_out.ensures ∙ ap left_by c.read_wrapped.ensures
