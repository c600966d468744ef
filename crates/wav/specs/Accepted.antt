-- W1b, W1c. What holds for a file in which samples were found, by either reading. proofs/Promised.antt shows it.
use Rattle.std.specs.Prelude.{ℕ, ◌+◌, ◌%◌, ◌≤◌, ◌<◌, ◌≡◌, List, length}
use Rattle.sample_kind.specs.Kinds.{frame_of}
use Rattle.wav.specs.declared.Wave.{Wave}
use Rattle.wav.specs.Wave.{riff_size, part_of}

pub record Accepted (b : List ℕ) (w : Wave) : Type 0 where
  -- There are one or two channels.
  pub some : 1 ≤ w.channels
  pub few : w.channels ≤ 2
  -- The samples are whole frames.
  pub frame : 0 < frame_of w.kind w.channels
  pub frames : w.length % frame_of w.kind w.channels ≡ 0
  -- The samples lie inside the RIFF and the file.
  pub inside : w.start + w.length ≤ 8 + riff_size b
  pub held : 8 + riff_size b ≤ length b
  pub whole : length (part_of b w.start w.length) ≡ w.length
