-- W12b, W12c, W12i. What holds for a file in which samples were found. proofs/Promised.antt shows it.
use Rattle.std.specs.Prelude.{ℕ, ◌+◌, ◌%◌, ◌≤◌, ◌<◌, ◌≡◌, List, length, take, drop}
use Rattle.sample_kind.specs.Kinds.{frame_of}
use Rattle.aiff.specs.declared.Sound.{Sound}
use Rattle.aiff.specs.Aiff.{form_size, walk_in, ssnd_of, comm_of, bits, offset, kind_of}

pub record Accepted (b : List ℕ) (f : Sound) : Type 0 where
  -- The samples are PCM of 16 or 24 bits, in one or two channels, at a rate from 8000 to 768000.
  pub kind : f.kind ≡ kind_of (bits (comm_of b))
  pub some : 1 ≤ f.channels
  pub few : f.channels ≤ 2
  pub slow : 8000 ≤ f.rate
  pub fast : f.rate ≤ 768000
  -- The samples are whole frames.
  pub frame : 0 < frame_of f.kind f.channels
  pub frames : f.length % frame_of f.kind f.channels ≡ 0
  -- The samples begin behind the 8 bytes and the offset, and lie inside the `SSND`, the FORM and the file.
  pub begins : f.start ≡ (walk_in b).samples.body + 8 + offset (ssnd_of b)
  pub inside : f.start + f.length ≤ (walk_in b).samples.body + (walk_in b).samples.size
  pub bounded : f.start + f.length ≤ 8 + form_size b
  pub held : 8 + form_size b ≤ length b
  pub whole : length (take f.length (drop f.start b)) ≡ f.length
