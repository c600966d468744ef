-- What `open` answers: that a C call failed, that the file is empty or became shorter, or what follows from the pieces
-- that were read, and nothing else. No contract can say which pieces a file has. Definitions only.
use Rattle.std.specs.Prelude.{ℕ, zero, suc, ◌<◌, ◌/◌, ◌≡◌, cond, List, [], ◌∷◌, eqb, ℤ}
use Rattle.riff_chunks.specs.declared.Walking.{Walking}
use Rattle.riff_chunks.specs.Walk.{begun}
use Rattle.sample_kind.specs.Kinds.{frame_of}
use Rattle.wav.specs.declared.Found.{Found}
use Rattle.wav.specs.declared.Found.TheVariants as found
use Rattle.wav.specs.declared.Wave.{Wave}
use Rattle.wav_opening.specs.declared.Begun.{Begun}
use Rattle.file_layout.specs.declared.Layout.{Layout}
use Rattle.file_layout.specs.Layouts.{layout_of}
use Rattle.file_turns.specs.declared.Told.{Told}
use Rattle.file_turns.specs.Turns.{begun_in, turned_in, finished_in, told_by}
use Rattle.wave_file.specs.declared.WaveFile.{WaveFile}
use Rattle.wave_file.specs.declared.Refused.{Refused}
use Rattle.wave_file.specs.declared.Opened.{Opened}
use Rattle.wave_file.specs.declared.Opened.TheVariants as opened

-- ---- the answer from what was found
abbrev pub refused_by : ℕ → Told → Refused
refused_by n t =
    record { number = n; tag = t.tag; channels = t.channels; block = t.block; bits = t.bits }

-- There are as many frames as fit the part. A tag of FFFE says that the kind is wrapped.
abbrev pub frames_of : ℕ → ℕ → ℕ
frames_of size frame = cond (eqb frame 0) 0 (size / frame)

abbrev pub file_of : ℤ → Layout → Told → Wave → WaveFile
file_of fd layout t w =
    record {
      fd = fd;
      layout = layout;
      kind = w.kind;
      channels = w.channels;
      rate = w.rate;
      start = w.start;
      frame = frame_of w.kind w.channels;
      frames = frames_of w.length (frame_of w.kind w.channels);
      wrapped = eqb t.tag 0xfffe;
    }

abbrev pub opened_as : ℤ → Layout → Told → Found → Opened
opened_as fd layout t (found.Wave w) = opened.File (file_of fd layout t w)
opened_as fd layout t (found.Refused n) = opened.Refused (refused_by n t)

-- ---- the pieces of a file that are read
-- They are its first bytes and its length, the heads of its chunks with the last one first, and the first bytes of the
-- chunk that describes the samples and of the one that holds them.
pub record Pieces : Type 0 where
  pub opening : List ℕ
  pub size : ℕ
  pub heads : List (List ℕ)
  pub format : List ℕ
  pub samples : List ℕ

-- The walk after these heads.
unfoldable pub walked_by : Layout → List ℕ → ℕ → List (List ℕ) → Walking
walked_by layout opening end [] = begun end
walked_by layout opening end (h ∷ hs) = turned_in layout opening (walked_by layout opening end hs) end h

-- The answer from the pieces, by the refusal of the opening.
abbrev pub answered_by : ℕ → ℤ → Layout → ℕ → Pieces → Opened
answered_by zero fd layout end p =
    opened_as fd layout (told_by layout p.format)
    (finished_in layout (walked_by layout p.opening end p.heads).seen end p.format p.samples)
answered_by (suc k) fd layout end p = opened.Refused (refused_by (suc k) (told_by layout []))

abbrev pub start_of : Pieces → Begun
start_of p = begun_in (layout_of p.opening) p.opening p.size

abbrev pub opened_by : ℤ → Pieces → Opened
opened_by fd p = answered_by (start_of p).refusal fd (layout_of p.opening) (start_of p).end p

-- If the opening refuses nothing, all heads up to the end of the walk are read.
abbrev pub AllHeads : Pieces → Type 0
AllHeads p =
    (start_of p).refusal ≡ 0 → (walked_by (layout_of p.opening) p.opening (start_of p).end p.heads).left < 8

-- ---- all possible answers: a C call failed, the file is empty or became shorter, or what follows from the pieces
pub data Opens (r : Opened) : Type 0 where
  unread : r ≡ opened.Unread → Opens r
  empty : r ≡ opened.Empty → Opens r
  shorter : r ≡ opened.Shorter → Opens r
  told : (fd : ℤ) (p : Pieces) → AllHeads p → r ≡ opened_by fd p → Opens r
