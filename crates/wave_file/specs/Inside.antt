-- The answers of the functions inside the crate, from the first reading on. Definitions only.
use Rattle.std.specs.Prelude.{ℕ, ◌<◌, ◌≤◌, ◌≡◌, List, ℤ}
use Rattle.riff_chunks.specs.declared.Walked.{Walked}
use Rattle.riff_chunks.specs.declared.Walking.{Walking}
use Rattle.file_layout.specs.declared.Layout.{Layout}
use Rattle.file_turns.specs.Turns.{turned_in, finished_in, told_by}
use Rattle.wave_file.specs.declared.Opened.{Opened}
use Rattle.wave_file.specs.declared.Opened.TheVariants as opened
use Rattle.wave_file.specs.declared.header.Turned.{Turned}
use Rattle.wave_file.specs.declared.header.Turned.TheVariants as turns
use Rattle.wave_file.specs.declared.header.Walk.{Walk}
use Rattle.wave_file.specs.declared.header.Walk.TheVariants as walks
use Rattle.wave_file.specs.Opening.{opened_as, walked_by}

-- The answers to a reading that failed.
pub data Breaks (r : Opened) : Type 0 where
  unread : r ≡ opened.Unread → Breaks r
  shorter : r ≡ opened.Shorter → Breaks r

-- One step of the walk, whose head lies before the end, or a reading that failed.
pub data Turns (layout : Layout) (opening : List ℕ) (end : ℕ) (w : Walking) (r : Turned) : Type 0 where
  turned : (head : List ℕ) → w.left ≤ end → r ≡ turns.Walking (turned_in layout opening w end head)
      → Turns layout opening end w r
  broken : (n : ℕ) → r ≡ turns.Broken n → Turns layout opening end w r

-- A walk that reached its end, or a reading that failed.
pub data Walks (layout : Layout) (opening : List ℕ) (end : ℕ) (r : Walk) : Type 0 where
  done : (heads : List (List ℕ)) → (walked_by layout opening end heads).left < 8
      → r ≡ walks.Done (walked_by layout opening end heads).seen → Walks layout opening end r
  broken : (n : ℕ) → r ≡ walks.Broken n → Walks layout opening end r

-- The answers to the readings behind the walk.
pub data Finds (layout : Layout) (end : ℕ) (w : Walked) (r : Opened) : Type 0 where
  broke : Breaks r → Finds layout end w r
  told : (fd : ℤ) (format samples : List ℕ)
      → r ≡ opened_as fd layout (told_by layout format) (finished_in layout w end format samples)
      → Finds layout end w r
