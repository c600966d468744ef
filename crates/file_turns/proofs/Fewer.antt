-- In any layout fewer bytes are left after each step, so a walk ends. Assumes nothing.
use mathlib.Core.Bool.{Bool, true, false, cond}
use mathlib.Core.List.{List}
use Prim.Native.Nat.{ℕ, ◌≤◌, ◌<◌}
use borrow.Author.Tests.{le-leb}
use Rattle.riff_chunks.specs.declared.Walking.{Walking}
use Rattle.riff_chunks.specs.Walk.{riff_sought}
use Rattle.riff_chunks.proofs.ByTurns.{fewer}
use Rattle.form_chunks.specs.Form.{form_sought}
use Rattle.long_turns.specs.Turns as long
use Rattle.aiff_turns.specs.Turns as aiff
use Rattle.file_layout.specs.declared.Layout.{Layout}
use Rattle.file_layout.specs.Layouts.{is_aiff}
use Rattle.file_turns.specs.Turns.{turned_in}

module _ (b : List ℕ) (w : Walking) (end : ℕ) (head : List ℕ) (some : 8 ≤ w.left) (inside : w.left ≤ end) where
  pub fewer-left : (layout : Layout) → (turned_in layout b w end head).left < w.left
  fewer-left layout = by (is_aiff layout)
    where
      by : (t : Bool) → (cond t (aiff.turned_by w end head) (long.turned_by b w end head)).left < w.left
      by true =
          rw (le-leb 8 w.left some, le-leb w.left end inside)
          (fewer form_sought w (aiff.chunk_by end w.left head) some)
      by false =
          rw (le-leb 8 w.left some, le-leb w.left end inside)
          (fewer riff_sought w (long.chunk_by b end w.left head) some)
