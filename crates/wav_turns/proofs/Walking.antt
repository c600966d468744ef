-- The walk step by step. As long as 8 bytes are left each step is one more chunk, and at the end it has seen what the
-- whole walk sees. By the laws of the steps of a walk in riff_chunks. Assumes nothing.
use mathlib.Core.Path.{◌≡◌, refl, ap, ◌∙◌}
use mathlib.Core.List.{List}
use Prim.Native.Nat.{ℕ, ◌+◌, ◌-◌, ◌≤◌, ◌<◌}
use native.Mathlib.Omega.{arith}
use borrow.Author.Tests.{le-leb, lt-leb}
use lib.ListN.{take, drop}
use lib.Seq.{take-take, drop-drop}
use Rattle.word_bytes.specs.Bytes.{bytes_value}
use Rattle.riff_chunks.specs.declared.Chunk.{Chunk}
use Rattle.riff_chunks.specs.declared.Walking.{Walking}
use Rattle.riff_chunks.specs.Chunks.{chunk_at}
use Rattle.riff_chunks.specs.Walk.{riff_sought, begun, turned, walk_to}
use Rattle.riff_chunks.proofs.Lent as lent
use Rattle.wav.proofs.Alike.{same-part}
use Rattle.wav_turns.specs.Turns.{chunk_by, turned_by, turns_of}

module _ (b : List ℕ) (end : ℕ) where
  abbrev riff : ℕ → Chunk
  riff = chunk_at bytes_value b

  -- The 8 bytes at a place are the head of the chunk there.
  head-is : (left : ℕ) → chunk_by end left (take 8 (drop (end - left) b)) ≡ riff (end - left)
  head-is left =
      let at = drop (end - left) b in
      let first : take 4 (drop 0 (take 8 at)) ≡ take 4 at =
      same-part 8 (take 8 at) at (take-take 8 8 at (omega arith)) 0 4 (omega arith) in
      let second : take 4 (drop 4 (take 8 at)) ≡ take 4 (drop (end - left + 4) b) =
      same-part 8 (take 8 at) at (take-take 8 8 at (omega arith)) 4 4 (omega arith)
      ∙ ap (take 4) (drop-drop 4 (end - left) b) in
      rw (first, second)

  next : (w : Walking) → 8 ≤ w.left → w.left ≤ end
      → turned_by w end (take 8 (drop (end - w.left) b)) ≡ turned riff_sought w (riff (end - w.left))
  next w l h = simp (le-leb 8 w.left l, le-leb w.left end h) (ap (turned riff_sought w) (head-is w.left))

  over : (w : Walking) → w.left < 8 → turned_by w end (take 8 (drop (end - w.left) b)) ≡ w
  over w l = simp (lt-leb 8 w.left l)

  pub walks : (turns_of b end end (begun end)).seen ≡ walk_to riff_sought riff end
  walks = lent.walks riff_sought riff (λ at. refl) end _ next over
