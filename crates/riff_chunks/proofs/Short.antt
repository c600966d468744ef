-- W1. A walk is never longer than the file, whatever end is requested: each chunk takes at least 8 bytes behind the
-- first 12, and an end beyond the file is replaced by the file's. Assumes nothing.
use mathlib.Core.Path.{◌≡◌, refl}
use mathlib.Core.Bool.{Bool, true, false, cond}
use mathlib.Core.List.{List, [], ◌∷◌}
use Prim.Native.Nat.{ℕ, zero, suc, ◌+◌, ◌-◌, ◌*◌, ◌≤◌}
use native.Mathlib.Omega.{arith}
use borrow.Author.Tests.{leb-true}
use lib.Dec.{leb}
use lib.ListN.{length}
use Rattle.riff_chunks.specs.declared.Chunk.{Chunk}
use Rattle.riff_chunks.specs.declared.Sought.{Sought}
use Rattle.riff_chunks.specs.Chunks.{Placed, after, chunks_from, chunks}
use Rattle.riff_chunks.specs.Walk.{is_last, up_to, walked_from, end_in}

-- The chunks from a place on share the bytes between it and the end, with at least 8 for each.
shared : (chunk_of : ℕ → Chunk) → Placed chunk_of → (end most : ℕ) (more : Bool) (at : ℕ) → (more ≡ true → at + 8 ≤ end)
    → 8 * length (chunks_from chunk_of most more end at) ≤ end - at
unfolding chunks_from
shared chunk_of placed end zero more at h = omega arith
shared chunk_of placed end (suc most) false at h = omega arith
shared chunk_of placed end (suc most) true at h =
    let c = chunk_of at in
    let body = placed at in
    let room : at + 8 ≤ end = h refl in
    omega (arith, shared chunk_of placed end most (leb (after c + 8) end) (after c) (leb-true (after c + 8) end))

no_more : (s : Sought) (cs : List Chunk) → length (up_to s cs) ≤ length cs
unfolding up_to
no_more s [] = omega arith
no_more s (c ∷ cs) = by (is_last s c) (no_more s cs)
  where
    by : (t : Bool) → length (up_to s cs) ≤ length cs → suc (length (cond t [] (up_to s cs))) ≤ suc (length cs)
    by true h = omega arith
    by false h = omega arith

pub never-longer : (s : Sought) (chunk_of : ℕ → Chunk) → Placed chunk_of → (b : List ℕ) (end : ℕ)
    → 8 * length (walked_from s chunk_of (end_in b end) 12) ≤ length b - 12
never-longer s chunk_of placed b end =
    let e = end_in b end in
    let cs = chunks chunk_of e 12 in
    omega (arith, no_more s cs, shared chunk_of placed e e (leb (12 + 8) e) 12 (leb-true (12 + 8) e))
