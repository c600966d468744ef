-- The chunks from a place on are the chunk there and those behind it; there are none if fewer than 8 bytes are left. A
-- bound on their number that is large enough changes nothing. Assumes nothing.
use mathlib.Core.Path.{◌≡◌, refl, sym, ap}
use mathlib.Core.Bool.{Bool, true, false}
use mathlib.Core.List.{List, [], ◌∷◌}
use Prim.Native.Nat.{ℕ, zero, suc, ◌+◌, ◌≤◌, ◌<◌}
use native.Mathlib.Omega.{arith}
use borrow.Author.Tests.{le-leb, lt-leb}
use lib.Dec.{leb}
use Rattle.riff_chunks.specs.declared.Chunk.{Chunk}
use Rattle.riff_chunks.specs.Chunks.{Placed, after, chunks_from, chunks}

module _ (chunk_of : ℕ → Chunk) (end : ℕ) where
  abbrev pub from : ℕ → ℕ → List Chunk
  from most at = chunks_from chunk_of most (leb (at + 8) end) end at

  past-any : (f at : ℕ) → end < at + 8 → from f at ≡ []
  unfolding chunks_from
  past-any zero at h = refl
  past-any (suc f) at h = rw (lt-leb (at + 8) end h)

  -- W1i. Fewer than 8 bytes at the end are not a chunk.
  pub left_over : (at : ℕ) → end < at + 8 → chunks chunk_of end at ≡ []
  left_over at h = past-any end at h

  module _ (placed : Placed chunk_of) where
    enough : (f g at : ℕ) → end ≤ at + f → end ≤ at + g → from f at ≡ from g at
    unfolding chunks_from
    enough zero g at p q = sym (past-any g at (omega arith))
    enough (suc f) zero at p q = past-any (suc f) at (omega arith)
    enough (suc f) (suc g) at p q =
        let b = placed at in
        by (leb (at + 8) end) (enough f g (after (chunk_of at)) (omega arith) (omega arith))
      where
        by : (t : Bool) → from f (after (chunk_of at)) ≡ from g (after (chunk_of at))
            → chunks_from chunk_of (suc f) t end at ≡ chunks_from chunk_of (suc g) t end at
        by false e = refl
        by true e = ap (λ (cs : List Chunk). chunk_of at ∷ cs) e

    -- From a place with 8 bytes left, for any bound that is large enough.
    unroll : (f at : ℕ) → at + 8 ≤ end → end ≤ at + f → from f at ≡ chunk_of at ∷ from f (after (chunk_of at))
    unfolding chunks_from
    unroll zero at h p = absurd (omega arith)
    unroll (suc f) at h p =
        let b = placed at in
        rw (le-leb (at + 8) end h)
        (ap (λ (cs : List Chunk). chunk_of at ∷ cs)
        (enough f (suc f) (after (chunk_of at)) (omega arith) (omega arith)))

    pub one_chunk : (at : ℕ) → at + 8 ≤ end
        → chunks chunk_of end at ≡ chunk_of at ∷ chunks chunk_of end (after (chunk_of at))
    one_chunk at h = unroll end at h (omega arith)
