-- The rest of a walk when some bytes are left before its end, for any layout: the chunk at that place, and the rest
-- behind it. Assumes nothing.
use mathlib.Core.Path.{◌≡◌, refl, sym, ap, ◌∙◌}
use mathlib.Core.Bool.{Bool, true, false, cond}
use mathlib.Core.List.{List, [], ◌∷◌}
use Prim.Native.Nat.{ℕ, ◌+◌, ◌-◌, ◌%◌, ◌≤◌, ◌<◌}
use native.Mathlib.Omega.{arith}
use borrow.Author.Tests.{lt-ltb, le-ltb, leb-true, leb-false, ltb-true, ltb-false}
use lib.Dec.{leb, ltb}
use Rattle.riff_chunks.specs.declared.Chunk.{Chunk}
use Rattle.riff_chunks.specs.declared.Sought.{Sought}
use Rattle.riff_chunks.specs.Chunks.{Placed, after, chunks, overruns}
use Rattle.riff_chunks.specs.Walk.{is_last, up_to, walked_from, left_after}
use Rattle.riff_chunks.proofs.Steps.{left_over, one_chunk}

-- The rest of the walk when `left` bytes are left before the end.
abbrev pub rest : Sought → (ℕ → Chunk) → ℕ → ℕ → List Chunk
rest s chunk_of end left = walked_from s chunk_of end (end - left)

module _ (s : Sought) (chunk_of : ℕ → Chunk) (placed : Placed chunk_of) (end : ℕ) where
  pub none_left : (left : ℕ) → left < 8 → rest s chunk_of end left ≡ []
  unfolding up_to
  none_left left h = ap (up_to s) (left_over chunk_of end (end - left) (omega arith))

  -- The chunk at the place, and what `left_after` leaves.
  pub next : (left : ℕ) → 8 ≤ left → left ≤ end
      → rest s chunk_of end left
      ≡ chunk_of (end - left) ∷ rest s chunk_of end (left_after s (chunk_of (end - left)) (left - 8))
  unfolding up_to
  next left h l =
      ap (up_to s) (one_chunk chunk_of end placed (end - left) (omega arith))
      ∙ ap (λ (cs : List Chunk). chunk_of (end - left) ∷ cs) (by (is_last s c) (ltb (left - 8) c.size) refl)
    where
      c : Chunk
      c = chunk_of (end - left)

      at : c.body ≡ end - left + 8
      at = placed (end - left)

      taken : ℕ
      taken = c.size + c.size % 2

      -- What follows a chunk that fits, whether its pad byte is there or not.
      behind : (u : Bool) → leb taken (left - 8) ≡ u → c.size ≤ left - 8
          → chunks chunk_of end (after c) ≡ chunks chunk_of end (end - (left - 8 - taken))
      behind true e f =
          let a = at in
          let p : after c ≡ end - (left - 8 - taken) = omega (arith, leb-true taken (left - 8) e) in
          ap (chunks chunk_of end) p
      behind false e f =
          let a = at in
          left_over chunk_of end (after c) (omega (arith, leb-false taken (left - 8) e))
          ∙ sym (left_over chunk_of end _ (omega (arith, leb-false taken (left - 8) e)))

      by : (t u : Bool) → ltb (left - 8) c.size ≡ u
          → cond t [] (up_to s (chunks chunk_of end (after c)))
          ≡ rest s chunk_of end (cond t 0 (cond u 0 (left - 8 - taken)))
      by true u e = sym (none_left 0 (omega arith))
      by false true e =
          let a = at in
          ap (up_to s) (left_over chunk_of end (after c) (omega (arith, ltb-true (left - 8) c.size e)))
          ∙ sym (none_left 0 (omega arith))
      by false false e =
          ap (up_to s) (behind (leb taken (left - 8)) refl (omega (arith, ltb-false (left - 8) c.size e)))

  -- A body that runs past the end is larger than the room before it.
  pub past_room : (left : ℕ) → 8 ≤ left → left ≤ end
      → overruns end (chunk_of (end - left)) ≡ ltb (left - 8) (chunk_of (end - left)).size
  past_room left h l = by (ltb (left - 8) c.size) refl
    where
      c : Chunk
      c = chunk_of (end - left)

      by : (t : Bool) → ltb (left - 8) c.size ≡ t → overruns end c ≡ t
      by true e = let a = placed (end - left) in lt-ltb end _ (omega (arith, ltb-true (left - 8) c.size e))
      by false e = let a = placed (end - left) in le-ltb end _ (omega (arith, ltb-false (left - 8) c.size e))

  -- Before the first chunk 12 bytes have been passed.
  pub at-start : walked_from s chunk_of end 12 ≡ rest s chunk_of end (end - 12)
  at-start = by (leb 12 end) refl
    where
      by : (t : Bool) → leb 12 end ≡ t → walked_from s chunk_of end 12 ≡ rest s chunk_of end (end - 12)
      by true e =
          let p : 12 ≡ end - (end - 12) = omega (arith, leb-true 12 end e) in
          ap (walked_from s chunk_of end) p
      by false e =
          ap (up_to s)
          (left_over chunk_of end 12 (omega (arith, leb-false 12 end e))
          ∙ sym (left_over chunk_of end (end - (end - 12)) (omega (arith, leb-false 12 end e))))
