-- A walk whose chunks are lent one after the other, for any layout. If each step is the chunk at its place, and there
-- is none when fewer than 8 bytes are left, it has seen at the end what the whole walk sees. By the laws of the steps
-- of a walk. Assumes nothing.
use mathlib.Core.Path.{◌≡◌, refl, ap, ◌∙◌}
use mathlib.Core.Bool.{Bool, true, false}
use Prim.Native.Nat.{ℕ, zero, suc, ◌-◌, ◌≤◌, ◌<◌}
use native.Mathlib.Omega.{arith}
use borrow.Author.Tests.{leb-true, leb-false}
use lib.Dec.{leb}
use Rattle.riff_chunks.specs.declared.Chunk.{Chunk}
use Rattle.riff_chunks.specs.declared.Sought.{Sought}
use Rattle.riff_chunks.specs.declared.Walking.{Walking}
use Rattle.riff_chunks.specs.Chunks.{Placed}
use Rattle.riff_chunks.specs.Walk.{begun, turned, turns_by, walk_to}
use Rattle.riff_chunks.proofs.ByTurns.{On, fewer, on-begun, on-turned, on-ended}

module _ (s : Sought) (chunk_of : ℕ → Chunk) (placed : Placed chunk_of) (end : ℕ) (step : Walking → Walking)
    (next : (w : Walking) → 8 ≤ w.left → w.left ≤ end → step w ≡ turned s w (chunk_of (end - w.left)))
    (still : (w : Walking) → w.left < 8 → step w ≡ w) where
  over : (n : ℕ) (w : Walking) → w.left < 8 → turns_by step n w ≡ w
  unfolding turns_by
  over zero w l = refl
  over (suc n) w l = ap (turns_by step n) (still w l) ∙ over n w l

  sees-all : (n : ℕ) (w : Walking) → w.left ≤ n → On s chunk_of end w
      → (turns_by step n w).seen ≡ walk_to s chunk_of end
  unfolding turns_by
  sees-all zero w l on = on-ended s chunk_of placed end w (omega arith) on
  sees-all (suc n) w l on = by (leb 8 w.left) refl (sees-all n (step w))
    where
      by : (t : Bool) → leb 8 w.left ≡ t
          → ((step w).left ≤ n → On s chunk_of end (step w) → (turns_by step n (step w)).seen ≡ walk_to s chunk_of end)
          → (turns_by step n (step w)).seen ≡ walk_to s chunk_of end
      by true e rest =
          let some = leb-true 8 w.left e in
          let is : step w ≡ turned s w (chunk_of (end - w.left)) = next w some on.inside in
          rest (rw is (omega (arith, fewer s w (chunk_of (end - w.left)) some)))
          (rw is (on-turned s chunk_of placed end w (chunk_of (end - w.left)) some refl on))
      by false e rest =
          let few = leb-false 8 w.left e in
          ap (λ (u : Walking). u.seen) (over (suc n) w few) ∙ on-ended s chunk_of placed end w few on

  pub walks : (turns_by step end (begun end)).seen ≡ walk_to s chunk_of end
  walks = sees-all end (begun end) (omega arith) (on-begun s chunk_of placed end)
