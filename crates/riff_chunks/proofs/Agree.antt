-- W1d, W1j. A walk looks at nothing behind its end, and at nothing behind the chunk that ends it: two layouts whose
-- chunks are the same at the places before that are walked alike. By induction over the chunks. Assumes nothing.
use mathlib.Core.Path.{◌≡◌, refl, sym, ap, ◌∙◌}
use mathlib.Core.Bool.{Bool, true, false, true≢false, cond}
use mathlib.Core.List.{List, [], ◌∷◌}
use Prim.Native.Nat.{ℕ, zero, suc, ◌+◌, ◌≤◌}
use native.Mathlib.Omega.{arith}
use borrow.Author.Tests.{leb-true}
use lib.Dec.{eqb, leb}
use Rattle.riff_chunks.specs.declared.Chunk.{Chunk}
use Rattle.riff_chunks.specs.declared.Sought.{Sought}
use Rattle.riff_chunks.specs.Chunks.{Placed, after, chunks_from, chunks, spot_of, first}
use Rattle.riff_chunks.specs.Walk.{is_last, up_to, walked_from, walk_from}
use Rattle.riff_chunks.proofs.Found.{behind}

-- The chunks are the same wherever a header ends before a limit.
abbrev pub Alike : (ℕ → Chunk) → (ℕ → Chunk) → ℕ → Type 0
Alike f g limit = (at : ℕ) → at + 8 ≤ limit → f at ≡ g at

module _ (f g : ℕ → Chunk) (end : ℕ) where
  same_from : Alike f g end → (most : ℕ) (more : Bool) (at : ℕ) → (more ≡ true → at + 8 ≤ end)
      → chunks_from f most more end at ≡ chunks_from g most more end at
  unfolding chunks_from
  same_from a zero more at h = refl
  same_from a (suc most) false at h = refl
  same_from a (suc most) true at h =
      ap (λ (cs : List Chunk). f at ∷ cs)
      (same_from a most (leb (after (f at) + 8) end) (after (f at)) (leb-true (after (f at) + 8) end))
      ∙ rw (a at (h refl))

  -- W1j. The end bounds the walk.
  pub same-chunks : Alike f g end → (at : ℕ) → chunks f end at ≡ chunks g end at
  same-chunks a at = same_from a end (leb (at + 8) end) at (leb-true (at + 8) end)

  -- W1d. The chunk that ends the walk bounds it too.
  module _ (s : Sought) (ends : s.ends ≡ true) (placed : Placed f) (limit : ℕ) (alike : Alike f g limit) where
    same_by : (most : ℕ) (more : Bool) (at : ℕ)
        → (first s.samples (up_to s (chunks_from f most more end at))).found ≡ true
        → (first s.samples (up_to s (chunks_from f most more end at))).body ≤ limit
        → up_to s (chunks_from f most more end at) ≡ up_to s (chunks_from g most more end at)
    unfolding chunks_from up_to first
    same_by zero more at p q = refl
    same_by (suc most) false at p q = refl
    same_by (suc most) true at p q =
        let reached = behind s f placed end s.samples (suc most) true at p in
        let alike-here : f at ≡ g at = alike at (omega arith) in
        ap (λ (ds : List Chunk). c ∷ ds)
        (by (eqb c.id s.samples) (is_last s c) (rw ends) p q
        (same_by most (leb (after c + 8) end) (after c)))
        ∙ rw alike-here
      where
        c : Chunk
        c = f at

        rest : (ℕ → Chunk) → List Chunk
        rest h = up_to s (chunks_from h most (leb (after c + 8) end) end (after c))

        by : (t l : Bool) → l ≡ t → (cond t (spot_of c) (first s.samples (cond l [] (rest f)))).found ≡ true
            → (cond t (spot_of c) (first s.samples (cond l [] (rest f)))).body ≤ limit
            → ((first s.samples (rest f)).found ≡ true → (first s.samples (rest f)).body ≤ limit → rest f ≡ rest g)
            → cond l [] (rest f) ≡ cond l [] (rest g)
        by t true e p q h = refl
        by true false e p q h = absurd (true≢false (sym e))
        by false false e p q h = h p q

    pub same-up-to : (at : ℕ) → (walk_from s f end at).samples.found ≡ true
        → (walk_from s f end at).samples.body ≤ limit
        → walked_from s f end at ≡ walked_from s g end at
    same-up-to at p q = same_by end (leb (at + 8) end) at p q
