-- W10b. Which heads of a walk are there. Two layouts whose chunks are the same there are walked alike if none is
-- missing; none is missing up to the samples if their head is there, and none at all if the walk's end is. By induction
-- over the chunks. Assumes nothing.
use mathlib.Core.Path.{◌≡◌, refl, sym, ap, ◌∙◌}
use mathlib.Core.Bool.{Bool, true, false, true≢false, cond}
use mathlib.Core.List.{List, [], ◌∷◌}
use Prim.Native.Nat.{ℕ, zero, suc, ◌+◌, ◌≤◌}
use native.Mathlib.Omega.{arith}
use borrow.Author.Tests.{leb-true, leb-false, le-leb}
use lib.Dec.{eqb, leb}
use Rattle.riff_chunks.specs.declared.Chunk.{Chunk}
use Rattle.riff_chunks.specs.declared.Sought.{Sought}
use Rattle.riff_chunks.specs.Chunks.{Placed, after, chunks_from, spot_of, first}
use Rattle.riff_chunks.specs.Walk.{is_last, up_to, walked_from, walk_from}
use Rattle.riff_chunks.proofs.Agree.{Alike}
use Rattle.riff_chunks.proofs.Found.{behind}
use Rattle.long_wav.specs.Reading.{missing}

-- None is missing exactly if the first is there and none of the others is missing.
here : (n : ℕ) (c : Chunk) (cs : List Chunk) → missing n (c ∷ cs) ≡ 0 → (c.body ≤ n) × (missing n cs ≡ 0)
unfolding missing
here n c cs z = by (leb c.body n) refl z
  where
    by : (t : Bool) → leb c.body n ≡ t → cond t (missing n cs) c.body ≡ 0 → (c.body ≤ n) × (missing n cs ≡ 0)
    by true e z = (leb-true c.body n e, z)
    by false e z = absurd (omega (arith, leb-false c.body n e, z))

there : (n : ℕ) (c : Chunk) (cs : List Chunk) → c.body ≤ n → missing n cs ≡ 0 → missing n (c ∷ cs) ≡ 0
unfolding missing
there n c cs h z = rw (le-leb c.body n h) z

none : (n : ℕ) → missing n [] ≡ 0
unfolding missing
none n = refl

pub more-at-hand : (n m : ℕ) (cs : List Chunk) → n ≤ m → missing n cs ≡ 0 → missing m cs ≡ 0
more-at-hand n m [] h z = none m
more-at-hand n m (c ∷ cs) h z =
    let a = here n c cs z in
    there m c cs (omega (arith, a.0)) (more-at-hand n m cs h a.1)

pub found-at-hand : (n id : ℕ) (cs : List Chunk) → missing n cs ≡ 0 → (first id cs).found ≡ true
    → (first id cs).body ≤ n
unfolding first
found-at-hand n id [] z f = absurd (true≢false (sym f))
found-at-hand n id (c ∷ cs) z f = let a = here n c cs z in by (eqb c.id id) f a.0 (found-at-hand n id cs a.1)
  where
    by : (t : Bool) → (cond t (spot_of c) (first id cs)).found ≡ true → c.body ≤ n
        → ((first id cs).found ≡ true → (first id cs).body ≤ n) → (cond t (spot_of c) (first id cs)).body ≤ n
    by true f a h = a
    by false f a h = h f

module _ (s : Sought) (f : ℕ → Chunk) (placed : Placed f) (end n : ℕ) where
  -- Two layouts that are alike.
  module _ (g : ℕ → Chunk) (alike : Alike f g n) where
    same_from : (most : ℕ) (more : Bool) (at : ℕ) → missing n (up_to s (chunks_from f most more end at)) ≡ 0
        → up_to s (chunks_from f most more end at) ≡ up_to s (chunks_from g most more end at)
    unfolding chunks_from up_to
    same_from zero more at z = refl
    same_from (suc most) false at z = refl
    same_from (suc most) true at z =
        let a = here n (f at) _ z in
        let e : f at ≡ g at = alike at (omega (arith, placed at, a.0)) in
        ap (λ (cs : List Chunk). f at ∷ cs)
        (by (is_last s (f at)) a.1 (same_from most (leb (after (f at) + 8) end) (after (f at)))) ∙ rw e
      where
        rest : (ℕ → Chunk) → List Chunk
        rest h = up_to s (chunks_from h most (leb (after (f at) + 8) end) end (after (f at)))

        by : (t : Bool) → missing n (cond t [] (rest f)) ≡ 0 → (missing n (rest f) ≡ 0 → rest f ≡ rest g)
            → cond t [] (rest f) ≡ cond t [] (rest g)
        by true z h = refl
        by false z h = h z

    pub same-at-hand : (at : ℕ) → missing n (walked_from s f end at) ≡ 0 → walked_from s f end at
        ≡ walked_from s g end at
    same-at-hand at z = same_from end (leb (at + 8) end) at z

  -- The heads up to the samples.
  up-to : s.ends ≡ true → (most : ℕ) (more : Bool) (at : ℕ)
      → (first s.samples (up_to s (chunks_from f most more end at))).found ≡ true
      → (first s.samples (up_to s (chunks_from f most more end at))).body ≤ n
      → missing n (up_to s (chunks_from f most more end at)) ≡ 0
  unfolding chunks_from up_to first
  up-to ends zero more at p q = none n
  up-to ends (suc most) false at p q = none n
  up-to ends (suc most) true at p q =
      let reached = behind s f placed end s.samples (suc most) true at p in
      there n c _ (omega (arith, placed at, reached, q))
      (by (eqb c.id s.samples) (is_last s c) (rw ends) p q (up-to ends most (leb (after c + 8) end) (after c)))
    where
      c : Chunk
      c = f at

      rest : List Chunk
      rest = up_to s (chunks_from f most (leb (after c + 8) end) end (after c))

      by : (t l : Bool) → l ≡ t → (cond t (spot_of c) (first s.samples (cond l [] rest))).found ≡ true
          → (cond t (spot_of c) (first s.samples (cond l [] rest))).body ≤ n
          → ((first s.samples rest).found ≡ true → (first s.samples rest).body ≤ n → missing n rest ≡ 0)
          → missing n (cond l [] rest) ≡ 0
      by t true e p q h = none n
      by true false e p q h = absurd (true≢false (sym e))
      by false false e p q h = h p q

  pub up-to-samples : s.ends ≡ true → (at : ℕ) → (walk_from s f end at).samples.found ≡ true
      → (walk_from s f end at).samples.body ≤ n → missing n (walked_from s f end at) ≡ 0
  up-to-samples ends at p q = up-to ends end (leb (at + 8) end) at p q

  -- The heads up to the end.
  to_end : end ≤ n → (most : ℕ) (more : Bool) (at : ℕ) → (more ≡ true → at + 8 ≤ end)
      → missing n (up_to s (chunks_from f most more end at)) ≡ 0
  unfolding chunks_from up_to
  to_end e zero more at h = none n
  to_end e (suc most) false at h = none n
  to_end e (suc most) true at h =
      there n c _ (omega (arith, placed at, h refl))
      (by (is_last s c) (to_end e most (leb (after c + 8) end) (after c) (leb-true (after c + 8) end)))
    where
      c : Chunk
      c = f at

      rest : List Chunk
      rest = up_to s (chunks_from f most (leb (after c + 8) end) end (after c))

      by : (t : Bool) → missing n rest ≡ 0 → missing n (cond t [] rest) ≡ 0
      by true h = none n
      by false h = h

  pub to_the_end : end ≤ n → (at : ℕ) → missing n (walked_from s f end at) ≡ 0
  to_the_end e at = to_end e end (leb (at + 8) end) at (leb-true (at + 8) end)
