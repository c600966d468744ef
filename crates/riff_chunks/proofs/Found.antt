-- W1b, W1d. Where the chunks that a walk found stand: not before the place where it started, inside the end if none
-- runs past it, and the format before the samples if these end the walk. By induction over the chunks. Assumes nothing.
use mathlib.Core.Path.{◌≡◌, refl, sym}
use mathlib.Core.Bool.{Bool, true, false, true≢false, cond, ◌||◌}
use mathlib.Core.List.{List, [], ◌∷◌}
use Prim.Native.Nat.{ℕ, zero, suc, ◌+◌, ◌≤◌}
use native.Mathlib.Omega.{arith}
use borrow.Author.Tests.{ltb-false, eqb-true, eqb-false}
use lib.Dec.{eqb, leb}
use Rattle.riff_chunks.specs.declared.Chunk.{Chunk}
use Rattle.riff_chunks.specs.declared.Sought.{Sought}
use Rattle.riff_chunks.specs.Chunks.{Placed, after, chunks_from, overruns, overrun, spot_of, first}
use Rattle.riff_chunks.specs.Walk.{is_last, up_to}

neither : (a b : Bool) → a || b ≡ false → (a ≡ false) × (b ≡ false)
neither true b h = absurd (true≢false h)
neither false b h = (refl, h)

-- If no chunk runs past the end, one that is found lies before it.
pub fits : (end id : ℕ) (cs : List Chunk) → overrun end cs ≡ false → (first id cs).found ≡ true
    → (first id cs).body + (first id cs).size ≤ end
unfolding overrun first
fits end id [] o f = absurd (true≢false (sym f))
fits end id (c ∷ cs) o f =
    let n = neither (overruns end c) (overrun end cs) o in
    by (eqb c.id id) n.0 (fits end id cs n.1) f
  where
    by : (t : Bool) → overruns end c ≡ false
        → ((first id cs).found ≡ true → (first id cs).body + (first id cs).size ≤ end)
        → (cond t (spot_of c) (first id cs)).found ≡ true
        → (cond t (spot_of c) (first id cs)).body + (cond t (spot_of c) (first id cs)).size ≤ end
    by true e h f = ltb-false end (c.body + c.size) e
    by false e h f = h f

module _ (s : Sought) (chunk_of : ℕ → Chunk) (placed : Placed chunk_of) (end : ℕ) where
  abbrev pub walk : ℕ → Bool → ℕ → List Chunk
  walk most more at = up_to s (chunks_from chunk_of most more end at)

  -- A walk from a place on finds nothing before it.
  pub behind : (id most : ℕ) (more : Bool) (at : ℕ) → (first id (walk most more at)).found ≡ true
      → at + 8 ≤ (first id (walk most more at)).body
  unfolding chunks_from up_to first
  behind id zero more at f = absurd (true≢false (sym f))
  behind id (suc most) false at f = absurd (true≢false (sym f))
  behind id (suc most) true at f =
      by (eqb (chunk_of at).id id) (is_last s (chunk_of at)) f
      (behind id most (leb (after (chunk_of at) + 8) end) (after (chunk_of at)))
    where
      c : Chunk
      c = chunk_of at

      cs : List Chunk
      cs = walk most (leb (after c + 8) end) (after c)

      by : (t u : Bool) → (cond t (spot_of c) (first id (cond u [] cs))).found ≡ true
          → ((first id cs).found ≡ true → after c + 8 ≤ (first id cs).body)
          → at + 8 ≤ (cond t (spot_of c) (first id (cond u [] cs))).body
      by true u f h = let p = placed at in omega arith
      by false true f h = absurd (true≢false (sym f))
      by false false f h = let p = placed at in omega (arith, h f)

  -- If the samples end the walk, the format stands before them.
  pub in_order : s.ends ≡ true → eqb s.format s.samples ≡ false → (most : ℕ) (more : Bool) (at : ℕ)
      → (first s.format (walk most more at)).found ≡ true → (first s.samples (walk most more at)).found ≡ true
      → (first s.format (walk most more at)).body + (first s.format (walk most more at)).size
      ≤ (first s.samples (walk most more at)).body
  unfolding chunks_from up_to first
  in_order e d zero more at f g = absurd (true≢false (sym f))
  in_order e d (suc most) false at f g = absurd (true≢false (sym f))
  in_order e d (suc most) true at f g =
      by (eqb c.id s.format) (eqb c.id s.samples) (is_last s c) (rw e) apart f g
      (behind s.samples most (leb (after c + 8) end) (after c))
      (in_order e d most (leb (after c + 8) end) (after c))
    where
      c : Chunk
      c = chunk_of at

      cs : List Chunk
      cs = walk most (leb (after c + 8) end) (after c)

      apart : eqb c.id s.format ≡ true → eqb c.id s.samples ≡ true → ⊥
      apart p q =
          let a = eqb-true c.id s.format p in
          let b = eqb-true c.id s.samples q in
          eqb-false s.format s.samples d (omega arith)

      by : (t u l : Bool) → l ≡ u → (t ≡ true → u ≡ true → ⊥)
          → (cond t (spot_of c) (first s.format (cond l [] cs))).found ≡ true
          → (cond u (spot_of c) (first s.samples (cond l [] cs))).found ≡ true
          → ((first s.samples cs).found ≡ true → after c + 8 ≤ (first s.samples cs).body)
          → ((first s.format cs).found ≡ true → (first s.samples cs).found ≡ true
          → (first s.format cs).body + (first s.format cs).size ≤ (first s.samples cs).body)
          → (cond t (spot_of c) (first s.format (cond l [] cs))).body
          + (cond t (spot_of c) (first s.format (cond l [] cs))).size
          ≤ (cond u (spot_of c) (first s.samples (cond l [] cs))).body
      by true true l p a f g h k = absurd (a refl refl)
      by true false true p a f g h k = absurd (true≢false p)
      by true false false p a f g h k = omega (arith, h g)
      by false true true p a f g h k = absurd (true≢false (sym f))
      by false true false p a f g h k = absurd (true≢false (sym p))
      by false false true p a f g h k = absurd (true≢false p)
      by false false false p a f g h k = k f g
