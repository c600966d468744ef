-- W1g, W1h, W1i. The walk from a place on, for any layout: what a chunk there adds to it. By one chunk of the walk.
-- Assumes nothing.
use mathlib.Core.Path.{◌≡◌, refl, ap, ◌∙◌}
use mathlib.Core.Bool.{Bool, true, false, true≢false, cond, ◌&&◌}
use mathlib.Core.List.{List, [], ◌∷◌, ◌++◌}
use Prim.Native.Nat.{ℕ, ◌+◌, ◌≤◌}
use native.Mathlib.Omega.{arith}
use borrow.Author.Tests.{le-ltb}
use lib.Dec.{eqb}
use Rattle.riff_chunks.specs.declared.Chunk.{Chunk}
use Rattle.riff_chunks.specs.declared.Sought.{Sought}
use Rattle.riff_chunks.specs.Chunks.{Placed, after, overruns, overrun, nowhere, spot_of, first}
use Rattle.riff_chunks.specs.Walk.{is_last, up_to, walked_from, seen_of, walk_from}
use Rattle.riff_chunks.proofs.Steps.{left_over, one_chunk}

and-false : (a : Bool) → a && false ≡ false
and-false true = refl
and-false false = refl

module _ (s : Sought) (chunk_of : ℕ → Chunk) (placed : Placed chunk_of) (end at : ℕ) (room : at + 8 ≤ end) where
  pub walked_one : walked_from s chunk_of end at
      ≡ chunk_of at ∷ cond (is_last s (chunk_of at)) [] (walked_from s chunk_of end (after (chunk_of at)))
  unfolding up_to
  walked_one = ap (up_to s) (one_chunk chunk_of end placed at room)

  -- W1g. A chunk that is neither of the two looked for, and does not run past the end, is skipped with its pad byte.
  pub skipped : eqb (chunk_of at).id s.format ≡ false → eqb (chunk_of at).id s.samples ≡ false
      → overruns end (chunk_of at) ≡ false → walk_from s chunk_of end at
      ≡ walk_from s chunk_of end (after (chunk_of at))
  unfolding overrun first
  skipped f n o = ap (seen_of s end) walked_one ∙ rw (o, f, n, and-false s.ends)

  -- W1h. The first chunk with an identifier counts, whatever follows.
  pub first-counts : (id : ℕ) → eqb (chunk_of at).id id ≡ true
      → first id (walked_from s chunk_of end at) ≡ spot_of (chunk_of at)
  unfolding first
  first-counts id f = ap (first id) walked_one ∙ rw f

  -- W1h. The walk by its first chunk. Together with `skipped` it makes what is seen of a file with known chunks a chain
  -- of equations, one for each chunk.
  pub format-there : eqb (chunk_of at).id s.format ≡ true → eqb (chunk_of at).id s.samples ≡ false
      → overruns end (chunk_of at) ≡ false
      → walk_from s chunk_of end at
      ≡ record {
        overruns = (walk_from s chunk_of end (after (chunk_of at))).overruns;
        format = spot_of (chunk_of at);
        samples = (walk_from s chunk_of end (after (chunk_of at))).samples;
      }
  unfolding overrun first
  format-there f n o = ap (seen_of s end) walked_one ∙ rw (o, f, n, and-false s.ends)

  pub samples-there : s.ends ≡ true → eqb (chunk_of at).id s.format ≡ false
      → eqb (chunk_of at).id s.samples ≡ true → overruns end (chunk_of at) ≡ false
      → walk_from s chunk_of end at ≡ record { overruns = false; format = nowhere; samples = spot_of (chunk_of at) }
  unfolding overrun first
  samples-there e f n o = ap (seen_of s end) walked_one ∙ rw (o, f, n, e)

  -- W1h. The walk ends with the first chunk that ends it.
  pub ends_there : is_last s (chunk_of at) ≡ true → walked_from s chunk_of end at ≡ chunk_of at ∷ []
  ends_there l = walked_one ∙ rw l

  -- W1i. A body that ends at the end fits, and its missing pad byte does not matter.
  pub pad-missing : (chunk_of at).body + (chunk_of at).size ≡ end
      → (walked_from s chunk_of end at ≡ chunk_of at ∷ []) × (overruns end (chunk_of at) ≡ false)
  unfolding up_to
  pad-missing e = (
    walked_one ∙ rw (left_over chunk_of end (after (chunk_of at)) (omega arith)) (by (is_last s (chunk_of at))),
    le-ltb end ((chunk_of at).body + (chunk_of at).size) (omega arith),
  )
    where
      by : (t : Bool) → chunk_of at ∷ cond t [] [] ≡ chunk_of at ∷ []
      by true = refl
      by false = refl

-- W1h. What stands behind the first chunk that ends the walk is not walked.
pub behind-last : (s : Sought) (cs : List Chunk) (c : Chunk) (ds : List Chunk) → is_last s c ≡ true
    → up_to s (cs ++ (c ∷ ds)) ≡ up_to s (cs ++ (c ∷ []))
unfolding up_to
behind-last s [] c ds l = rw l
behind-last s (d ∷ cs) c ds l = rw (behind-last s cs c ds l)

keep : (t u : Bool) (cs : List Chunk) → t ≡ false → cond (t && u) [] cs ≡ cs
keep true u cs e = absurd (true≢false e)
keep false u cs e = refl

pub all-walked : (s : Sought) → s.ends ≡ false → (cs : List Chunk) → up_to s cs ≡ cs
unfolding up_to
all-walked s e [] = refl
all-walked s e (c ∷ cs) =
    ap (λ (ds : List Chunk). c ∷ ds) (keep s.ends (eqb c.id s.samples) (up_to s cs) e ∙ all-walked s e cs)
