-- W12b. If no chunk runs past the end, what was found for an identifier lies before it, whether a chunk was found or
-- not. Assumes nothing.
use mathlib.Core.Path.{◌≡◌, refl}
use mathlib.Core.Bool.{Bool, true, false, true≢false, cond}
use mathlib.Core.List.{List, [], ◌∷◌}
use Prim.Native.Nat.{ℕ, ◌+◌, ◌≤◌}
use native.Mathlib.Omega.{arith}
use lib.Dec.{eqb}
use Rattle.riff_chunks.specs.declared.Chunk.{Chunk}
use Rattle.riff_chunks.specs.Chunks.{overrun, nowhere, spot_of, first}
use Rattle.riff_chunks.proofs.Found.{fits}

unfound : (id : ℕ) (cs : List Chunk) → (first id cs).found ≡ false → first id cs ≡ nowhere
unfolding first
unfound id [] f = refl
unfound id (c ∷ cs) f = by (eqb c.id id) f (unfound id cs)
  where
    by : (t : Bool) → (cond t (spot_of c) (first id cs)).found ≡ false
        → ((first id cs).found ≡ false → first id cs ≡ nowhere) → cond t (spot_of c) (first id cs) ≡ nowhere
    by true f h = absurd (true≢false f)
    by false f h = h f

pub spot-inside : (end id : ℕ) (cs : List Chunk) → overrun end cs ≡ false
    → (first id cs).body + (first id cs).size ≤ end
spot-inside end id cs o = by (first id cs).found refl
  where
    by : (t : Bool) → (first id cs).found ≡ t → (first id cs).body + (first id cs).size ≤ end
    by true e = fits end id cs o e
    by false e = rw (unfound id cs e) (omega arith)
