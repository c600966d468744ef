-- What has been seen so far, combined with the rest of the walk. Assumes nothing.
use mathlib.Core.Path.{◌≡◌, refl}
use mathlib.Core.Bool.{Bool, true, false, cond, ◌||◌}
use mathlib.Core.List.{List, [], ◌∷◌}
use Prim.Native.Nat.{ℕ}
use lib.Dec.{eqb}
use Rattle.riff_chunks.specs.declared.Chunk.{Chunk}
use Rattle.riff_chunks.specs.declared.Sought.{Sought}
use Rattle.riff_chunks.specs.declared.Spot.{Spot}
use Rattle.riff_chunks.specs.declared.Walked.{Walked}
use Rattle.riff_chunks.specs.Chunks.{overruns, overrun, nowhere, spot_of, first}
use Rattle.riff_chunks.specs.Walk.{or_else, spot_if, noted}

abbrev pub also : Sought → ℕ → Walked → List Chunk → Walked
also s end w cs =
    record {
      overruns = w.overruns || overrun end cs;
      format = or_else w.format (first s.format cs);
      samples = or_else w.samples (first s.samples cs);
    }

-- A spot that was not found has zeros.
abbrev pub Plain : Spot → Type 0
Plain s = or_else s nowhere ≡ s

or_assoc : (a b c : Bool) → a || (b || c) ≡ (a || b) || c
or_assoc true b c = refl
or_assoc false b c = refl

or-false : (a : Bool) → a || false ≡ a
or-false true = refl
or-false false = refl

either_first : (s : Spot) (c : Chunk) (t : Spot) (u v : Bool) → s.found ≡ u
    → or_else s (cond v (spot_of c) t) ≡ or_else (or_else s (cond v (spot_of c) nowhere)) t
either_first s c t true v e = simp e
either_first s c t false true e = simp e
either_first s c t false false e = simp e

plain-first : (s : Spot) (c : Chunk) (u v : Bool) → s.found ≡ u → Plain (or_else s (cond v (spot_of c) nowhere))
plain-first s c true v e = simp e
plain-first s c false true e = simp e
plain-first s c false false e = simp e

pub still-plain : (s : Spot) (id : ℕ) (c : Chunk) → Plain (or_else s (spot_if id c))
still-plain s id c = plain-first s c s.found (eqb c.id id) refl

pub seen_one : (s : Sought) (end : ℕ) (w : Walked) (c : Chunk) (cs : List Chunk)
    → also s end w (c ∷ cs) ≡ also s end (noted s w c (overruns end c)) cs
unfolding overrun first
seen_one s end w c cs =
    rw (
      or_assoc w.overruns (overruns end c) (overrun end cs),
      either_first w.format c (first s.format cs) w.format.found (eqb c.id s.format) refl,
      either_first w.samples c (first s.samples cs) w.samples.found (eqb c.id s.samples) refl,
    )

pub seen_all : (s : Sought) (end : ℕ) (w : Walked) → Plain w.format → Plain w.samples → also s end w [] ≡ w
unfolding overrun first
seen_all s end w p q = rw (or-false w.overruns, p, q)
