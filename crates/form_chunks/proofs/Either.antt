-- W12g, W12h. The whole FORM is walked, and the first chunk with each identifier counts wherever it stands: `COMM`
-- before `SSND` or behind it. By the laws of the walk of RIFF. Assumes nothing.
use mathlib.Core.Path.{◌≡◌, refl, sym, ap, ◌∙◌}
use mathlib.Core.Bool.{Bool, true, false, true≢false, ◌&&◌, not}
use mathlib.Core.List.{List, [], ◌∷◌, ◌++◌}
use Prim.Native.Nat.{ℕ}
use lib.Dec.{eqb}
use Rattle.riff_chunks.specs.declared.Chunk.{Chunk}
use Rattle.riff_chunks.specs.declared.Walked.{Walked}
use Rattle.riff_chunks.specs.Chunks.{chunks, nowhere, spot_of, first}
use Rattle.riff_chunks.specs.Walk.{end_in, seen_of}
use Rattle.riff_chunks.proofs.Walks.{all-walked}
use Rattle.form_chunks.specs.Form.{comm_id, ssnd_id, form_chunk, form_sought, form_walk}

-- No chunk of a list has the identifier.
abbrev pub lacks : ℕ → List Chunk → Bool
lacks id [] = true
lacks id (c ∷ cs) = not (eqb c.id id) && lacks id cs

apart : (a b : Bool) → not a && b ≡ true → (a ≡ false) × (b ≡ true)
apart true b h = absurd (true≢false (sym h))
apart false b h = (refl, h)

-- W12g. The first chunk with an identifier counts, whatever stands before it and behind it.
pub first-counts : (id : ℕ) (cs : List Chunk) (c : Chunk) (ds : List Chunk) → lacks id cs ≡ true
    → eqb c.id id ≡ true → first id (cs ++ (c ∷ ds)) ≡ spot_of c
unfolding first
first-counts id [] c ds h e = rw e
first-counts id (d ∷ cs) c ds h e =
    let a = apart (eqb d.id id) (lacks id cs) h in rw a.0 (first-counts id cs c ds a.1 e)

pub none_found : (id : ℕ) (cs : List Chunk) → lacks id cs ≡ true → first id cs ≡ nowhere
unfolding first
none_found id [] h = refl
none_found id (d ∷ cs) h = let a = apart (eqb d.id id) (lacks id cs) h in rw a.0 (none_found id cs a.1)

-- W12h. The whole FORM is walked: what is seen of it is what is seen of all its chunks.
pub all-of-it : (b : List ℕ) (end : ℕ) → form_walk b end
    ≡ seen_of form_sought (end_in b end) (chunks (form_chunk b) (end_in b end) 12)
all-of-it b end =
    ap (seen_of form_sought (end_in b end)) (all-walked form_sought refl (chunks (form_chunk b) (end_in b end) 12))

-- W12g. So `COMM` and `SSND` are found in either order.
pub comm-found : (b : List ℕ) (end : ℕ) (cs : List Chunk) (c : Chunk) (ds : List Chunk)
    → chunks (form_chunk b) (end_in b end) 12 ≡ cs ++ (c ∷ ds) → lacks comm_id cs ≡ true → eqb c.id comm_id ≡ true
    → (form_walk b end).format ≡ spot_of c
comm-found b end cs c ds e h i =
    ap (λ (w : Walked). w.format) (all-of-it b end) ∙ ap (first comm_id) e ∙ first-counts comm_id cs c ds h i

pub ssnd-found : (b : List ℕ) (end : ℕ) (cs : List Chunk) (c : Chunk) (ds : List Chunk)
    → chunks (form_chunk b) (end_in b end) 12 ≡ cs ++ (c ∷ ds) → lacks ssnd_id cs ≡ true → eqb c.id ssnd_id ≡ true
    → (form_walk b end).samples ≡ spot_of c
ssnd-found b end cs c ds e h i =
    ap (λ (w : Walked). w.samples) (all-of-it b end) ∙ ap (first ssnd_id) e ∙ first-counts ssnd_id cs c ds h i
