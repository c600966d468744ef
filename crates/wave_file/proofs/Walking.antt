-- A walk whose heads are read one after the other ends, and what it has seen follows from the heads. Assumes nothing.
use mathlib.Core.Path.{◌≡◌, ap, ◌∙◌}
use mathlib.Core.List.{List, [], ◌∷◌}
use Prim.Native.Nat.{ℕ, ◌≤◌, ◌<◌}
use native.Mathlib.Omega.{arith}
use Rattle.riff_chunks.specs.declared.Walking.{Walking}
use Rattle.riff_chunks.specs.Walk.{begun}
use Rattle.file_layout.specs.declared.Layout.{Layout}
use Rattle.file_turns.specs.Turns.{turned_in}
use Rattle.file_turns.proofs.Fewer.{fewer-left}
use Rattle.wave_file.specs.declared.header.Turned.{Turned}
use Rattle.wave_file.specs.declared.header.Turned.TheVariants as turns
use Rattle.wave_file.specs.Opening.{walked_by}
use Rattle.wave_file.specs.Inside.{Turns}
use Rattle.wave_file.specs.Inside.Turns.{turned, broken}

module _ (layout : Layout) (opening : List ℕ) (end : ℕ) where
  pub record Reached (w : Walking) : Type 0 where
    pub heads : List (List ℕ)
    pub is : w ≡ walked_by layout opening end heads

  pub at_first : {w : Walking} → w ≡ begun end → Reached w
  unfolding walked_by
  at_first e = record { heads = []; is = e }

  module _ {w v : Walking} {r : Turned} (e : r ≡ turns.Walking v) where
    pub fewer : Turns layout opening end w r → 8 ≤ w.left → v.left < w.left
    fewer (turned head inside f) some =
        let same : v ≡ turned_in layout opening w end head = cc in
        rw same (fewer-left opening w end head some inside layout)
    fewer (broken n f) some = let z : ◌≡◌ {A = ℕ} 0 1 = cc in absurd (omega arith)

    pub onwards : Turns layout opening end w r → Reached w → Reached v
    unfolding walked_by
    onwards (turned head inside f) h =
        let same : v ≡ turned_in layout opening w end head = cc in
        record {
          heads = head ∷ h.heads;
          is = same ∙ ap (λ (u : Walking). turned_in layout opening u end head) h.is;
        }
    onwards (broken n f) h = let z : ◌≡◌ {A = ℕ} 0 1 = cc in absurd (omega arith)
