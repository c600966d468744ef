-- The answer of `open`, from those of the opening, of the walk and of the readings behind it. Assumes nothing.
use mathlib.Core.Path.{◌≡◌, refl, sym, ap, ◌∙◌}
use mathlib.Core.List.{List, []}
use Prim.Native.Nat.{ℕ, zero, suc, ◌<◌}
use native.Mathlib.Omega.{arith}
use lib.IntN.{ℤ}
use Rattle.riff_chunks.specs.declared.Walked.{Walked}
use Rattle.file_layout.specs.declared.Layout.{Layout}
use Rattle.file_layout.specs.Layouts.{layout_of}
use Rattle.file_turns.specs.Turns.{begun_in, finished_in, told_by}
use Rattle.wave_file.specs.declared.Opened.{Opened}
use Rattle.wave_file.specs.declared.Opened.TheVariants as opened
use Rattle.wave_file.specs.declared.header.Walk.{Walk}
use Rattle.wave_file.specs.declared.header.Walk.TheVariants as walks
use Rattle.wave_file.specs.Opening.{Pieces, walked_by, answered_by, opened_as, refused_by}
use Rattle.wave_file.specs.Opening.{Opens}
use Rattle.wave_file.specs.Inside.{Breaks, Walks, Finds}
use Rattle.wave_file.specs.Opening.Opens.{unread, shorter, told}
use Rattle.wave_file.specs.Inside.Breaks.{unread as failed, shorter as ended}
use Rattle.wave_file.specs.Inside.Walks.{done, broken}
use Rattle.wave_file.specs.Inside.Finds.{broke, told as found}

pub broken-off : {r : Opened} → Breaks r → Opens r
broken-off (failed e) = unread e
broken-off (ended e) = shorter e

module _ (opening : List ℕ) (size : ℕ) {layout : Layout} (is : layout ≡ layout_of opening) where
  abbrev pieces : List (List ℕ) → List ℕ → List ℕ → Pieces
  pieces heads format samples =
      record { opening = opening; size = size; heads = heads; format = format; samples = samples }

  -- The opening is refused.
  pub at_once : (fd : ℤ) (n : ℕ) {r : Opened} → (begun_in layout opening size).refusal ≡ n → (n ≡ 0 → ⊥)
      → r ≡ opened.Refused (refused_by n (told_by layout [])) → Opens r
  at_once fd zero e h f = absurd (h refl)
  at_once fd (suc k) e h f =
      told fd (pieces [] [] []) (λ z. absurd (omega (arith, e, rw (sym is) at z)))
      (f ∙ sym (rw (sym is)
      (ap (λ (m : ℕ). answered_by m fd layout (begun_in layout opening size).end (pieces [] [] [])) e)))

  -- The walk reached its end, and the readings behind it gave their answer.
  module _ (begins : (begun_in layout opening size).refusal ≡ 0) {end : ℕ}
      (ends : (begun_in layout opening size).end ≡ end) where
    told-by : {w : Walked} {r : Opened} (heads : List (List ℕ)) → (walked_by layout opening end heads).left < 8
        → w ≡ (walked_by layout opening end heads).seen → Finds layout end w r → Opens r
    told-by heads over seen (broke b) = broken-off b
    told-by {w} heads over seen (found fd format samples e) =
        told fd (pieces heads format samples)
        (λ z. rw (sym is, ends) over)
        (e
        ∙ ap (λ (v : Walked). opened_as fd layout (told_by layout format) (finished_in layout v end format samples))
        seen
        ∙ ap (λ (x : ℕ). answered_by 0 fd layout x (pieces heads format samples)) (sym ends)
        ∙ sym (rw (sym is)
        (ap (λ (m : ℕ). answered_by m fd layout (begun_in layout opening size).end (pieces heads format samples))
        begins)))

    pub behind : {v : Walk} {w : Walked} {r : Opened} → Walks layout opening end v → v ≡ walks.Done w
        → Finds layout end w r → Opens r
    behind (done heads over f) e x = told-by heads over (cc) x
    behind (broken n f) e x = let z : ◌≡◌ {A = ℕ} 0 1 = cc in absurd (omega arith)
