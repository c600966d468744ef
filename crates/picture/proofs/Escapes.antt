-- A name is escaped byte by byte: an empty one puts nothing, and each further byte adds its own text at the end.
-- Assumes nothing.
use mathlib.Core.Path.{◌≡◌, refl, sym, ◌∙◌, ap}
use mathlib.Core.Bool.{Bool}
use mathlib.Core.List.{List, [], ◌∷◌, ◌++◌, append_assoc, append-nil}
use Prim.Native.Nat.{ℕ, suc, ◌≤◌, ◌<◌}
use native.Mathlib.Nat.{add-zero, min-eq_right}
use lib.ListN.{length, take, get_or}
use lib.Seq.{take-suc}
use Rattle.text.proofs.Texts.{Puts}
use Rattle.picture.specs.Names.{escaped_byte, shown_byte, escaped_as}

pub nothing : (xs : List ℕ) (at : ℕ) → at ≤ length xs → Puts xs at [] at xs
nothing xs at h = record { value = rw (add-zero at, min-eq_right h); out_after = refl }

module _ (readable : Bool) where
  abbrev one : ℕ → List ℕ
  one b = escaped_byte (shown_byte readable b)

  both : (xs ys : List ℕ) → escaped_as readable (xs ++ ys) ≡ escaped_as readable xs ++ escaped_as readable ys
  unfolding escaped_as
  both [] ys = refl
  both (b ∷ xs) ys =
      ap (λ (t : List ℕ). one b ++ t) (both xs ys) ∙
      sym (append_assoc (one b) (escaped_as readable xs) (escaped_as readable ys))

  single : (b : ℕ) → escaped_as readable (b ∷ []) ≡ one b
  unfolding escaped_as
  single b = append-nil (one b)

  pub one_more : (name : List ℕ) (k : ℕ) → k < length name
      → escaped_as readable (take (suc k) name) ≡ escaped_as readable (take k name) ++ one (get_or name k 0)
  one_more name k h =
      ap (escaped_as readable) (take-suc name k 0 h) ∙ both (take k name) (get_or name k 0 ∷ []) ∙
      ap (λ (t : List ℕ). escaped_as readable (take k name) ++ t) (single (get_or name k 0))
