-- A quality's part of a whole set is its table, with the length that its taps and phases need, so a reading in range is
-- never refused. Assumes nothing.
use mathlib.Core.Path.{◌≡◌, refl, ◌∙◌, ap}
use mathlib.Core.Bool.{true}
use mathlib.Core.List.{List, []}
use Prim.Native.Nat.{ℕ, zero, suc}
use native.Mathlib.Omega.{arith}
use borrow.Author.Tests.{eq-eqb}
use lib.Dec.{eqb}
use lib.ListN.{length, take, drop, length-take, length-drop}
use lib.Ieee.{Float}
use Rattle.loop_laws.specs.Loops.{fold}
use Rattle.ring.specs.Places.{position_ok}
use Rattle.sinc_settings.specs.Refusals.{table_verdict}
use Rattle.sinc_read_f32.specs.Reading.{sinc_f32_at, read_of}
use Rattle.sinc_bank_f32.specs.Sets.{set_length}
use Rattle.sinc_bank_f32.specs.Parts.{part_of, lent_of}
use Rattle.quality_mode.specs.declared.QualityMode.{QualityMode}
use Rattle.quality_mode.specs.declared.QualityMode.TheVariants.{Draft, Normal, Hq, Ultra}
use Rattle.quality_mode.specs.Quality.{taps_of, phases_of}
use Rattle.bank_read.specs.Bank.{table_at, blended}

pub lent-whole : (q : QualityMode) (set : List Float) → length set ≡ set_length → lent_of q set ≡ part_of q set
lent-whole q set l = rw (eq-eqb (length set) set_length l)

module _ (xs : List Float) (count : ℕ) (p : Float) (h : position_ok p ≡ true) where
  whole-read : (table : List Float) (taps phases : ℕ) → eqb (table_verdict taps phases (length table)) 0 ≡ true
      → read_of table taps phases xs count p ≡ sinc_f32_at table taps phases xs count p
  whole-read table taps phases t = rw (t, h)

  of_length : (n taps phases : ℕ) (table : List Float) → length table ≡ n → eqb (table_verdict taps phases n) 0 ≡ true
      → read_of table taps phases xs count p ≡ sinc_f32_at table taps phases xs count p
  of_length n taps phases table e t =
      whole-read table taps phases (ap (λ (m : ℕ). eqb (table_verdict taps phases m) 0) e ∙ t)

  -- Draft has no taps to read.
  none_read : read_of [] 0 0 xs count p ≡ sinc_f32_at [] 0 0 xs count p
  unfolding sinc_f32_at fold
  none_read = refl

  part-read : (q : QualityMode) (set : List Float) → length set ≡ set_length
      → read_of (part_of q set) (taps_of q) (phases_of q) xs count p ≡ table_at q set xs count p
  part-read Draft set l = none_read
  part-read Normal set l = of_length 163920 80 2048 (take 163920 set) (simp length-take (omega arith)) refl
  part-read Hq set l =
      of_length 393312 96 4096 (take 393312 (drop 163920 set)) (simp (length-take, length-drop) (omega arith)) refl
  part-read Ultra set l =
      of_length 524416 128 4096 (take 524416 (drop 557232 set)) (simp (length-take, length-drop) (omega arith)) refl

  pub table_is : (q : QualityMode) (set : List Float) → length set ≡ set_length
      → read_of (lent_of q set) (taps_of q) (phases_of q) xs count p ≡ table_at q set xs count p
  table_is q set l =
      ap (λ (t : List Float). read_of t (taps_of q) (phases_of q) xs count p) (lent-whole q set l) ∙ part-read q set l

-- The case in which both sets are read and blended.
pub both_read : (w : ℕ) (blend a b : Float) → (w ≡ 1 → ⊥) → (w ≡ 0 → ⊥) → blended 2 blend a b ≡ blended w blend a b
both_read zero blend a b h k = absurd (k refl)
both_read (suc zero) blend a b h k = absurd (h refl)
both_read (suc (suc w)) blend a b h k = refl
