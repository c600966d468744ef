-- What a quality reads, by whether it is Draft and by how many sets are read, and that its numbers are small. Assumes
-- nothing.
use mathlib.Core.Path.{◌≡◌, refl}
use mathlib.Core.Bool.{true, false}
use mathlib.Core.List.{List}
use Prim.Native.Nat.{ℕ, zero, suc, ◌≤◌, ◌<◌}
use native.Mathlib.Omega.{arith}
use lib.Dec.{lit≤}
use lib.Ieee.{Float}
use Rattle.absent_taps.specs.declared.Absent.{Absent}
use Rattle.absent_taps.specs.Absent.{first_tap, absent_at, plus}
use Rattle.absent_taps.proofs.Laws.{all_told}
use Rattle.bank_choice.specs.declared.Choice.{Choice}
use Rattle.quality_mode.specs.declared.QualityMode.{QualityMode}
use Rattle.quality_mode.specs.declared.QualityMode.TheVariants.{Draft, Normal, Hq, Ultra}
use Rattle.quality_mode.specs.Quality.{taps_of, same_q}
use Rattle.absent_qualities.specs.Readings.{each_set, of_quality, Few}

no : {A : Type 0} → false ≡ true → A
no e = let z : ◌≡◌ {A = ℕ} 0 1 = cc in absurd (omega arith)

nor : {A : Type 0} → true ≡ false → A
nor e = let z : ◌≡◌ {A = ℕ} 0 1 = cc in absurd (omega arith)

pub one_set : (k : ℕ) (s : Absent) → k < 2 → s ≡ each_set k s
one_set zero s h = refl
one_set (suc zero) s h = refl
one_set (suc (suc k)) s h = absurd (omega arith)

pub two-sets : (k : ℕ) (s : Absent) → 2 ≤ k → plus s s ≡ each_set k s
two-sets zero s h = absurd (omega arith)
two-sets (suc zero) s h = absurd (omega arith)
two-sets (suc (suc k)) s h = refl

module _ (c : Choice) (xs : List Float) (count : ℕ) (p : Float) where
  pub draft-reads : (q : QualityMode) → same_q q Draft ≡ true → absent_at xs count p 4 ≡ of_quality c q xs count p
  draft-reads Draft e = refl
  draft-reads Normal e = no e
  draft-reads Hq e = no e
  draft-reads Ultra e = no e

  pub table-reads : (q : QualityMode) → same_q q Draft ≡ false
      → each_set c.which (absent_at xs count p (taps_of q)) ≡ of_quality c q xs count p
  table-reads Draft e = nor e
  table-reads Normal e = refl
  table-reads Hq e = refl
  table-reads Ultra e = refl

  -- Of n taps at most n are absent in each way.
  few-of : (n : ℕ) → n ≤ 128 → let s = absent_at xs count p n in
      (s.unwritten ≤ 128) × ((s.ahead ≤ 128) × (s.overwritten ≤ 128))
  few-of n h =
      let all = all_told xs count (first_tap p n) n in
      (omega (arith, all), (omega (arith, all), omega (arith, all)))

  pub few-taps : (n : ℕ) → n ≤ 128 → Few (absent_at xs count p n)
  few-taps n h =
      let f = few-of n h in
      record { unwritten = omega (arith, f.0); ahead = omega (arith, f.1.0); overwritten = omega (arith, f.1.1) }

  each-few : (k n : ℕ) → n ≤ 128 → Few (each_set k (absent_at xs count p n))
  each-few zero n h = few-taps n h
  each-few (suc zero) n h = few-taps n h
  each-few (suc (suc k)) n h =
      let f = few-of n h in
      record { unwritten = omega (arith, f.0); ahead = omega (arith, f.1.0); overwritten = omega (arith, f.1.1) }

  pub few : (q : QualityMode) → Few (of_quality c q xs count p)
  few Draft = few-taps 4 (lit≤ tt)
  few Normal = each-few c.which 80 (lit≤ tt)
  few Hq = each-few c.which 96 (lit≤ tt)
  few Ultra = each-few c.which 128 (lit≤ tt)

pub taps-few : (q : QualityMode) → taps_of q ≤ 128
taps-few Draft = lit≤ tt
taps-few Normal = lit≤ tt
taps-few Hq = lit≤ tt
taps-few Ultra = lit≤ tt
