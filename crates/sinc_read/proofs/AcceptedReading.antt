-- What follows for the counts, the table's length and the position if nothing is refused. Assumes nothing.
use mathlib.Core.Path.{◌≡◌, refl, ◌∙◌, ap}
use mathlib.Core.Bool.{Bool, true, false, ◌&&◌, and-true, and-false}
use Prim.Native.Nat.{ℕ}
use native.Mathlib.Omega.{arith}
use borrow.Author.Tests.{eqb-true}
use lib.Dec.{eqb}
use lib.Ieee.{Float}
use Rattle.ring.specs.Places.{position_ok}
use Rattle.answer.specs.Refusals.{lowest_of}
use Rattle.sinc_settings.specs.Ranges.{taps_ok, phases_ok}
use Rattle.sinc_settings.specs.Refusals.{table_length, table_verdict}
use Rattle.sinc_read.specs.Reading.{sample_verdict}

pub record Readable (taps phases len : ℕ) (p : Float) : Type 0 where
  pub counted : taps_ok taps && phases_ok phases ≡ true
  pub here : position_ok p ≡ true
  pub long : len ≡ table_length taps phases

abbrev due : Bool → Bool → ℕ
due a b = lowest_of a b true true true true true true

module _ (taps phases len : ℕ) (p : Float) where
  -- A position out of range is refused by 1, as a setting is; in range the other tests decide.
  pub beyond : position_ok p ≡ false → 1 ≡ sample_verdict taps phases len p
  beyond h = rw (h, and-false (taps_ok taps && phases_ok phases))

  pub within : position_ok p ≡ true → table_verdict taps phases len ≡ sample_verdict taps phases len p
  within h = rw (h, and-true (taps_ok taps && phases_ok phases))

  pub readable : sample_verdict taps phases len p ≡ 0 → Readable taps phases len p
  readable h = go (taps_ok taps && phases_ok phases) (position_ok p) (eqb len (table_length taps phases)) refl refl
      refl h
    where
      go : (a b c : Bool) → taps_ok taps && phases_ok phases ≡ a → position_ok p ≡ b
          → eqb len (table_length taps phases) ≡ c → due (a && b) c ≡ 0 → Readable taps phases len p
      go true true true A B C t = record { counted = A; here = B; long = eqb-true _ _ C }
      go true true false A B C t = absurd (omega arith)
      go true false c A B C t = absurd (omega arith)
      go false b c A B C t = absurd (omega arith)

  -- `read_of` tests the table and the position one after the other.
  pub same_test : eqb (table_verdict taps phases len) 0 && position_ok p ≡ eqb (sample_verdict taps phases len p) 0
  same_test = go (position_ok p) refl
    where
      go : (b : Bool) → position_ok p ≡ b
          → eqb (table_verdict taps phases len) 0 && b ≡ eqb (sample_verdict taps phases len p) 0
      go true h = and-true (eqb (table_verdict taps phases len) 0) ∙ ap (λ (v : ℕ). eqb v 0) (within h)
      go false h = and-false (eqb (table_verdict taps phases len) 0) ∙ ap (λ (v : ℕ). eqb v 0) (beyond h)
