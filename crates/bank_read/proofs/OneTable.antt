-- T4, T5. A quality that reads one table reads by the bank what that table reads. Assumes nothing.
use mathlib.Core.Path.{◌≡◌, refl, ap, ◌∙◌}
use mathlib.Core.Bool.{Bool, true, false, ◌&&◌}
use mathlib.Core.List.{List, []}
use Prim.Native.Nat.{ℕ, zero, suc}
use native.Mathlib.Omega.{arith}
use lib.Dec.{eqb}
use lib.ListN.{length, length-take, length-drop}
use lib.Ieee.{Float}
use Rattle.answer.specs.Answers.{zero-f}
use Rattle.ring.specs.Places.{position_ok}
use Rattle.sinc_settings.specs.Ranges.{taps_ok, phases_ok}
use Rattle.sinc_settings.specs.Refusals.{table_length, table_verdict}
use Rattle.sinc_read_f32.specs.Reading as sinc
use Rattle.bank_choice.specs.declared.Choice.{Choice}
use Rattle.sinc_bank_f32.specs.Sets.{set_length}
use Rattle.sinc_bank_f32.specs.Parts.{pick_slice, lent_of}
use Rattle.quality_mode.specs.declared.QualityMode.{QualityMode}
use Rattle.quality_mode.specs.declared.QualityMode.TheVariants.{Draft, Normal, Hq, Ultra}
use Rattle.quality_mode.specs.Quality.{same_q, taps_of, phases_of}
use Rattle.bank_read.specs.Bank.{set_at, table_at, tables_at}
use Rattle.bank_read.specs.Inner.{sets_ok, read_of}
use Rattle.bank_read.specs.OneTable.{of_which, one_table}
use Rattle.bank_read.proofs.WholeSets.{set-length, both-held}
use Rattle.bank_read.proofs.QualityTables.{table_is, lent-whole}
use Rattle.bank_read.proofs.BankReading.{tables-read, no_place}

-- What is known of the table: it suits the quality, and reads what the bank reads.
pub record Alone (c : Choice) (q : QualityMode) (sets table : List Float) : Type 0 where
  pub own : taps_ok (taps_of q) && phases_ok (phases_of q) ≡ true
  pub long : length table ≡ table_length (taps_of q) (phases_of q)
  pub reads : (xs : List Float) (count : ℕ) (p : Float)
      → sinc.read_of table (taps_of q) (phases_of q) xs count p ≡ read_of c q sets xs count p

-- If both sets are read there is no one table.
pub none_of : (w : ℕ) (a b : List Float) → (w ≡ 0 → ⊥) → (w ≡ 1 → ⊥) → [] ≡ of_which w a b
none_of zero a b h k = absurd (h refl)
none_of (suc zero) a b h k = absurd (k refl)
none_of (suc (suc w)) a b h k = refl

never : (b : Bool) → b && false ≡ false
never true = refl
never false = refl

module _ (c : Choice) (sets : List Float) (ok : sets_ok c (length sets) ≡ true) where
  -- A set of which the bank reads only this table.
  module _ (set : List Float) (whole : length set ≡ set_length) where
    reads_of : (q : QualityMode) → same_q q Draft ≡ false
        → ((xs : List Float) (count : ℕ) (p : Float) → table_at q set xs count p ≡ tables_at c q sets xs count p)
        → (xs : List Float) (count : ℕ) (p : Float)
        → sinc.read_of (lent_of q set) (taps_of q) (phases_of q) xs count p ≡ read_of c q sets xs count p
    reads_of q h same xs count p = by (position_ok p) refl
      where
        by : (b : Bool) → position_ok p ≡ b
            → sinc.read_of (lent_of q set) (taps_of q) (phases_of q) xs count p ≡ read_of c q sets xs count p
        by true e = table_is xs count p e q set whole ∙ same xs count p ∙ tables-read c sets xs count p q h ok e
        by false e =
            let none : sinc.read_of (lent_of q set) (taps_of q) (phases_of q) xs count p ≡ zero-f =
            rw (e, never (eqb (table_verdict (taps_of q) (phases_of q) (length (lent_of q set))) 0)) in
            none ∙ no_place c sets xs count p q h ok e

    alone : (q : QualityMode) → (length (lent_of q set) ≡ 0 → ⊥)
        → ((xs : List Float) (count : ℕ) (p : Float) → table_at q set xs count p ≡ tables_at c q sets xs count p)
        → Alone c q sets (lent_of q set)
    alone Draft some same = absurd (some (ap length (lent-whole Draft set whole)))
    alone Normal some same =
        record {
          own = refl;
          long = ap length (lent-whole Normal set whole) ∙ simp length-take (omega arith);
          reads = reads_of Normal refl same;
        }
    alone Hq some same =
        record {
          own = refl;
          long = ap length (lent-whole Hq set whole) ∙ simp (length-take, length-drop) (omega arith);
          reads = reads_of Hq refl same;
        }
    alone Ultra some same =
        record {
          own = refl;
          long = ap length (lent-whole Ultra set whole) ∙ simp (length-take, length-drop) (omega arith);
          reads = reads_of Ultra refl same;
        }

  by-which : (q : QualityMode) (w : ℕ) → c.which ≡ w
      → (length (of_which w (lent_of q (set_at sets c.safe)) (lent_of q (set_at sets c.tighter))) ≡ 0 → ⊥)
      → Alone c q sets (of_which w (lent_of q (set_at sets c.safe)) (lent_of q (set_at sets c.tighter)))
  unfolding tables_at
  by-which q zero e some =
      alone (set_at sets c.safe) (set-length sets c.safe (both-held c (length sets) ok).0) q some
      (λ xs count p. rw e)
  by-which q (suc zero) e some =
      alone (set_at sets c.tighter) (set-length sets c.tighter (both-held c (length sets) ok).1) q some
      (λ xs count p. rw e)
  by-which q (suc (suc w)) e some = absurd (some refl)

pub one_table-held : (c : Choice) (q : QualityMode) (sets : List Float) → (length (one_table c q sets) ≡ 0 → ⊥)
    → Alone c q sets (one_table c q sets)
one_table-held c q sets some = by (sets_ok c (length sets)) refl some
  where
    found : List Float
    found = of_which c.which (lent_of q (set_at sets c.safe)) (lent_of q (set_at sets c.tighter))

    by : (b : Bool) → sets_ok c (length sets) ≡ b → (length (pick_slice b found []) ≡ 0 → ⊥)
        → Alone c q sets (pick_slice b found [])
    by true e some = by-which c sets e q c.which refl some
    by false e some = absurd (some refl)
