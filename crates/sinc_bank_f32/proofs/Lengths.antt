-- The lengths of a quality's table, of a set and of a bank. Each quality's part of a set is its own table, and each set
-- of a bank is its own. Assumes nothing.
use mathlib.Core.Path.{◌≡◌, sym, ◌∙◌, ap}
use mathlib.Core.List.{List, ◌++◌, append_assoc}
use Prim.Native.Nat.{ℕ, ◌+◌, ◌*◌, ◌<◌}
use native.Mathlib.Omega.{arith}
use lib.ListN.{length, take, drop, length-append, length-map}
use lib.Seq.{take_at, drop_at, take_all}
use lib.Ieee.{Float}
use Rattle.loop_laws.proofs.Rows.{length-rows, row}
use Rattle.rounding.specs.Operations.{narrowed}
use Rattle.sinc_settings.specs.declared.Settings.{Settings}
use Rattle.sinc_settings.specs.Refusals.{table_length}
use Rattle.bessel.specs.declared.Mode.{Mode}
use Rattle.windowed_sinc.specs.Table.{table_in}
use Rattle.windowed_sinc.proofs.Elements.{length-table}
use Rattle.windowed_sinc_f32.specs.Table.{table_f32_in}
use Rattle.bank_choice.specs.Rates.{steps_of, rate_of}
use Rattle.quality_mode.specs.declared.QualityMode.TheVariants.{Normal, Hq, Ultra}
use Rattle.sinc_bank_f32.specs.Sets.{set_length, normal_at, hq_at, ultra_at, set_in, bank_in}
use Rattle.sinc_bank_f32.specs.Parts.{part_of}

long : (m : Mode) (s : Settings) → length (table_f32_in m s) ≡ table_length s.taps s.phases
long m s = length-map (table_in m s) narrowed ∙ length-table m s

-- Three lists, one behind the other.
one-behind-another : (x y z : List Float) (a b c : ℕ) → length x ≡ a → length y ≡ b → length z ≡ c
    → (take a (x ++ (y ++ z)) ≡ x) × (take b (drop a (x ++ (y ++ z))) ≡ y) × (take c (drop (a + b) (x ++ (y ++ z))) ≡ z)
one-behind-another x y z a b c p q r = (
  take_at x (y ++ z) a p,
  ap (take b) (drop_at x (y ++ z) a p) ∙ take_at y z b q,
  ap (λ (l : List Float). take c (drop (a + b) l)) (sym (append_assoc x y z))
      ∙ ap (take c) (drop_at (x ++ y) z (a + b) (simp (length-append, p, q)))
      ∙ take_all c z (omega arith),
)

module _ (m : Mode) (rate : Float) where
  pub normal-long : length (table_f32_in m (normal_at rate)) ≡ 163920
  normal-long = long m (normal_at rate)

  pub hq-long : length (table_f32_in m (hq_at rate)) ≡ 393312
  hq-long = long m (hq_at rate)

  pub ultra-long : length (table_f32_in m (ultra_at rate)) ≡ 524416
  ultra-long = long m (ultra_at rate)

  pub set_long : length (set_in m rate) ≡ set_length
  unfolding set_in
  set_long = simp (length-append, normal-long, hq-long, ultra-long)

  -- T5. The parts of a set.
  parts : (take 163920 (set_in m rate) ≡ table_f32_in m (normal_at rate))
      × (take 393312 (drop 163920 (set_in m rate)) ≡ table_f32_in m (hq_at rate))
      × (take 524416 (drop (163920 + 393312) (set_in m rate)) ≡ table_f32_in m (ultra_at rate))
  unfolding set_in
  parts =
      one-behind-another (table_f32_in m (normal_at rate)) (table_f32_in m (hq_at rate))
      (table_f32_in m (ultra_at rate)) 163920 393312 524416 normal-long hq-long ultra-long

  pub normal-part : part_of Normal (set_in m rate) ≡ table_f32_in m (normal_at rate)
  normal-part = parts.0

  pub hq-part : part_of Hq (set_in m rate) ≡ table_f32_in m (hq_at rate)
  hq-part = parts.1

  pub ultra-part : part_of Ultra (set_in m rate) ≡ table_f32_in m (ultra_at rate)
  ultra-part = parts.2

-- T3. Set i of a bank, counted from 0.
pub set-at : (m : Mode) (top : Float) (i : ℕ) → i < steps_of top
    → take set_length (drop (i * set_length) (bank_in m top)) ≡ set_in m (rate_of top (steps_of top) (i + 1))
unfolding bank_in
set-at m top i h =
    row (λ (k : ℕ). set_in m (rate_of top (steps_of top) (k + 1))) set_length
    (λ k. set_long m (rate_of top (steps_of top) (k + 1))) (steps_of top) i h

pub bank-long : (m : Mode) (top : Float) → length (bank_in m top) ≡ steps_of top * set_length
unfolding bank_in
bank-long m top =
    length-rows (λ (k : ℕ). set_in m (rate_of top (steps_of top) (k + 1))) set_length
    (λ k. set_long m (rate_of top (steps_of top) (k + 1))) (steps_of top)
