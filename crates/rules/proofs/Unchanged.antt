-- D1c. Whatever is refused, by the number that is handed out (C4), the state and every lent element are what they were.
-- There is one law for each kind of public function. Assumes nothing.
use mathlib.Core.Path.{◌≡◌, refl}
use mathlib.Core.Bool.{Bool, true, false, cond}
use mathlib.Core.List.{List}
use Prim.Native.Nat.{ℕ, zero, suc}
use lib.Ieee.{Float}
use Rattle.answer.specs.Answers.{number_of, number_f32_of}
use Rattle.variable_delay.specs.Reader.{Reading, processed_by, ring_after}
use Rattle.variable_delay.specs.Opening as opening
use Rattle.variable_delay.specs.declared.VariableDelay.{VariableDelay}
use Rattle.variable_delay_f32.specs.Call.{processed_f32_by}
use Rattle.quality_mode.specs.declared.QualityMode.{QualityMode}
use Rattle.quality_variable_delay.specs.Reader as quality
use Rattle.quality_variable_delay.specs.Opening as renewing
use Rattle.quality_variable_delay.specs.declared.QualityVariableDelayF32.{QualityVariableDelayF32}
use Rattle.sinc_settings.specs.declared.Settings.{Settings}
use Rattle.windowed_sinc.specs.Table as table
use Rattle.windowed_sinc_f32.specs.Table as single
use Rattle.sinc_bank_f32.specs.Building as bank
use Rattle.xorshift.specs.Draws.{zero as zero-f}
use Rattle.smooth_random.specs.Ranges.{valid_of}
use Rattle.smooth_random.specs.Drawing as drawing
use Rattle.smooth_random.specs.Drift as drift
use Rattle.smooth_random.specs.declared.SmoothRandom.{SmoothRandom}
use Rattle.smooth_random.specs.declared.Drawn.{Drawn}
use Rattle.smooth_random.specs.declared.Renewed.{Renewed}
use Rattle.modulation_engine.specs.Engine as engine
use Rattle.modulation.specs.Step as stepping
use Rattle.modulation.specs.Runs.{left_by}
use Rattle.modulation_engine.specs.declared.ModulationEngine.{ModulationEngine}
use Rattle.modulation_params.specs.declared.ModulationParams.{ModulationParams}

-- ---- the readers, over what their kernels read: `v` is the refusal
pub reader : (read : Reading) (v : ℕ) (d : VariableDelay) (xs : List Float) (x y : Float)
    → (number_of (processed_by read v d xs x y).answer ≡ 0 → ⊥)
    → ((processed_by read v d xs x y).state ≡ d) × (ring_after v d xs x ≡ xs)
reader read zero d xs x y h = absurd (h refl)
reader read (suc k) d xs x y h = (refl, refl)

pub reader-f32 : (read : Reading) (v : ℕ) (d : VariableDelay) (xs : List Float) (x y : Float)
    → (number_f32_of (processed_f32_by read v d xs x y).answer ≡ 0 → ⊥)
    → ((processed_f32_by read v d xs x y).state ≡ d) × (ring_after v d xs x ≡ xs)
reader-f32 read zero d xs x y h = absurd (h refl)
reader-f32 read (suc k) d xs x y h = (refl, refl)

-- The quality that was requested is forgotten: q does not show in what is left.
pub quality-reader : (read : QualityMode → Reading) (v : ℕ) (d : QualityVariableDelayF32) (xs : List Float)
    (x y : Float) (q : QualityMode)
    → (number_f32_of (quality.processed_by read v d xs x y q).answer ≡ 0 → ⊥)
    → ((quality.processed_by read v d xs x y q).state ≡ d) × (quality.ring_after v d xs x ≡ xs)
quality-reader read zero d xs x y q h = absurd (h refl)
quality-reader read (suc k) d xs x y q h = (refl, refl)

-- ---- opening and reset leave the ring
pub opened : (v : ℕ) (d : VariableDelay) (xs : List Float) → (opening.number_of (opening.opened_by v d) ≡ 0 → ⊥)
    → opening.cleared_by v xs ≡ xs
opened zero d xs h = absurd (h refl)
opened (suc k) d xs h = refl

pub quality-opened : (v : ℕ) (d : QualityVariableDelayF32) (xs : List Float)
    → (renewing.number_of (renewing.opened_by v d) ≡ 0 → ⊥) → opening.cleared_by v xs ≡ xs
quality-opened zero d xs h = absurd (h refl)
quality-opened (suc k) d xs h = refl

-- ---- a builder leaves the lent table, set or bank
pub built : (v : ℕ) (s : Settings) (made xs : List Float) → (table.number_of (table.built_by v s) ≡ 0 → ⊥)
    → table.table_after v made xs ≡ xs
built zero s made xs h = absurd (h refl)
built (suc k) s made xs h = refl

pub built-f32 : (v : ℕ) (s : Settings) (made xs : List Float) → (single.number_of (single.built_by v s) ≡ 0 → ⊥)
    → table.table_after v made xs ≡ xs
built-f32 zero s made xs h = absurd (h refl)
built-f32 (suc k) s made xs h = refl

pub bank-built : (v : ℕ) (top : Float) (made xs : List Float) → (bank.number_of (bank.built_by v top) ≡ 0 → ⊥)
    → table.table_after v made xs ≡ xs
bank-built zero top made xs h = absurd (h refl)
bank-built (suc k) top made xs h = refl

-- ---- 001's engine and its generator
pub drifted : (v : ℕ) (r : SmoothRandom) (rate-hz sample-rate : Float)
    → ((drift.answer v r rate-hz sample-rate).refusal ≡ 0 → ⊥) → (drift.answer v r rate-hz sample-rate).random ≡ r
drifted zero r rate-hz sample-rate h = absurd (h refl)
drifted (suc k) r rate-hz sample-rate h = refl

-- The calls set_seed and reset and the draws of a generator.
pub renewed : (r after : SmoothRandom) → ((drift.renewed r after).refusal ≡ 0 → ⊥) → (drift.renewed r after).random ≡ r
renewed r after = go (valid_of r)
  where
    go : (b : Bool) → let a : Renewed =
        cond b (record { random = after; refusal = 0 }) (record { random = r; refusal = 3 }) in
        (a.refusal ≡ 0 → ⊥) → a.random ≡ r
    go true h = absurd (h refl)
    go false h = refl

pub drawn : (r : SmoothRandom) (d : Drawn) → d.refusal ≡ 0 → ((drawing.drawn r d).refusal ≡ 0 → ⊥)
    → (drawing.drawn r d).random ≡ r
drawn r d e = go (valid_of r)
  where
    go : (b : Bool) → let a : Drawn = cond b d (record { random = r; value = zero-f; refusal = 3 }) in
        (a.refusal ≡ 0 → ⊥) → a.random ≡ r
    go true h = absurd (h e)
    go false h = refl

pub stepped : (v : ℕ) (e : ModulationEngine) (p : ModulationParams)
    → (stepping.number_of (stepping.next_by v e p).offset ≡ 0 → ⊥) → (stepping.next_by v e p).engine ≡ e
stepped zero e p h = absurd (h refl)
stepped (suc k) e p h = refl

-- For set_sample_rate, set_seed and reset: an answer that is a refusal holds no other engine.
pub engine-set : (v : ℕ) (e new : ModulationEngine) → (engine.number_of (engine.opened_by v new) ≡ 0 → ⊥)
    → left_by (engine.opened_by v new) e ≡ e
engine-set zero e new h = absurd (h refl)
engine-set (suc k) e new h = refl
