-- After the tests of the lengths nothing is refused: the ring of 1024 is what the maximum delay 1016 needs, the table
-- of 2080 what the settings need, and 48000 Hz is a sample rate. By computing. Assumes nothing.
use mathlib.Core.Path.{◌≡◌, refl, ap}
use mathlib.Core.Bool.{true, false}
use mathlib.Core.List.{List}
use Prim.Native.Nat.{ℕ}
use borrow.Author.Tests.{ne_eqb}
use lib.ListN.{length}
use native.Mathlib.Omega.{arith}
use lib.Ieee.{Float, le, of_bits, size}
use Rattle.ring.specs.Length.{length_for, zeros}
use Rattle.sinc_settings.specs.Refusals.{verdict}
use Rattle.windowed_sinc.specs.Table.{table_after}
use Rattle.bessel.specs.declared.Mode.TheVariants.{Ported}
use Rattle.windowed_sinc_f32.specs.Table.{table_f32_of, built_by}
use Rattle.windowed_sinc_f32.specs.declared.Built.{Built}
use Rattle.windowed_sinc_f32.specs.declared.Built.TheVariants as tables
use Rattle.windowed_sinc_f32.specs.declared.Built.TheVariants.{Kernel}
use Rattle.windowed_sinc_f32.specs.declared.WindowedSincF32.{WindowedSincF32}
use Rattle.variable_delay.specs.Opening as delay
use Rattle.variable_delay.specs.declared.VariableDelay.{VariableDelay}
use Rattle.variable_delay.specs.declared.Opened as readers-opened
use Rattle.variable_delay.specs.declared.Opened.TheVariants as readers
use Rattle.variable_delay.specs.declared.Opened.TheVariants.{Reader}
use Rattle.modulation_engine.specs.Engine as engine
use Rattle.modulation_engine.specs.declared.ModulationEngine.{ModulationEngine}
use Rattle.modulation_engine.specs.declared.Opened as engines-opened
use Rattle.modulation_engine.specs.declared.Opened.TheVariants as engines
use Rattle.modulation_engine.specs.declared.Opened.TheVariants.{Engine}
use Rattle.render_start.specs.Start.{settings, fresh, lengths_ok}
use Rattle.render_start.specs.declared.Opened.TheVariants.{Started}

reader-needs : delay.reset_verdict (delay.fresh 1016 0) 1024 ≡ 0
unfolding length_for size
reader-needs = refl

table-needs : verdict settings 2080 ≡ 0
unfolding le
table-needs = refl

pub reader-opens : {n : ℕ} → n ≡ 1024 → delay.opened_of 1016 0 n ≡ Reader fresh.reader
reader-opens e = rw (e, reader-needs)

pub ring-opens : (xs : List Float) → length xs ≡ 1024 → delay.ring_opened 1016 0 xs ≡ zeros 1024
ring-opens xs e = rw (e, reader-needs) (ap zeros e)

pub table-opens : {n : ℕ} → n ≡ 2080
    → built_by (verdict settings n) settings ≡ Kernel (record { taps = 32; phases = 64; mode = Ported })
table-opens e = rw (e, table-needs)

pub table_is : (xs : List Float) {n : ℕ} → n ≡ 2080
    → table_after (verdict settings n) (table_f32_of settings) xs ≡ table_f32_of settings
table_is xs e = rw (e, table-needs)

pub engine-opens : engine.opened_of fresh.engine.sample_rate 1 ≡ Engine fresh.engine
unfolding le of_bits
engine-opens = refl

-- So each answer is what was opened, and no refusal.
pub no_reader : {a : readers-opened.Opened} {d : VariableDelay} {k : ℕ} → a ≡ Reader d → a ≡ readers.Refused k → ⊥
no_reader e r = let z : ◌≡◌ {A = ℕ} 0 1 = cc in omega arith

pub no-kernel : {a : Built} {w : WindowedSincF32} {k : ℕ} → a ≡ Kernel w → a ≡ tables.Refused k → ⊥
no-kernel e r = let z : ◌≡◌ {A = ℕ} 0 1 = cc in omega arith

pub no-engine : {a : engines-opened.Opened} {e : ModulationEngine} {k : ℕ} → a ≡ Engine e → a ≡ engines.Refused k → ⊥
no-engine e r = let z : ◌≡◌ {A = ℕ} 0 1 = cc in omega arith

-- ---- the tests of the lengths
pub wrong-ring : {n : ℕ} (m : ℕ) → (n ≡ 1024 → ⊥) → lengths_ok n m ≡ false
wrong-ring {n} m h = rw (ne_eqb n 1024 h)

pub wrong-table : {n m : ℕ} → n ≡ 1024 → (m ≡ 2080 → ⊥) → lengths_ok n m ≡ false
wrong-table {n} {m} e h = rw (e, ne_eqb m 2080 h)

pub both_right : {n m : ℕ} → n ≡ 1024 → m ≡ 2080 → lengths_ok n m ≡ true
both_right e f = rw (e, f)

-- The beginning, made of the reader and the engine that were opened.
pub started : {a : readers-opened.Opened} {d : VariableDelay} {b : engines-opened.Opened} {e : ModulationEngine}
    → a ≡ Reader d → a ≡ Reader fresh.reader → b ≡ Engine e → b ≡ Engine fresh.engine
    → Started (record { reader = d; engine = e }) ≡ Started fresh
started {a} {d} {b} {e} p q r s =
    let same-reader : d ≡ fresh.reader = cc in
    let same-engine : e ≡ fresh.engine = cc in
    rw (same-reader, same-engine)
