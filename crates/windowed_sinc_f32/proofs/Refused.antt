-- A refused build says so, and the number of the answer is that of the refusal (C4). That nothing is written is
-- windowed_sinc's law. Assumes nothing.
use mathlib.Core.Path.{◌≡◌, refl}
use Prim.Native.Nat.{ℕ, zero, suc}
use Rattle.sinc_settings.specs.declared.Settings.{Settings}
use Rattle.bessel.specs.declared.Mode.{Mode}
use Rattle.windowed_sinc_f32.specs.Table.{built_in, number_of}
use Rattle.windowed_sinc_f32.specs.declared.Built.TheVariants.{Refused}

pub not-built : (m : Mode) (v : ℕ) → (v ≡ 0 → ⊥) → (s : Settings) → Refused v ≡ built_in m v s
not-built m zero h s = absurd (h refl)
not-built m (suc k) h s = refl

pub number_is : (m : Mode) (v : ℕ) (s : Settings) → number_of (built_in m v s) ≡ v
number_is m zero s = refl
number_is m (suc k) s = refl
