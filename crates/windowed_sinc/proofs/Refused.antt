-- A refused build writes nothing (D1c), and the number of the answer is that of the refusal (C4). Assumes nothing.
use mathlib.Core.Path.{◌≡◌, refl}
use mathlib.Core.List.{List}
use Prim.Native.Nat.{ℕ, zero, suc}
use lib.Ieee.{Float}
use Rattle.sinc_settings.specs.declared.Settings.{Settings}
use Rattle.bessel.specs.declared.Mode.{Mode}
use Rattle.windowed_sinc.specs.Table.{built_in, table_after, number_of}
use Rattle.windowed_sinc.specs.declared.Built.TheVariants.{Refused}

-- This serves tables of either width.
pub not_written : (v : ℕ) → (v ≡ 0 → ⊥) → (made xs : List Float) → xs ≡ table_after v made xs
not_written zero h made xs = absurd (h refl)
not_written (suc k) h made xs = refl

pub not-built : (m : Mode) (v : ℕ) → (v ≡ 0 → ⊥) → (s : Settings) → Refused v ≡ built_in m v s
not-built m zero h s = absurd (h refl)
not-built m (suc k) h s = refl

pub number_is : (m : Mode) (v : ℕ) (s : Settings) → number_of (built_in m v s) ≡ v
number_is m zero s = refl
number_is m (suc k) s = refl
