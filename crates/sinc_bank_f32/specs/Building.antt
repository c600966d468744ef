-- N1, N2. Which refusal is given when a set or a bank is lent to be built, and what a builder answers. What it leaves
-- in the lent slice is windowed_sinc's `table_after`. Definitions only.
use Rattle.std.specs.Prelude.{ℕ, zero, suc, ◌*◌, [], ◌∷◌, eqb, Float}
use Rattle.refusal_order.specs.Order.{◌unless◌, first_of}
use Rattle.bank_choice.specs.Rates.{bank_ok, steps_of}
use Rattle.sinc_bank_f32.specs.declared.Built.{Built}
use Rattle.sinc_bank_f32.specs.declared.Built.TheVariants.{Sets, Refused}
use Rattle.sinc_bank_f32.specs.Sets.{set_length}

-- The refusal is 1 if the rate is not from 1 to 2, and 2 if the slice has another length.
abbrev pub set_verdict : Float → ℕ → ℕ
set_verdict rate len = first_of (1 unless bank_ok rate ∷ 2 unless eqb len set_length ∷ [])

abbrev pub bank_verdict : Float → ℕ → ℕ
bank_verdict max-rate len = first_of (1 unless bank_ok max-rate ∷ 2 unless eqb len (steps_of max-rate * set_length)
    ∷ [])

-- A builder answers how many sets were built.
abbrev pub built_by : ℕ → Float → Built
built_by zero max-rate = Sets (steps_of max-rate)
built_by (suc k) max-rate = Refused (suc k)

-- C4. 01's number for each case, 0 for a bank.
abbrev pub number_of : Built → ℕ
number_of (Sets n) = 0
number_of (Refused k) = k
