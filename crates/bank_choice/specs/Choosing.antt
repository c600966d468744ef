-- T4. Which two sets a rate reads, counted from 0, and how they are blended: 000's SincBankF32::sample up to the
-- reading. Definitions only.
use Rattle.std.specs.Prelude.{ℕ, zero, suc, ◌+◌, ◌-◌, min, Bool, true, false, cond, not, ◌&&◌, [], ◌∷◌, negsuc}
use Rattle.std.specs.Prelude.{◌==◌, is_nan, Float}
use Rattle.std.specs.Float.{fin, binary64}
use Rattle.std.specs.Float.Ieee.{sub, div, lt, le}
use Rattle.refusal_order.specs.Order.{◌unless◌, first_of}
use Rattle.rounding.specs.Operations.{narrowed}
use Rattle.min_max.specs.Choice.{clamped}
use Rattle.sinc_settings.specs.Ranges.{zero-f, one-f}
use Rattle.bank_choice.specs.declared.Choice.{Choice}
use Rattle.bank_choice.specs.declared.Selected.{Selected}
use Rattle.bank_choice.specs.declared.Selected.TheVariants.{Sets, Refused}
use Rattle.bank_choice.specs.Rates.{bank_ok, steps_of, rate_of}

-- 000's `set.rate < rate`, for set k counted from 0.
abbrev pub slower_of : Float → ℕ → Float → ℕ → Bool
slower_of max-rate steps r k = lt (rate_of max-rate steps (k + 1)) r

-- 000's partition_point: the first of n sets, from set k on, that is not slower.
unfoldable pub first_from : (ℕ → Bool) → ℕ → ℕ → ℕ
first_from slower k zero = k
first_from slower k (suc n) = cond (slower k) (first_from slower (suc k) n) k

abbrev pub partition_of : Float → ℕ → Float → ℕ
partition_of max-rate steps r = first_from (slower_of max-rate steps r) 0 steps

-- The rate of the set below; below the first it is 1.0.
abbrev pub lower_of : Float → ℕ → ℕ → Float
lower_of max-rate steps k = cond (k == 0) one-f (rate_of max-rate steps k)

-- Two rates are close if they differ by at most f64's epsilon.
abbrev pub close_of : Float → Float → Bool
close_of own lower = let d = sub binary64 own lower in le (fin true 1 (negsuc 51)) d && le d (fin false 1 (negsuc 51))

unfoldable pub blend_of : Float → Float → Float → Float
blend_of r own lower = narrowed (div binary64 (sub binary64 r lower) (sub binary64 own lower))

-- The number 0 means the safe set alone, 1 the tighter one alone, 2 both, blended.
abbrev pub which_of : Bool → Bool → Bool → ℕ
which_of close low high = cond close 0 (cond low 0 (cond high 1 2))

-- The blend is compared with f32's epsilon and with 1 less that before it is clamped; the clamped one is handed on.
abbrev pub made_of : ℕ → ℕ → Float → Float → Float → Choice
made_of safe tighter r own lower =
    let blend = blend_of r own lower in
    record {
      safe = safe;
      tighter = tighter;
      which =
          which_of (close_of own lower) (le blend (fin false 1 (negsuc 22))) (le (fin false 8388607 (negsuc 22)) blend);
      blend = clamped blend zero-f one-f;
    }

unfoldable pub chosen_of : Float → Float → Choice
chosen_of max-rate rate =
    let n = steps_of max-rate in
    let r = clamped rate one-f max-rate in
    let safe = min (partition_of max-rate n r) (n - 1) in
    made_of safe (min (safe + 1) (n - 1)) r (rate_of max-rate n (safe + 1)) (lower_of max-rate n safe)

-- The choice for a bank's rate that is out of range.
abbrev pub no_choice : Choice
no_choice = record { safe = 0; tighter = 0; which = 0; blend = zero-f }

-- N1, N7. The number of the refusal, 0 for none: the bank's rate first, then a rate that is a NaN.
abbrev pub choose_verdict : Float → Float → ℕ
choose_verdict max-rate rate = first_of (1 unless bank_ok max-rate ∷ 7 unless not (is_nan rate) ∷ [])

abbrev pub selected_by : ℕ → Choice → Selected
selected_by zero c = Sets c
selected_by (suc k) c = Refused (suc k)

abbrev pub selected_of : Float → Float → Selected
selected_of max-rate rate = selected_by (choose_verdict max-rate rate) (chosen_of max-rate rate)

-- C4. 01's number for each case, 0 for a choice; and the choice, which a refusal does not have.
abbrev pub number_of : Selected → ℕ
number_of (Sets c) = 0
number_of (Refused k) = k

abbrev pub choice_in : Selected → Choice
choice_in (Sets c) = c
choice_in (Refused k) = no_choice
