-- W10. Files with the same first bytes have the same sizes, because every field that is read lies in the fixed part of
-- `ds64` or in its table. Assumes nothing.
use mathlib.Core.Path.{◌≡◌, refl, ap, ◌∙◌}
use mathlib.Core.List.{List}
use Prim.Native.Nat.{ℕ, zero, suc, ◌+◌, ◌*◌, ◌≤◌}
use native.Mathlib.Omega.{arith}
use Rattle.wav_format.specs.Format.{number}
use Rattle.true_sizes.specs.Sizes.{is_long, entry_count, entries_from, table_of, small_sizes, true_size}

module _ (b c : List ℕ) (limit : ℕ)
    (same : (k at : ℕ) → at + k ≤ limit → number k b at ≡ number k c at) where
  same_entries : (n at : ℕ) → at + 12 * n ≤ limit → entries_from b n at ≡ entries_from c n at
  unfolding entries_from
  same_entries zero at h = refl
  same_entries (suc n) at h =
      rw (same 4 at (omega arith), same 8 (at + 4) (omega arith), same_entries n (at + 12) (omega arith))

  pub same-long : 4 ≤ limit → is_long b ≡ is_long c
  same-long h = rw (same 4 0 (omega arith))

  pub same_count : 48 ≤ limit → entry_count b ≡ entry_count c
  same_count h = rw (same 4 44 (omega arith), same 4 16 (omega arith))

  module _ (fixed : 48 ≤ limit) (table : 48 + 12 * entry_count b ≤ limit) where
    same-table : table_of b ≡ table_of c
    same-table = same_entries (entry_count b) 48 table ∙ ap (λ (n : ℕ). entries_from c n 48) (same_count fixed)

    pub same-small : small_sizes b ≡ small_sizes c
    same-small = rw (same 8 28 (omega arith), same-table)

    pub same_size : (id field : ℕ) → true_size b id field ≡ true_size c id field
    same_size id field = rw (same-long (omega arith), same 8 28 (omega arith), same-table)
