-- W10. The true sizes of a file past four gigabytes, in RF64 (EBU Tech 3306, section 3) and BW64 (ITU-R BS.2088). A
-- 32-bit size of FFFFFFFF says that the true one stands in `ds64`, the first chunk, whose body starts at place 20. It
-- holds the RIFF's size, that of `data` and a number of samples (8 bytes each), the number of entries of a table (4),
-- and the entries, each an identifier (4) and a size (8). Bytes that are missing count as 0. Definitions only.
use Rattle.std.specs.Prelude.{ℕ, zero, suc, ◌+◌, ◌-◌, ◌/◌, ◌^◌, min, Bool, true, cond, ◌&&◌, ◌||◌, List, [], ◌∷◌, eqb}
use Rattle.std.specs.Prelude.{leb}
use Rattle.wav_format.specs.Format.{number}
use Rattle.riff_chunks.specs.Walk.{data_id}
use Rattle.true_sizes.specs.declared.Entry.{Entry}

-- The names `RF64`, `BW64` and `ds64`.
abbrev pub rf64_id : ℕ
rf64_id = 0x3436_4652

abbrev pub bw64_id : ℕ
bw64_id = 0x3436_5742

abbrev pub ds64_id : ℕ
ds64_id = 0x3436_7364

-- Whether the sizes of a file may stand in a `ds64`. In a RIFF file `ds64` is an unknown chunk.
abbrev pub is_long : List ℕ → Bool
is_long b = eqb (number 4 b 0) rf64_id || eqb (number 4 b 0) bw64_id

-- The value of a 32-bit size whose true value stands elsewhere, and the largest size that is accepted.
abbrev pub full : ℕ
full = 0xffff_ffff

abbrev pub largest : ℕ
largest = 2 ^ 40

-- ---- the fields of `ds64`
abbrev pub ds64_size : List ℕ → ℕ
ds64_size b = number 4 b 16

abbrev pub riff_size64 : List ℕ → ℕ
riff_size64 b = number 8 b 20

abbrev pub data_size64 : List ℕ → ℕ
data_size64 b = number 8 b 28

-- The number of entries that the table claims, but no more than the body holds.
abbrev pub entry_count : List ℕ → ℕ
entry_count b = min (number 4 b 44) ((ds64_size b - 28) / 12)

abbrev pub entry_at : List ℕ → ℕ → Entry
entry_at b at = record { id = number 4 b at; size = number 8 b (at + 4) }

unfoldable pub entries_from : List ℕ → ℕ → ℕ → List Entry
entries_from b zero at = []
entries_from b (suc n) at = entry_at b at ∷ entries_from b n (at + 12)

abbrev pub table_of : List ℕ → List Entry
table_of b = entries_from b (entry_count b) 48

-- ---- the sizes in the table
-- The size in the first entry with the identifier. If there is none, the 32-bit size is the true one.
unfoldable pub size_in : ℕ → List Entry → ℕ
size_in id [] = full
size_in id (e ∷ es) = cond (eqb e.id id) e.size (size_in id es)

-- 19 tests every entry, whether it is used or not.
unfoldable pub all_small : List Entry → Bool
all_small [] = true
all_small (e ∷ es) = leb e.size largest && all_small es

abbrev pub small_sizes : List ℕ → Bool
small_sizes b = leb (data_size64 b) largest && all_small (table_of b)

-- The size of a chunk whose 32-bit size is FFFFFFFF. `ds64` itself has no entry, because it stands before the table.
abbrev pub size64 : List ℕ → ℕ → ℕ
size64 b id = cond (eqb id data_id) (data_size64 b) (cond (eqb id ds64_id) full (size_in id (table_of b)))

abbrev pub true_size : List ℕ → ℕ → ℕ → ℕ
true_size b id field = cond (is_long b && eqb field full) (size64 b id) field
