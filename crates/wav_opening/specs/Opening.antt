-- W10. The first bytes of a WAV file of any length, its letters and, in RF64 and BW64, its `ds64`: what they say of 9,
-- 18, 19 and the RIFF's size. `size` is the length of the file, which the caller passes, and b are as many of its first
-- bytes as are lent. Bytes that are missing count as 0. Definitions only.
use Rattle.std.specs.Prelude.{ℕ, ◌+◌, ◌*◌, Bool, true, cond, not, ◌&&◌, ◌||◌, List, [], ◌∷◌, eqb, leb, length}
use Rattle.refusal_order.specs.Order.{Test, ◌unless◌, first_of}
use Rattle.wav_format.specs.Format.{number}
use Rattle.wav.specs.Wave.{riff_id, wave_id, riff_size}
use Rattle.true_sizes.specs.Sizes.{is_long, full, ds64_id, ds64_size, riff_size64, entry_count, small_sizes}
use Rattle.wav_opening.specs.declared.Begun.{Begun}

-- The file begins with `RIFF`, `RF64` or `BW64`, and `WAVE` follows.
abbrev pub has_letters : List ℕ → Bool
has_letters b = (eqb (number 4 b 0) riff_id || is_long b) && eqb (number 4 b 8) wave_id

-- `ds64` is the first chunk, has 28 bytes or more, and lies in the file.
abbrev pub has_ds64 : List ℕ → ℕ → Bool
has_ds64 b size = eqb (number 4 b 12) ds64_id && (leb 28 (ds64_size b) && leb (20 + ds64_size b) size)

-- Whether the sizes are those of `ds64`.
abbrev pub uses_ds64 : List ℕ → ℕ → Bool
uses_ds64 b size = is_long b && has_ds64 b size

-- The RIFF's size: the 32-bit one, or the one in `ds64` if there is a `ds64` and the 32-bit one is FFFFFFFF.
abbrev pub true_riff : List ℕ → ℕ → ℕ
true_riff b size = cond (uses_ds64 b size && eqb (riff_size b) full) (riff_size64 b) (riff_size b)

-- The place where the walk ends. The RIFF's size counts from place 8 on.
abbrev pub end_of : List ℕ → ℕ → ℕ
end_of b size = 8 + true_riff b size

-- 9. The file has the letters, and a RIFF size of at least 4.
abbrev pub is_wave : List ℕ → ℕ → Bool
is_wave b size = leb 12 size && (has_letters b && leb 4 (true_riff b size))

-- 18. The first chunk of an RF64 or BW64 is a `ds64`.
abbrev pub sizes_there : List ℕ → ℕ → Bool
sizes_there b size = not (is_long b) || has_ds64 b size

-- 19. No size in `ds64` is above 2^40.
abbrev pub sizes_small : List ℕ → ℕ → Bool
sizes_small b size = cond (uses_ds64 b size) (small_sizes b) true

-- 10 for the RIFF's size: the RIFF ends inside the file.
abbrev pub riff_held : List ℕ → ℕ → Bool
riff_held b size = leb (end_of b size) size

-- ---- how many bytes must be lent
-- How many bytes must be lent, or 0 if the n lent ones are enough. A step that is taken needs the first `reach` bytes;
-- if they are lent, the later steps decide.
abbrev pub asks : ℕ → Bool → ℕ → ℕ → ℕ
asks n made reach later = cond made (cond (leb reach n) later reach) 0

-- The opening needs the letters, for RF64 and BW64 also the head of the first chunk, and for a `ds64` also its fixed
-- part and its table.
abbrev pub opening_needs : List ℕ → ℕ → ℕ
opening_needs b size =
    asks (length b) (leb 12 size) 12
    (asks (length b) (has_letters b && (is_long b && leb 20 size)) 20
    (asks (length b) (has_ds64 b size) 48
    (asks (length b) (leb 4 (true_riff b size)) (48 + 12 * entry_count b) 0)))

-- ---- the refusals that the opening decides
-- 1: more bytes are lent than the file has. 2: fewer are lent than the opening needs.
abbrev pub hand_tests : List ℕ → ℕ → List Test
hand_tests b size = 1 unless leb (length b) size ∷ 2 unless eqb (opening_needs b size) 0 ∷ []

abbrev pub opening_tests : List ℕ → ℕ → List Test
opening_tests b size =
    9 unless is_wave b size
    ∷ 18 unless sizes_there b size
    ∷ 19 unless sizes_small b size
    ∷ 10 unless riff_held b size
    ∷ []

-- The refusal, and the end of the walk, which is 0 if there is a refusal.
abbrev pub told_of : List ℕ → ℕ → Begun
told_of b size =
    record {
      refusal = first_of (opening_tests b size);
      end = cond (eqb (first_of (opening_tests b size)) 0) (end_of b size) 0;
    }

-- The same, with 1 and 2 tested first.
abbrev pub begun_of : List ℕ → ℕ → Begun
begun_of b size =
    cond (eqb (first_of (hand_tests b size)) 0) (told_of b size)
    (record { refusal = first_of (hand_tests b size); end = 0 })
