-- What the parts of a reading of two neighbours promise one another. Definitions only.
use Rattle.std.specs.Prelude.{◌≡◌, List, ℕ, ◌+◌, ◌*◌, ◌%◌, ◌≤◌, ◌<◌, length, get_or, Float}
use Rattle.std.specs.Float.{nan}
use Rattle.answer.specs.Answers.{zero-f}
use Rattle.loop_laws.specs.Loops.{fold}
use Rattle.sinc_read_f32.specs.Sums.{tap_turn}
use Rattle.sinc_read_f32.specs.Reading.{read_of}

-- The taps stand side by side in a ring of length len, from a place on, and a table of length n has both rows.
pub record Lies (n taps len place phase : ℕ) : Type 0 where
  pub some : 0 < taps
  pub inside : place + taps ≤ len
  pub rows : phase * taps + taps + taps ≤ n

-- They do, and their sum is the reading.
pub record Straight (table : List Float) (taps phases : ℕ) (xs : List Float) (count : ℕ) (p : Float) (place phase : ℕ)
    (blend : Float) : Type 0 where
  pub lies : Lies (length table) taps (length xs) place phase
  pub reads : (v : Float)
      → v ≡ fold (tap_turn (λ k. get_or xs ((place + k) % length xs) nan) table blend taps phase) zero-f taps
      → v ≡ read_of table taps phases xs count p
