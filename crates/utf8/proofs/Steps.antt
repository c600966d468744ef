-- One step over a text: its next byte, and what is left after it. Assumes nothing.
use mathlib.Core.Path.{◌≡◌}
use mathlib.Core.List.{List}
use Prim.Native.Nat.{ℕ, suc, ◌<◌}
use lib.ListN.{length, drop, get_or}
use lib.Seq.{drop-cons, drop-length}
use Rattle.utf8.specs.Utf8.{next_of, after}

pub step : (text : List ℕ) (place k : ℕ) → k < length text
    → after place (drop k text) ≡ after (next_of place (get_or text k 0)) (drop (suc k) text)
unfolding after
step text place k h = rw (drop-cons text k 0 h)

pub ended : (text : List ℕ) (place : ℕ) {k : ℕ} → k ≡ length text → after place (drop k text) ≡ place
unfolding after
ended text place e = rw (e, drop-length text)
