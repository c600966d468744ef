-- The least number that is not below x is either this one or one of those after it. Assumes nothing.
use mathlib.Core.Path.{◌≡◌}
use mathlib.Core.Bool.{true, false}
use Prim.Native.Nat.{ℕ, suc}
use lib.IntN.{pos}
use lib.Ieee.{Float, binary64, le, of_int}
use Rattle.delay_words.specs.Delays.{least_from}

pub found : {k : ℕ} (j n : ℕ) (x : Float) → k ≡ suc j → le x (of_int binary64 (pos n)) ≡ true → least_from k n x ≡ n
unfolding least_from
found j n x e t = rw (e, t)

pub later : {k : ℕ} (j n : ℕ) (x : Float) → k ≡ suc j → le x (of_int binary64 (pos n)) ≡ false
    → least_from k n x ≡ least_from j (suc n) x
unfolding least_from
later j n x e t = rw (e, t)

pub ended : {k : ℕ} (n : ℕ) (x : Float) → k ≡ 0 → least_from k n x ≡ n
unfolding least_from
ended n x e = rw e
