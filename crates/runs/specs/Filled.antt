-- K1, K8. A ring into which samples are stored one after the other, and a tap by its number among them. Definitions
-- only.
use Rattle.std.specs.Prelude.{ℕ, ◌+◌, List, [], ◌∷◌, leb, ltb, ℤ, pos, negsuc, length, get_or, Float}
use Rattle.std.specs.Float.{nan}
use Rattle.ring.specs.Length.{zeros}
use Rattle.ring.specs.Taps.{Tap, held, unwritten, ahead, overwritten, pick}
use Rattle.variable_delay.specs.Reader.{stored}

-- The ring xs after samples have been stored, the first of which has the number i.
unfoldable pub stored_from : ℕ → List Float → List Float → List Float
stored_from i xs [] = xs
stored_from i xs (s ∷ ss) = stored_from (i + 1) (stored i xs s) ss

-- A ring of length len into which the samples ss were stored since opening.
abbrev pub filled : ℕ → List Float → List Float
filled len ss = stored_from 0 (zeros len) ss

-- K8. A tap by its number among the samples ss since opening: the last `len` of them are held.
abbrev pub numbered : ℕ → List Float → ℤ → Tap
numbered len ss (negsuc k) = unwritten
numbered len ss (pos k) =
    pick (ltb k (length ss)) (pick (leb (length ss) (k + len)) (held (get_or ss k nan)) overwritten) ahead
