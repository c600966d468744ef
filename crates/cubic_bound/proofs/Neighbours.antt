-- The four taps of a reading are the neighbours. After a run from opening and one more sample, a tap of the ring is the
-- accepted sample with its number (K8), and so is its whole number; one that is not held reads 0.0. Assumes nothing.
use mathlib.Core.Path.{◌≡◌, refl, ap, ◌∙◌}
use mathlib.Core.Bool.{Bool, true, false, ◌&&◌, cond}
use mathlib.Core.List.{List, [], ◌∷◌, ◌++◌}
use Prim.Native.Nat.{ℕ, zero, suc, ◌+◌, ◌^◌, ◌<◌}
use native.Mathlib.Nat.{zero-add, add-zero}
use native.Mathlib.Omega.{arith}
use borrow.Author.Tests.{ltb-true}
use lib.Dec.{leb, ltb, lit≤}
use lib.IntN.{ℤ, pos, negsuc}
use lib.ListN.{length, get_or, length-append}
use lib.Ieee.{Float, nan, fin}
use Rattle.ring.specs.Taps.{value_of, tap_of, pick, held, ahead, overwritten}
use Rattle.ring.specs.Length.{zeros}
use Rattle.variable_delay.specs.Reader.{stored}
use Rattle.runs.specs.Filled.{stored_from, filled, numbered}
use Rattle.runs.proofs.Filled.{tap-numbered}
use Rattle.cubic_bound.specs.Desk.{WholeSample, WholeSamples, none, also, neighbour}
use Rattle.cubic_bound.proofs.Sixths.{Part}

-- ---- one more sample
stored_last : (i : ℕ) (xs ss : List Float) (s : Float)
    → stored_from i xs (ss ++ s ∷ []) ≡ stored (i + length ss) (stored_from i xs ss) s
unfolding stored_from
stored_last i xs [] s = rw (add-zero i)
stored_last i xs (t ∷ ss) s =
    let e : i + 1 + length ss ≡ i + suc (length ss) = omega arith in
    stored_last (i + 1) (stored i xs t) ss s ∙ ap (λ (k : ℕ). stored k (stored_from (i + 1) (stored i xs t) ss) s) e

-- ---- whole numbers of samples
sample-part : {x : Float} {s : ℤ} → WholeSample x s → Part x s 23 (2 ^ 23)
sample-part w = record { steps = record { is = w.is }; small = w.small }

none-part : Part (fin false 0 (pos 0)) (pos 0) 23 (2 ^ 23)
none-part = record { steps = record { is = record { real = tt; same = omega arith } }; small = lit≤ tt }

pub as_many : {xs : List Float} {ss : List ℤ} → WholeSamples xs ss → length xs ≡ length ss
as_many none = refl
as_many (also x w) = ap suc (as_many w)

with-last : {xs : List Float} {ss : List ℤ} {x : Float} {s : ℤ} → WholeSamples xs ss → WholeSample x s
    → WholeSamples (xs ++ x ∷ []) (ss ++ s ∷ [])
with-last none x = also x none
with-last (also y w) x = also y (with-last w x)

sample-at : {xs : List Float} {ss : List ℤ} (k : ℕ) → WholeSamples xs ss → k < length ss
    → Part (get_or xs k nan) (get_or ss k (pos 0)) 23 (2 ^ 23)
sample-at k none h = absurd (omega arith)
sample-at zero (also x w) h = sample-part x
sample-at (suc k) (also x w) h = sample-at k w (omega arith)

numbered_is : (len : ℕ) {xs : List Float} {ss : List ℤ} → WholeSamples xs ss → (z : ℤ)
    → Part (value_of (numbered len xs z)) (neighbour len ss z) 23 (2 ^ 23)
numbered_is len w (negsuc k) = none-part
numbered_is len {xs} {ss} w (pos k) = rw (as_many w) (go (ltb k (length ss)) (leb (length ss) (k + len)) refl)
  where
    go : (a b : Bool) → ltb k (length ss) ≡ a
        → Part (value_of (pick a (pick b (held (get_or xs k nan)) overwritten) ahead))
        (cond (a && b) (get_or ss k (pos 0)) (pos 0)) 23 (2 ^ 23)
    go true true e = sample-at k w (ltb-true k (length ss) e)
    go true false e = none-part
    go false b e = none-part

-- ---- the ring that a run from opening left, with one more sample
pub neighbour-is : (len : ℕ) {xs : List Float} {ss : List ℤ} {x : Float} {s : ℤ} → WholeSamples xs ss → WholeSample x s
    → (z : ℤ)
    → Part (tap_of (stored (length xs) (filled len xs) x) (length xs + 1) z) (neighbour len (ss ++ s ∷ []) z) 23
    (2 ^ 23)
neighbour-is len {xs} {x = x} w v z =
    let ring : filled len (xs ++ x ∷ []) ≡ stored (length xs) (filled len xs) x =
    stored_last 0 (zeros len) xs x ∙ ap (λ (k : ℕ). stored k (filled len xs) x) (zero-add (length xs)) in
    rw (← ring, ← length-append xs (x ∷ []), tap-numbered len (xs ++ x ∷ []) z) (numbered_is len (with-last w v) z)
