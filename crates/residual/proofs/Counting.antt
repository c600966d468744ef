-- Counting differences one by one, or a block of them at once: there is room for each. Assumes nothing.
use Rattle.std.proofs.Common.{◌≡◌, ℕ, suc, ◌+◌, ◌*◌, ◌%◌, ◌^◌, ◌<◌, ◌≤◌, cond, ltb, List, [], ◌∷◌, length, take}
use Rattle.std.proofs.Common.{ℤ, sym, subst, zero-add, arith, length-take-le}
use mathlib.Core.List.{foldl}
use Rattle.residual.specs.declared.tally.Tally.{Tally}
use Rattle.residual.specs.Report.{differences}
use Rattle.residual.specs.Tallies.{step_of, Room, Ready}
use Rattle.residual.specs.Blocks.{added_to}
use Rattle.report_tests.proofs.WideSums.{square-below}
use Rattle.residual.proofs.SumHalves.{high_half, low_half}
use Rattle.residual.proofs.Stretches.{Small, none, more, small-differences, small-take, length-differences}

-- ---- room
pub high-below : (h l n : ℕ) → h * 2 ^ 64 + l ≤ n * 2 ^ 48 → n ≤ 2 ^ 36 → h ≤ 2 ^ 20
high-below h l n s r = omega arith

room-step : (t : Tally) (d n : ℕ) → d < 2 ^ 24 → Room t (suc n) → Room (step_of t d) n
unfolding step_of
room-step t d n h r =
    let q : d * d < 2 ^ 48 = square-below d h in
    let c : t.number + suc n ≤ 2 ^ 36 = r.counts in
    let s : t.high * 2 ^ 64 + t.low ≤ t.number * 2 ^ 48 = r.sum in
    record { counts = omega arith; sum = omega arith; half = omega arith }

pub room-fold : (t : Tally) (ds : List ℕ) (n : ℕ) → Small ds → Room t (length ds + n) → Room (foldl step_of t ds) n
room-fold t [] n none r = subst (Room t) (zero-add n) r
room-fold t (d ∷ ds) n (more h s) r =
    room-fold (step_of t d) ds n s (room-step t d (length ds + n) h (subst (Room t) (omega arith) r))

pub room-less : {t : Tally} {n : ℕ} (m : ℕ) → m ≤ n → Room t n → Room t m
room-less m h r = record { counts = omega (arith, r.counts); sum = r.sum; half = r.half }

-- ---- one difference, field by field
pub step_is : (t : Tally) (d : ℕ) {g x w k : ℕ} → t.low < 2 ^ 64 → d * d < 2 ^ 48
    → w ≡ (t.low + d * d) % 2 ^ 64 → g ≡ cond (ltb t.largest d) d t.largest
    → x ≡ cond (ltb t.largest d) t.number t.index → k ≡ cond (ltb w (d * d)) 1 0
    → ◌≡◌ {A = Tally}
    (record { number = t.number + 1; largest = g; index = x; high = t.high + k; low = w })
    (step_of t d)
unfolding step_of
step_is t d half small ew eg ex ek =
    let less : d * d < 2 ^ 64 = omega arith in
    rw (ek, eg, ex, ew, high_half t.high t.low (d * d) half less, low_half t.high t.low (d * d) half less)

-- A whole block of differences, field by field.
pub added_is : (t : Tally) (n s : ℕ) {w k : ℕ} → t.low < 2 ^ 64 → s < 2 ^ 64 → w ≡ (t.low + s) % 2 ^ 64
    → k ≡ cond (ltb w s) 1 0
    → ◌≡◌ {A = Tally}
    (record { number = t.number + n; largest = t.largest; index = t.index; high = t.high + k; low = w })
    (added_to t n s)
unfolding added_to
added_is t n s half small ew ek =
    rw (ek, ew, high_half t.high t.low s half small, low_half t.high t.low s half small)

-- ---- room before the turn at index i
pub room_for : {t : Tally} {xs ys : List ℤ} (i n : ℕ) → Ready t xs ys → i + n ≤ length xs → {v : Tally}
    → v ≡ foldl step_of t (take i (differences xs ys)) → Room v n
room_for {t} {xs} {ys} i n ready inside e =
    let ds = differences xs ys in
    let a = ready.alike in
    let l = length-differences xs ys a.long in
    let k = length-take-le i ds (omega arith) in
    subst (λ (v : Tally). Room v n) (sym e)
    (room-fold t (take i ds) n (small-take ds i (small-differences xs ys a.left a.right))
    (room-less (length (take i ds) + n) (omega arith) ready.room))
