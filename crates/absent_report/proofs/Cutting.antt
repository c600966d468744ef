-- W7. Cutting a stretch of samples differently gives the same report, and so does cutting it into any blocks. By
-- induction over the samples. Assumes nothing.
use Rattle.std.proofs.Common.{◌≡◌, ℕ, suc, ◌+◌, ◌≤◌, min, max, List, [], ◌∷◌, ◌++◌, length, sym, refl, ap, ◌∙◌}
use Rattle.std.proofs.Common.{add-zero, zero-add, arith}
use mathlib.Core.List.{flatten}
use lib.Ieee.{Float}
use Rattle.sizes.specs.Sizes.{most}
use Rattle.absent_report.specs.declared.AbsentReport.{AbsentReport}
use Rattle.absent_report.specs.Samples.{Kind, how_many, last_of, absent_taps, absent_in, later_of, counted_in}
use Rattle.absent_report.specs.Samples.{unwritten_taps, ahead_taps, overwritten_taps, plus_of, in_blocks}

pub same : {r s : AbsentReport} → r.samples ≡ s.samples → r.unwritten ≡ s.unwritten → r.ahead ≡ s.ahead
    → r.overwritten ≡ s.overwritten → r.last ≡ s.last → r ≡ s
same {r} {s} a b c d e = go r.samples r.unwritten r.ahead r.overwritten r.last a b c d e
  where
    go : (u v w x y : ℕ) → u ≡ s.samples → v ≡ s.unwritten → w ≡ s.ahead → x ≡ s.overwritten → y ≡ s.last
        → record { samples = u; unwritten = v; ahead = w; overwritten = x; last = y } ≡ s
    go u v w x y a b c d e = rw (a, b, c, d, e)

many-append : (kind : Kind) (len i : ℕ) (xs ys : List Float)
    → how_many kind len i (xs ++ ys) ≡ how_many kind len i xs + how_many kind len (i + length xs) ys
unfolding how_many
many-append kind len i [] ys = rw (add-zero i, zero-add (how_many kind len i ys))
many-append kind len i (x ∷ xs) ys =
    let e : i + suc (length xs) ≡ suc i + length xs = omega arith in
    rw (many-append kind len (suc i) xs ys, e) (omega arith)

last-append : (before len i : ℕ) (xs ys : List Float)
    → last_of before len i (xs ++ ys) ≡ last_of (last_of before len i xs) len (i + length xs) ys
unfolding last_of
last-append before len i [] ys = rw (add-zero i)
last-append before len i (x ∷ xs) ys =
    let e : i + suc (length xs) ≡ suc i + length xs = omega arith in
    last-append (later_of (absent_taps (absent_in len i x)) i before) len (suc i) xs ys ∙ rw e

-- A sum that stops at m.
stops : (a h k m : ℕ)
    → max a (min (a + (h + k)) m) ≡ max (max a (min (a + h) m)) (min (max a (min (a + h) m) + k) m)
stops a h k m = omega arith

pub cut : (r : AbsentReport) (len i : ℕ) (xs ys : List Float)
    → counted_in r len i (xs ++ ys) ≡ counted_in (counted_in r len i xs) len (i + length xs) ys
cut r len i xs ys =
    same (sum r.samples absent_taps) (sum r.unwritten unwritten_taps) (sum r.ahead ahead_taps)
    (sum r.overwritten overwritten_taps) (last-append r.last len i xs ys)
  where
    sum : (n : ℕ) (kind : Kind) → plus_of n (how_many kind len i (xs ++ ys))
        ≡ plus_of (plus_of n (how_many kind len i xs)) (how_many kind len (i + length xs) ys)
    sum n kind =
        ap (plus_of n) (many-append kind len i xs ys)
        ∙ stops n (how_many kind len i xs) (how_many kind len (i + length xs) ys) most

-- Without a sample the report stays as it was.
no_more : (n : ℕ) → n ≡ plus_of n 0
no_more n = omega arith

pub begun : (r : AbsentReport) (len i : ℕ) → r ≡ counted_in r len i []
unfolding how_many last_of
begun r len i =
    same (no_more r.samples) (no_more r.unwritten) (no_more r.ahead) (no_more r.overwritten) refl

-- Two ways to cut the same samples into blocks give the same report.
pub any-blocks : (r : AbsentReport) (len i : ℕ) (blocks : List (List Float))
    → in_blocks r len i blocks ≡ counted_in r len i (flatten blocks)
unfolding in_blocks flatten
any-blocks r len i [] = begun r len i
any-blocks r len i (ys ∷ blocks) =
    any-blocks (counted_in r len i ys) len (i + length ys) blocks ∙ sym (cut r len i ys (flatten blocks))

-- Of no more samples than there are words the numbers are exact: none of them has stopped.
few : (kind : Kind) (len i : ℕ) (ys : List Float) → how_many kind len i ys ≤ length ys
unfolding how_many
few kind len i [] = omega arith
few kind len i (y ∷ ys) = omega (arith, few kind len (suc i) ys)

pub exact : (kind : Kind) (len i : ℕ) (ys : List Float) → length ys ≤ most
    → plus_of 0 (how_many kind len i ys) ≡ how_many kind len i ys
exact kind len i ys h = omega (arith, few kind len i ys, h)
