-- One sample more: from what the code holds, as a block of one, and at the end of the samples that are counted so far.
-- Assumes nothing.
use Rattle.std.proofs.Common.{◌≡◌, ℕ, ◌+◌, ◌-◌, ◌<◌, min, Bool, true, false, eqb, leb, List, [], ◌∷◌, length, get_or}
use Rattle.std.proofs.Common.{take, sym, refl, ap, ◌∙◌, add-zero, add-one, arith, length-take-le, take_all, take-suc}
use Rattle.std.proofs.Common.{eq-eqb, ne_eqb, eqb-true, leb-false, leb-true}
use borrow.Author.Tests.{eqb-false}
use lib.Ieee.{Float}
use Rattle.constants.specs.Numbers.{limit}
use Rattle.absent_taps.specs.declared.Absent.{Absent}
use Rattle.absent_report.specs.declared.AbsentReport.{AbsentReport}
use Rattle.absent_report.specs.Samples.{some_of, later_of, plus_of, absent_in}
use Rattle.absent_report.specs.Samples.{how_many, last_of, read_in, counted_in}
use Rattle.absent_report.specs.Inner.{with_absent}
use Rattle.absent_report.proofs.Cutting.{same, cut}

-- Whether there is any absent tap, from whether there is one of each kind.
any_of : (u a o i before : ℕ) → later_of (some_of u + some_of a + some_of o) i before ≡ later_of (u + a + o) i before
any_of u a o i before = go (eqb (u + a + o) 0) refl
  where
    go : (t : Bool) → eqb (u + a + o) 0 ≡ t
        → later_of (some_of u + some_of a + some_of o) i before ≡ later_of (u + a + o) i before
    go true e =
        let z : u + a + o ≡ 0 = eqb-true (u + a + o) 0 e in
        let y : some_of u + some_of a + some_of o ≡ 0 = omega arith in rw (e, eq-eqb _ 0 y)
    go false e = rw (e, ne_eqb (some_of u + some_of a + some_of o) 0 (λ y. eqb-false (u + a + o) 0 e (omega arith)))

two-kinds : (a b : ℕ) → min (min a 1 + min b 1) 1 ≡ min (a + b) 1
two-kinds a b = omega arith

cut-first : (x y : ℕ) → min (x + y) 1 ≡ min (min x 1 + y) 1
cut-first x y = omega arith

three-kinds : (u a o : ℕ) → some_of (some_of u + some_of a + some_of o) ≡ some_of (u + a + o)
three-kinds u a o =
    cut-first (min u 1 + min a 1) (min o 1) ∙ ap (λ (n : ℕ). min (n + min o 1) 1) (two-kinds u a)
    ∙ two-kinds (u + a) o

pub together : (i : ℕ) (s : Absent) (r : AbsentReport) {u a o m v w x l : ℕ} → u ≡ some_of s.unwritten
    → a ≡ some_of s.ahead → o ≡ some_of s.overwritten → m ≡ plus_of r.samples (some_of (u + a + o))
    → v ≡ plus_of r.unwritten (some_of s.unwritten) → w ≡ plus_of r.ahead (some_of s.ahead)
    → x ≡ plus_of r.overwritten (some_of s.overwritten) → l ≡ later_of (u + a + o) i r.last
    → record { samples = m; unwritten = v; ahead = w; overwritten = x; last = l } ≡ with_absent i s r
together i s r d e f m v w x l =
    same (m ∙ ap (plus_of r.samples)
    (rw (d, e, f) (three-kinds s.unwritten s.ahead s.overwritten))) v w x
    (l ∙ rw (d, e, f) (any_of s.unwritten s.ahead s.overwritten i r.last))

alone : (n m : ℕ) → plus_of n m ≡ plus_of n (m + 0)
alone n m = rw (add-zero m)

pub block-of-one : (r : AbsentReport) (len i : ℕ) (y : Float)
    → with_absent i (absent_in len i y) r ≡ counted_in r len i (y ∷ [])
unfolding how_many last_of
block-of-one r len i y =
    same (alone r.samples _) (alone r.unwritten _) (alone r.ahead _) (alone r.overwritten _) refl

pub one_more : (r : AbsentReport) (len i : ℕ) (ds : List Float) (k : ℕ) (z : Float) {s t : AbsentReport}
    → s ≡ counted_in r len i (take k ds) → k < length ds → t ≡ counted_in s len (i + k) (get_or ds k z ∷ [])
    → t ≡ counted_in r len i (take (k + 1) ds)
one_more r len i ds k z {s} {t} p l q =
    q ∙ rw p
    (ap (λ (n : ℕ). counted_in (counted_in r len i (take k ds)) len (i + n) (get_or ds k z ∷ []))
    (sym (length-take-le k ds (omega arith)))
    ∙ sym (cut r len i (take k ds) (get_or ds k z ∷ [])) ∙ rw (add-one k, take-suc ds k z l))

-- The samples that the loop goes through are those of the block that are read.
pub all_read : (i frames : ℕ) (ds : List Float) (n : ℕ) → n ≡ min (min frames (length ds)) (limit - i)
    → take n ds ≡ read_in i frames ds
all_read i frames ds n e = go (leb (min frames (limit - i)) (length ds)) refl
  where
    go : (t : Bool) → leb (min frames (limit - i)) (length ds) ≡ t → take n ds ≡ read_in i frames ds
    go true h =
        let l = leb-true (min frames (limit - i)) (length ds) h in
        let f : n ≡ min frames (limit - i) = e ∙ omega (arith, l) in rw f
    go false h =
        let l = leb-false (min frames (limit - i)) (length ds) h in
        take_all n ds (omega (arith, e, l)) ∙ sym (take_all (min frames (limit - i)) ds (omega (arith, l)))
