-- The sums over the cascaded reader's four inner readings, from which of its inner samples were accepted. In an
-- accepted call those are the finite ones (W11d); if the inner accepted number grew by four, all were. Assumes nothing.
use Rattle.std.proofs.Common.{◌≡◌, ℕ, ◌+◌, ◌*◌, ◌<◌, ◌≤◌, Bool, true, false, cond, ◌&&◌, T, eqb, List, length, sym}
use Rattle.std.proofs.Common.{refl, ap, ◌∙◌, arith, eqb→eq}
use denote.Floats.{passes}
use lib.Ieee.{Float, binary64, fits, mul, of_int}
use lib.Ieee.Scale.{finite}
use Rattle.constants.specs.Numbers.{two-f}
use Rattle.absent_taps.specs.declared.Absent.{Absent}
use Rattle.absent_taps.specs.Absent.{none, plus}
use Rattle.absent_taps.proofs.AtOnce.{same}
use Rattle.high_delay.specs.Between.{num, high_delay}
use Rattle.kernels.specs.declared.Kernel.{Kernel}
use Rattle.kernels.specs.Kernels.{own_ok, table_for, taps_of}
use Rattle.fir_filter.specs.Filters.{pushed, output_of}
use Rattle.variable_delay.specs.Reader.{verdict}
use Rattle.oversampled_refusals.proofs.Accepted.{Taken, taken}
use Rattle.oversampled_delay.proofs.Tests.{parted}
use Rattle.cascaded_delay.specs.Halves.{Turn, Inner, High, inner_of, high_of, quarter_of, half_of, both_of}
use Rattle.cascaded_delay.specs.Reader.{Lent, lengths_of, ring_ok, needed_by, held_ok, lent_ok, outer_of, due_of}
use Rattle.cascaded_delay.specs.Reader.{from_of}
use Rattle.cascaded_delay.specs.Reader.{turn_after, high_before}
use Rattle.cascaded_delay.specs.declared.CascadedOversampledVariableDelay4x.{CascadedOversampledVariableDelay4x}
use Rattle.oversampled_runs.proofs.InsideCascade.{quarter-inner, quarter-ring, inside-cascade}
use Rattle.told_oversampled.specs.Cascaded.{raised_of, up2_of, quarter_absent, absent_in}
use Rattle.told_oversampled.specs.Reckoned.{which_of, sums_of, with_reading, reckoned, saved_of, quarters_accepted}
use Rattle.told_oversampled.specs.declared.readings.Sums.{Sums}
use Rattle.told_oversampled.proofs.OneReading.{one-reading, advanced}
use Rattle.told_oversampled.proofs.PutBack.{put_back, saved-is}

-- The sums one after the other are those of the two halves.
halves : (a b c d : Absent) → plus (plus (plus (plus none a) b) c) d ≡ plus (plus a b) (plus c d)
halves a b c d = same (omega arith) (omega arith) (omega arith)

equal : (m n : ℕ) → eqb m n ≡ true → m ≡ n
equal m n e = eqb→eq m n (passes _ e)

module _ (k : Kernel) (d : CascadedOversampledVariableDelay4x) (l : Lent) (x y : Float)
    (accepted : due_of k d (lengths_of l) x y ≡ 0) where
  pub passed : Taken (ring_ok d && own_ok k) (lent_ok k d (lengths_of l)) 4 (outer_of d) x y
  passed = taken _ _ _ _ _ _ accepted

  abbrev ups : Bool
  ups = eqb (length l.up1) 33 && eqb (length l.up2) 33

  abbrev downs : Bool
  downs = eqb (length l.down2) 65 && eqb (length l.down1) 129

  held : held_ok (needed_by d) (length l.up1) (length l.up2) (length l.down2) (length l.down1)
      (length l.ring) ≡ true
  held =
      let two = eqb (length l.halfband) 65 && eqb (length l.last) 129 in
      let all = ups && downs && eqb (length l.ring) (needed_by d) in
      (parted two all (parted (two && all) (eqb (length l.table) (table_for k)) passed.lasting).0).1

  long : length l.ring ≡ needed_by d
  long = equal _ _ (parted (ups && downs) (eqb (length l.ring) (needed_by d)) held).1

  pub up2-long : length l.up2 ≡ 33
  up2-long =
      let kept = (parted (ups && downs) (eqb (length l.ring) (needed_by d)) held).0 in
      equal _ _ (parted (eqb (length l.up1) 33) (eqb (length l.up2) 33) (parted ups downs kept).0).1

  abbrev t : Turn
  t = turn_after k d l x y

  -- What each half finds, and what each of the four samples finds.
  abbrev h0 : High
  h0 = high_before d l

  abbrev h1 : High
  h1 = half_of t 0 h0

  abbrev after : ℕ → ℕ → List Float → Inner → Inner
  after p q up2 e = quarter_of t.read d t.halfband t.from t.delay p q up2 e

  abbrev e0 : Inner
  e0 = high_of d.inner l.down2 l.ring

  abbrev e1 : Inner
  e1 = after 0 0 (up2_of t 0 h0) e0

  abbrev e2 : Inner
  e2 = after 0 1 (up2_of t 0 h0) e1

  abbrev e3 : Inner
  e3 = after 1 0 (up2_of t 1 h1) e2

  abbrev e4 : Inner
  e4 = after 1 1 (up2_of t 1 h1) e3

  -- At 000's phase4 j: at most j inner samples more, and a ring of the same length.
  record At (j : ℕ) (e : Inner) : Type 0 where
    inner : e.inner ≤ d.inner + j
    ring : length e.ring ≡ length l.ring

  next : (p q j : ℕ) (up2 : List Float) (e : Inner) → At j e → At (j + 1) (after p q up2 e)
  next p q j up2 e a =
      let m = quarter-inner t.read d t.halfband t.from t.delay p q up2 e in
      record {
        inner = omega (arith, m, a.inner);
        ring = quarter-ring t.read d t.halfband t.from t.delay p q up2 e ∙ a.ring;
      }

  a0 : At 0 e0
  a0 = record { inner = omega arith; ring = refl }

  a1 : At 1 e1
  a1 = next 0 0 0 (up2_of t 0 h0) e0 a0

  a2 : At 2 e2
  a2 = next 0 1 1 (up2_of t 0 h0) e1 a1

  a3 : At 3 e3
  a3 = next 1 0 2 (up2_of t 1 h1) e2 a2

  module _ (f : T (fits binary64 (from_of d y))) where
    only : (p q : ℕ) (up2 : List Float) (e : Inner) → 2 * p + q < 4 → At (2 * p + q) e
        → verdict true true (inner_of d e.inner) (length e.ring) (raised_of t p q up2)
        (high_delay (from_of d y) y (2 * p + q + 1) 4) ≡ cond (finite (raised_of t p q up2)) 0 4
    only p q up2 e b a =
        inside-cascade k d l x y accepted f (2 * p + q) e.inner b a.inner e.ring (a.ring ∙ long)
        (raised_of t p q up2)

    -- One inner sample.
    quarter : (n p q : ℕ) (up2 : List Float) (e : Inner) → 2 * p + q < 4 → At (2 * p + q) e → (ok : Bool)
        → ok ≡ finite (raised_of t p q up2) → (s : Absent)
        → with_reading ok (length l.ring) (high_delay (from_of d y) y (2 * p + q + 1) 4) n (sums_of e.inner s)
        ≡ sums_of (after p q up2 e).inner (plus s (quarter_absent n t p q up2 e))
    unfolding quarter_of
    quarter n p q up2 e b a ok g s =
        rw (g, ← a.ring)
        (one-reading n (inner_of d e.inner) e.ring (raised_of t p q up2)
        (high_delay (from_of d y) y (2 * p + q + 1) 4) (finite (raised_of t p q up2)) _ (only p q up2 e b a) s)

    -- The four of them, if `ok` says which are finite.
    pub record Finite (ok : ℕ → Bool) : Type 0 where
      pub first : ok 0 ≡ finite (raised_of t 0 0 (up2_of t 0 h0))
      pub second : ok 1 ≡ finite (raised_of t 0 1 (up2_of t 0 h0))
      pub third : ok 2 ≡ finite (raised_of t 1 0 (up2_of t 1 h1))
      pub fourth : ok 3 ≡ finite (raised_of t 1 1 (up2_of t 1 h1))

    abbrev ys : ℕ → Float
    ys j = high_delay (from_of d y) y (j + 1) 4

    pub sums : (ok : ℕ → Bool) → Finite ok
        → (reckoned ok ys (length l.ring) (taps_of k) d.inner 4).absent ≡ absent_in k d l x y
    unfolding reckoned half_of
    sums ok g =
        let n = taps_of k in
        let one : ℕ → Sums → Sums = λ j s. with_reading (ok j) (length l.ring) (ys j) n s in
        ap (λ (s : Sums). s.absent)
        (ap (λ (s : Sums). one 3 (one 2 (one 1 s)))
        (quarter n 0 0 (up2_of t 0 h0) e0 (omega arith) a0 (ok 0) g.first none)
        ∙ ap (λ (s : Sums). one 3 (one 2 s)) (quarter n 0 1 (up2_of t 0 h0) e1 (omega arith) a1 (ok 1) g.second _)
        ∙ ap (one 3) (quarter n 1 0 (up2_of t 1 h1) e2 (omega arith) a2 (ok 2) g.third _)
        ∙ quarter n 1 1 (up2_of t 1 h1) e3 (omega arith) a3 (ok 3) g.fourth _)
        ∙ halves _ _ _ _

    -- If the inner accepted number grew by four, then each sample was finite.
    all-finite : (both_of t h0).inner ≡ d.inner + 4 → Finite (λ j. true)
    unfolding half_of quarter_of
    all-finite e =
        let b3 =
        advanced (finite (raised_of t 1 1 (up2_of t 1 h1))) (inner_of d e3.inner) _
        (only 1 1 (up2_of t 1 h1) e3 (omega arith) a3) (d.inner + 3) a3.inner (e ∙ ahead d.inner 4 3 refl) in
        let b2 =
        advanced (finite (raised_of t 1 0 (up2_of t 1 h1))) (inner_of d e2.inner) _
        (only 1 0 (up2_of t 1 h1) e2 (omega arith) a2) (d.inner + 2) a2.inner (b3.1 ∙ ahead d.inner 3 2 refl) in
        let b1 =
        advanced (finite (raised_of t 0 1 (up2_of t 0 h0))) (inner_of d e1.inner) _
        (only 0 1 (up2_of t 0 h0) e1 (omega arith) a1) (d.inner + 1) a1.inner (b2.1 ∙ ahead d.inner 2 1 refl) in
        let b0 =
        advanced (finite (raised_of t 0 0 (up2_of t 0 h0))) (inner_of d e0.inner) _
        (only 0 0 (up2_of t 0 h0) e0 (omega arith) a0) d.inner (omega arith) b1.1 in
        record { first = sym b0.0; second = sym b1.0; third = sym b2.0; fourth = sym b3.0 }
      where
        ahead : (i m n : ℕ) → m ≡ n + 1 → i + m ≡ i + n + 1
        ahead i m n h = omega arith

    -- What the code asks for: all, or each sample's test, for the first half with what was saved put back.
    back : pushed (up2_of t 1 h1) (2 * d.accepted + 1) (saved_of l.up2 d.accepted) ≡ up2_of t 0 h0
    unfolding half_of
    back =
        rw (saved-is l.up2 d.accepted up2-long passed.room)
        (put_back l.up2 (2 * d.accepted + 0) (2 * d.accepted + 1) _ _ (omega arith) up2-long)

    two_is : num 2 ≡ two-f
    unfolding of_int
    two_is = refl

    pub flags : (all : Bool) → (all ≡ true → (both_of t h0).inner ≡ d.inner + 4)
        → Finite (which_of (quarters_accepted all l.halfband (up2_of t 1 h1) d.accepted
        (saved_of l.up2 d.accepted)))
    flags true w =
        let g = all-finite (w refl) in
        record { first = g.first; second = g.second; third = g.third; fourth = g.fourth }
    flags false w =
        let a = 2 * d.accepted in
        let one : a + 1 ≡ a + 0 + 1 = omega arith in
        let two : a + 2 ≡ a + 1 + 1 = omega arith in
        record {
          first = rw (back, two_is) (at 0 (up2_of t 0 h0) one);
          second = rw (back, two_is) (at 1 (up2_of t 0 h0) one);
          third = rw two_is (at 0 (up2_of t 1 h1) two);
          fourth = rw two_is (at 1 (up2_of t 1 h1) two);
        }
      where
        at : (q : ℕ) (us : List Float) {m n : ℕ} → m ≡ n
            → finite (mul binary64 (output_of l.halfband us m 2 q) two-f)
            ≡ finite (mul binary64 (output_of l.halfband us n 2 q) two-f)
        at q us e = ap (λ (n : ℕ). finite (mul binary64 (output_of l.halfband us n 2 q) two-f)) e
