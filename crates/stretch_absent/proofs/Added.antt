-- The sums of absent taps item by item, how large they can be, and what ends without any. Assumes nothing.
use mathlib.Core.Path.{◌≡◌, refl, ap, ◌∙◌}
use mathlib.Core.Bool.{Bool, true, false, ◌&&◌, cond}
use mathlib.Core.List.{List}
use Prim.Native.Nat.{ℕ, ◌+◌, ◌*◌, ◌^◌, ◌≤◌, ◌<◌, min}
use native.Mathlib.Numerals.{add-one}
use native.Mathlib.Omega.{arith}
use borrow.Author.Tests.{ne_eqb, le-leb, lt-leb}
use lib.Dec.{leb}
use lib.ListN.{length, get_or}
use lib.Ieee.{Float, nan}
use Rattle.ring.specs.Length.{zeros}
use Rattle.variable_delay.specs.Reader.{position_of}
use Rattle.absent_taps.specs.declared.Absent.{Absent}
use Rattle.absent_taps.specs.Absent.{absent_of, none, absent_at, first_tap}
use Rattle.absent_taps.proofs.Laws.{all_told}
use Rattle.told_call.specs.Told.{counted_of}
use Rattle.stretch.specs.Singles.{sum_of}
use Rattle.stretch_absent.specs.Sums.{item_absent, sums_of}

-- Each number is at most as many as the taps.
pub record AtMost (b : ℕ) (s : Absent) : Type 0 where
  pub unwritten : s.unwritten ≤ b
  pub ahead : s.ahead ≤ b
  pub overwritten : s.overwritten ≤ b

pub few : (xs : List Float) (count : ℕ) (p : Float) (n : ℕ) → AtMost n (absent_at xs count p n)
few xs count p n =
    let h = all_told xs count (first_tap p n) n in
    record { unwritten = omega (arith, h); ahead = omega (arith, h); overwritten = omega (arith, h) }

module _ (len before : ℕ) (ds : List Float) (done taps : ℕ) where
  -- What the loop keeps: the three sums over the first k items, each of which adds at most 128.
  pub record Adding (n u a o k : ℕ) : Type 0 where
    pub many : n ≡ min done (length ds)
    pub place : k ≤ n
    pub kernel : taps ≤ 128
    pub bound : before + n ≤ 2 ^ 36
    pub sums : absent_of u a o ≡ sum_of (item_absent len before ds taps) k
    pub most : AtMost (128 * k) (absent_of u a o)

  pub begun : {n : ℕ} → n ≡ min done (length ds) → taps ≤ 128 → before + n ≤ 2 ^ 36 → Adding n 0 0 0 0
  unfolding sum_of
  begun e t b =
      record {
        many = e;
        place = omega arith;
        kernel = t;
        bound = b;
        sums = refl;
        most = record { unwritten = omega arith; ahead = omega arith; overwritten = omega arith };
      }

  module _ {n u a o k : ℕ} (w : Adding n u a o k) where
    -- What item k adds.
    module _ {s : Absent} (e : s ≡ counted_of len (before + k) (before + k + 1) (get_or ds k nan) taps) where
      item : s ≡ item_absent len before ds taps k
      item = e ∙ rw (ne_eqb (before + k) (before + k + 1) (λ h. omega arith))

      pub least : AtMost 128 s
      least =
          let f = few (zeros len) (before + k + 1) (position_of (before + k) (get_or ds k nan)) taps in
          rw item
          (record {
            unwritten = omega (arith, f.unwritten, w.kernel);
            ahead = omega (arith, f.ahead, w.kernel);
            overwritten = omega (arith, f.overwritten, w.kernel);
          })

      pub one_more : k < n → Adding n (u + s.unwritten) (a + s.ahead) (o + s.overwritten) (k + 1)
      unfolding sum_of
      one_more l =
          let f = least in
          record {
            many = w.many;
            place = omega arith;
            kernel = w.kernel;
            bound = w.bound;
            sums = rw (add-one k, ← w.sums, ← item);
            most =
                record {
                  unwritten = omega (arith, w.most.unwritten, f.unwritten);
                  ahead = omega (arith, w.most.ahead, f.ahead);
                  overwritten = omega (arith, w.most.overwritten, f.overwritten);
                };
          }

    pub ended : n ≤ k → absent_of u a o ≡ sums_of len before ds done taps
    ended h =
        let same : k ≡ min done (length ds) = omega (arith, w.many, w.place) in
        let b : before + min done (length ds) ≤ 2 ^ 36 = omega (arith, w.many, w.bound) in
        w.sums
        ∙ rw (le-leb taps 128 w.kernel, le-leb (before + min done (length ds)) (2 ^ 36) b)
        (ap (sum_of (item_absent len before ds taps)) same)

  -- What is out of range gives three zeros.
  pub too-many-taps : 128 < taps → none ≡ sums_of len before ds done taps
  too-many-taps h = rw (lt-leb taps 128 h)

  pub too-many-items : 2 ^ 36 < before + min done (length ds) → none ≡ sums_of len before ds done taps
  too-many-items h = rw (lt-leb (before + min done (length ds)) (2 ^ 36) h) (by (leb taps 128))
    where
      by : (t : Bool) → none ≡ cond (t && false) (sum_of (item_absent len before ds taps) (min done (length ds))) none
      by true = refl
      by false = refl
