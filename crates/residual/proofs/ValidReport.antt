-- W13. What holds for a report that is not refused by 3, and for a call that is not refused. Assumes nothing.
use Rattle.std.proofs.Common.{◌≡◌, ◌+◌, ◌*◌, ◌^◌, ◌<◌, ◌≤◌, Bool, true, false, ◌&&◌, T, eqb, List, length, ℤ, refl}
use Rattle.std.proofs.Common.{le_trans, le_of_lt, mul-le-mul_left, eqb-true, leb-true}
use Rattle.answer.proofs.Passed.{passed}
use Rattle.residual.specs.declared.Report.{Report}
use Rattle.residual.specs.Report.{sum_of}
use Rattle.residual.specs.Refusals.{all24, numbers_ok, room_for, place_ok, report_ok, verdict}
use Rattle.residual.specs.Tallies.{tally_of, Ready}
use Rattle.report_tests.proofs.BothTests.{left-true, right-true, both_true}
use Rattle.report_tests.proofs.WideSums.{square-below}
use Rattle.report_tests.proofs.Numbers.{numbers-in, in-numbers}

pub record Valid (r : Report) : Type 0 where
  pub few : r.number ≤ 2 ^ 36
  pub small : r.largest < 2 ^ 24
  pub placed : place_ok r.place r.number ≡ true
  pub least : r.largest * r.largest ≤ sum_of r
  pub most : sum_of r ≤ r.number * (r.largest * r.largest)

pub valid : (r : Report) → report_ok r ≡ true → Valid r
unfolding report_ok
valid r h =
    let placed = place_ok r.place r.number in
    let numbers = numbers_ok r.number r.largest (sum_of r) in
    let v = numbers-in r.number r.largest (sum_of r) (right-true placed numbers h) in
    record { few = v.few; small = v.small; placed = left-true placed numbers h; least = v.least; most = v.most }

pub valid-ok : (r : Report) → Valid r → report_ok r ≡ true
unfolding report_ok
valid-ok r v =
    both_true v.placed
    (in-numbers r.number r.largest (sum_of r)
    (record { few = v.few; small = v.small; least = v.least; most = v.most }))

-- ---- an accepted call
pub is_true : {b : Bool} → T b → b ≡ true
is_true {b = true} t = refl
is_true {b = false} t = absurd t

pub record Accepted (r : Report) (xs ys : List ℤ) : Type 0 where
  pub report : Valid r
  pub left : all24 xs ≡ true
  pub right : all24 ys ≡ true
  pub long : length xs ≡ length ys
  pub room : r.number + length xs ≤ 2 ^ 36

pub accepted : (r : Report) (xs ys : List ℤ) → verdict r xs ys ≡ 0 → Accepted r xs ys
unfolding verdict
accepted r xs ys v =
    let lengths = eqb (length xs) (length ys) in
    let fits = room_for r.number (length xs) in
    let p = passed (all24 xs && all24 ys) lengths (report_ok r) true true true true fits v in
    record {
      report = valid r (is_true p.p3);
      left = left-true (all24 xs) (all24 ys) (is_true p.p1);
      right = right-true (all24 xs) (all24 ys) (is_true p.p1);
      long = eqb-true (length xs) (length ys) (is_true p.p2);
      room = leb-true (r.number + length xs) (2 ^ 36) (is_true p.p8);
    }

pub ready : (r : Report) (xs ys : List ℤ) → r.low < 2 ^ 64 → Accepted r xs ys → Ready (tally_of r) xs ys
unfolding tally_of
ready r xs ys half a =
    let v = a.report in
    record {
      room = record {
        counts = a.room;
        sum = le_trans v.most (mul-le-mul_left r.number (le_of_lt (square-below r.largest v.small)));
        half = half;
      };
      alike = record { long = a.long; left = a.left; right = a.right };
    }
