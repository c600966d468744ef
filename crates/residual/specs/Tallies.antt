-- A report as plain numbers while a stretch is counted. A missing place is 0. That is right for the first difference of
-- all: if it is above 0 it sets the place to 0, and if it is 0 it leaves it at 0. Definitions only.
use Rattle.std.specs.Prelude.{◌≡◌, ℕ, ◌+◌, ◌*◌, ◌/◌, ◌%◌, ◌^◌, ◌<◌, ◌≤◌, true, cond, List, length, ℤ, ◌==◌, nat_lt}
use Rattle.std.specs.Prelude.{Option, Some, None}
use Rattle.residual.specs.declared.Report.{Report}
use Rattle.residual.specs.declared.tally.Tally.{Tally}
use Rattle.residual.specs.Refusals.{all24}

abbrev pub index_of : Option ℕ → ℕ
index_of None = 0
index_of (Some k) = k

unfoldable pub tally_of : Report → Tally
tally_of r = record {
  number = r.number;
  largest = r.largest;
  index = index_of r.place;
  high = r.high;
  low = r.low;
}

unfoldable pub told_of : Tally → Report
told_of t = record {
  number = t.number;
  largest = t.largest;
  place = cond (t.number == 0) None (Some t.index);
  high = t.high;
  low = t.low;
}

abbrev pub tallied : Tally → ℕ
tallied t = t.high * 2 ^ 64 + t.low

unfoldable pub step_of : Tally → ℕ → Tally
step_of t d = record {
  number = t.number + 1;
  largest = cond (nat_lt t.largest d) d t.largest;
  index = cond (nat_lt t.largest d) t.number t.index;
  high = (tallied t + d * d) / 2 ^ 64;
  low = (tallied t + d * d) % 2 ^ 64;
}

-- There is room for n more differences below 2^24: the number stays at most 2^36, so the sum stays below 2^84.
pub record Room (t : Tally) (n : ℕ) : Type 0 where
  pub counts : t.number + n ≤ 2 ^ 36
  pub sum : tallied t ≤ t.number * 2 ^ 48
  pub half : t.low < 2 ^ 64

-- Two equally long stretches of 24-bit values.
pub record Alike (xs ys : List ℤ) : Type 0 where
  pub long : length xs ≡ length ys
  pub left : all24 xs ≡ true
  pub right : all24 ys ≡ true

pub record Ready (t : Tally) (xs ys : List ℤ) : Type 0 where
  pub room : Room t (length xs)
  pub alike : Alike xs ys
