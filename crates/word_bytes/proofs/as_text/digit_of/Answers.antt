-- `word_bytes::digit_of` meets its contract: the tests of the code are the definition's, in the same order. Assumes
-- nothing.
use borrow.Author.Tests.{lt-ltb, le-ltb}
use native.Mathlib.Omega.{arith}
use Rattle.word_bytes.proofs.as_text.digit_of.Goals as goal

pub returns-then-c-lt48 : goal.returns-then-c-lt48
returns-then-c-lt48 c = record { value = simp (lt-ltb _ _ c.if-c-lt48.true); upper_bound = omega arith }

pub returns-then-c-lt58 : goal.returns-then-c-lt58
returns-then-c-lt58 c = record {
  value = simp (le-ltb _ _ c.if-c-lt48.false, lt-ltb _ _ c.if-c-lt58.true);
  upper_bound =
      omega arith;
}

pub returns-then-c-lt65 : goal.returns-then-c-lt65
returns-then-c-lt65 c = record {
  value =
      simp (le-ltb _ _ c.if-c-lt48.false, le-ltb _ _ c.if-c-lt58.false, lt-ltb _ _ c.if-c-lt65.true);
  upper_bound =
      omega arith;
}

pub returns-then-c-lt71 : goal.returns-then-c-lt71
returns-then-c-lt71 c = record {
  value = simp (
    le-ltb _ _ c.if-c-lt48.false,
    le-ltb _ _ c.if-c-lt58.false,
    le-ltb _ _ c.if-c-lt65.false,
    lt-ltb _ _ c.if-c-lt71.true,
  );
  upper_bound = omega arith;
}

pub returns : goal.returns
returns c = record {
  value = simp (
    le-ltb _ _ c.if-c-lt48.false,
    le-ltb _ _ c.if-c-lt58.false,
    le-ltb _ _ c.if-c-lt65.false,
    le-ltb _ _ c.if-c-lt71.false,
  );
  upper_bound = omega arith;
}
