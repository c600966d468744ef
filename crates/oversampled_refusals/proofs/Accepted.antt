-- What follows if a call of an oversampled reader is accepted: every test passed. Assumes nothing.
use mathlib.Core.Path.{◌≡◌}
use mathlib.Core.Bool.{Bool, true, ◌&&◌}
use mathlib.Core.Logic.{◌⊎◌}
use Prim.Native.Nat.{ℕ, ◌*◌, ◌^◌, ◌<◌, ◌≤◌}
use lib.Dec.{T, leb, ltb, leb→le, ltb→lt}
use lib.Ieee.{Float, le}
use lib.Ieee.Bits.{is_true}
use lib.Ieee.Fits.{and_l, and_r}
use lib.Ieee.Scale.{finite}
use Rattle.constants.specs.Numbers.{zero-f}
use Rattle.answer.proofs.Passed.{passed}
use Rattle.filter_settings.specs.Ranges.{factor_ok}
use Rattle.oversampled_refusals.specs.Outer.{outer_limit, outer_limit-f, counts_ok, state_ok, verdict}
use Rattle.oversampled_refusals.specs.declared.Outer.{Outer}
use Rattle.oversampled_refusals.proofs.Factors.{two-or-four}

pub record Taken (own lent : Bool) (factor : ℕ) (s : Outer) (x y : Float) : Type 0 where
  pub either : (factor ≡ 2) ⊎ (factor ≡ 4)
  pub owned : own ≡ true
  pub lasting : lent ≡ true
  pub room : s.accepted < 2 ^ 34
  pub inner : s.inner ≤ factor * s.accepted
  pub previous-low : T (le zero-f s.previous)
  pub previous-high : T (le s.previous outer_limit-f)
  pub input : T (finite x)
  pub delay : T (finite y)
  pub delay-low : T (le zero-f y)
  pub delay-high : T (le y outer_limit-f)

pub taken : (own lent : Bool) (factor : ℕ) (s : Outer) (x y : Float) → verdict own lent factor s x y ≡ 0
    → Taken own lent factor s x y
taken own lent factor s x y h =
    let counts = counts_ok factor s.accepted s.inner in
    let low = le zero-f s.previous in
    let high = le s.previous outer_limit-f in
    let p =
    passed (factor_ok factor && own) lent (state_ok factor s) (finite x) (finite y && le zero-f y) (le y outer_limit-f)
    true (ltb s.accepted outer_limit) h in
    let c = and_l counts (low && high) p.p3 in
    let r = and_r counts (low && high) p.p3 in
    record {
      either = two-or-four factor (is_true (factor_ok factor) (and_l (factor_ok factor) own p.p1));
      owned = is_true own (and_r (factor_ok factor) own p.p1);
      lasting = is_true lent p.p2;
      room = ltb→lt _ _ p.p8;
      inner = leb→le _ _ (and_r (leb s.accepted outer_limit) (leb s.inner (factor * s.accepted)) c);
      previous-low = and_l low high r;
      previous-high = and_r low high r;
      input = p.p4;
      delay = and_l (finite y) (le zero-f y) p.p5;
      delay-low = and_r (finite y) (le zero-f y) p.p5;
      delay-high = p.p6;
    }
