-- `aiff::finding::length_of` meets its contract, by the contracts of the functions that it calls; the products are of
-- small numbers. Assumes nothing.
use mathlib.Core.Bool.{Bool, true, false, cond}
use Prim.Native.Nat.{ℕ, ◌*◌, ◌≤◌}
use native.Mathlib.Nat.{mul-le-mul}
use native.Mathlib.Omega.{arith}
use lib.Dec.{eqb}
use Rattle.sample_kind.specs.declared.SampleKind.TheVariants.{Pcm16, Pcm24}
use Rattle.sample_kind.specs.Kinds.{width_of}
use Rattle.aiff.specs.Aiff.{kind_of}
use Rattle.aiff.proofs.finding.length_of.Goals as goal
use Rattle.aiff.proofs.finding.length_of.Goals.{After-width}

narrow : (n : ℕ) → width_of (kind_of n) ≤ 3
narrow n = by (eqb n 16)
  where
    by : (t : Bool) → width_of (cond t Pcm16 Pcm24) ≤ 3
    by true = omega arith
    by false = omega arith

frame-few : (c : After-width) → c.two.result * c.width.result ≤ 196605
frame-few c =
    let a = c.two in
    let h : a.result ≤ 65535 = omega (arith, a.ensures.upper_bound) in
    let k : c.width.result ≤ 3 =
    rw (c.width.ensures, c.kind_of.ensures) (narrow c.two-2.result) in
    omega (arith, mul-le-mul h k)

all-few : (c : After-width) → c.four-frames.result
    * (c.two.result * c.width.result) ≤ 0x4_0000_0000_0000
all-few c =
    let f = c.four-frames.result in
    let h : f ≤ 0xffff_ffff = omega arith in
    omega (arith, mul-le-mul h (frame-few c))

pub returns : goal.returns
returns c = record {
  value = rw (
    c.four-frames.ensures,
    c.two.ensures.value,
    c.width.ensures,
    c.kind_of.ensures,
    c.two-2.ensures.value,
  );
  upper_bound = all-few c;
}

pub overflow_mul-frame : goal.overflow_mul-frame
overflow_mul-frame c = omega (arith, frame-few c)

pub overflow_mul-result : goal.overflow_mul-result
overflow_mul-result c = omega (arith, all-few c)
