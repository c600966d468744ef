-- `square_root::quick::rest` meets its contract: the products of halves fit, and a difference that fits is exact.
-- Assumes nothing.
use Rattle.std.proofs.Common.{◌≡◌, ℕ, ◌+◌, ◌*◌, ◌/◌, ◌^◌, ◌<◌, sym, ap, ◌∙◌, arith}
use lib.Bits.{bit_and, and_mask}
use Rattle.square_root.proofs.GuessCheck.{product_le, rest-is}
use Rattle.square_root.proofs.quick.rest.Goals as goal
use Rattle.square_root.proofs.quick.rest.Goals.{Start}

high : (c : Start) → c.args.s / 2 ^ 27 < 2 ^ 27
high c = omega (arith, c.requires)

low : (c : Start) → bit_and c.args.s 0x7ff_ffff < 2 ^ 27
low c = omega (arith, and_mask c.args.s 27)

pub overflow_mul-h : goal.overflow_mul-h
overflow_mul-h c = omega (arith, product_le (high c) (high c))

pub overflow_mul-h-2 : goal.overflow_mul-h-2
overflow_mul-h-2 c = omega (
  arith,
  product_le (high (goal.at.overflow_mul-h-2 c).Start)
      (low (goal.at.overflow_mul-h-2 c).Start),
)

pub overflow_mul-h-3 : goal.overflow_mul-h-3
overflow_mul-h-3 c = omega (
  arith,
  product_le (high (goal.at.overflow_mul-h-3 c).Start)
      (low (goal.at.overflow_mul-h-3 c).Start),
)

pub overflow_mul-l : goal.overflow_mul-l
overflow_mul-l c = omega (
  arith,
  product_le (low (goal.at.overflow_mul-l c).Start)
      (low (goal.at.overflow_mul-l c).Start),
)

pub returns-then-b-lt68719476736 : goal.returns-then-b-lt68719476736
returns-then-b-lt68719476736 c = λ R.
    let s = c.args.s in
    let h = s / 2 ^ 27 in
    let l = bit_and s 0x7ff_ffff in
    let whole : h * 2 ^ 27 + l ≡ s = omega (arith, and_mask s 27) in
    sym (ap (λ (x : ℕ). x * x + c.wrapping_sub_u64-r.result) whole)
    ∙ rest-is c.args.c h l c.wrapping_sub_u64-a.result c.wrapping_sub_u64-b.result
    c.wrapping_sub_u64-r.result (high (goal.at.returns-then-b-lt68719476736 c).Start)
    (low (goal.at.returns-then-b-lt68719476736 c).Start) c.wrapping_sub_u64-a.ensures.value
    c.wrapping_sub_u64-b.ensures.value
    c.wrapping_sub_u64-r.ensures.value c.if-a-lt1073741824.true c.if-b-lt68719476736.true R
