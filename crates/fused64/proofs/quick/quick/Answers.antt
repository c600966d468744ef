-- `fused64::quick::quick` meets its contract: the sum at either place is the exact one, by what is known of its words.
-- Assumes nothing.
use Rattle.std.proofs.Common.{◌+◌, ◌-◌, ◌*◌, ◌%◌, ◌^◌, lt_of_le_of_lt, lt_irrefl, zero-lt-suc, arith, rules, ◌≡◌, ℕ}
use Rattle.std.proofs.Common.{◌/◌, ◌<◌, ap, ◌∙◌}
use lib.Pow.{shr_le}
use Rattle.fused64.specs.Word.{digits53, Heads, Tells, field_of}
use Rattle.fused64.proofs.QuickPlaces.{halved-even, beside, at-addend, at-product, reached, high_lt}
use lib.Bits.{bit_and, bit_or, and_mask}
use Rattle.fused64.specs.Wide.{val, lower}
use Rattle.fused64.proofs.FieldsInReach.{columns-tell}
use Rattle.fused64.proofs.quick.quick.Goals as goal
use Rattle.fused64.proofs.quick.quick.Goals.{After-columns-m, After-digits_of-z, Then-in_reach}

-- What a head in range shows.
abbrev Read : ℕ → ℕ → Type 0
Read n f = (f % 2 ^ 11 + 768 ≡ field_of n) × (f / 2 ^ 11 ≡ n / 2 ^ 63) × (f < 2 ^ 12)

fields : (c : Then-in_reach)
    → Heads c.head-f.result c.head-g.result
    c.head-h.result
fields c = c.in_reach.ensures c.if-in_reach.true

first : (c : Then-in_reach)
    → Read c.args.a c.head-f.result
first c =
    reached c.args.a c.head-f.result c.ranges.a.fits (search rules) c.head-f.ensures
    (fields c).first

second : (c : Then-in_reach)
    → Read c.args.b c.head-g.result
second c =
    reached c.args.b c.head-g.result c.ranges.b.fits (search rules)
    c.head-g.ensures (fields c).second

third : (c : Then-in_reach)
    → Read c.args.c c.head-h.result
third c =
    reached c.args.c c.head-h.result c.ranges.c.fits
    (search rules) c.head-h.ensures (fields c).third

abbrev low_word : (c : After-columns-m) → ℕ
low_word c = lower c.columns-m.result.middle c.columns-m.result.low

told : (c : After-columns-m)
    → Tells (bit_and (bit_or c.columns-m.result.middle c.columns-m.result.low) 0xffff_ffff) (low_word c)
told c = columns-tell c.columns-m.result.middle c.columns-m.result.low

whole : (c : After-columns-m)
    → val c.columns-m.result.hi (low_word c)
    ≡ digits53 c.args.a * 2 ^ 10
    * (digits53 c.args.b * 2 ^ 10)
whole c =
    let x : c.digits_of.result * 2 ^ 10 % 2 ^ 64
    ≡ digits53 c.args.a * 2 ^ 10 =
    omega (arith, c.digits_of.ensures) in
    let y : c.digits_of-then-in_reach.result * 2 ^ 10 % 2 ^ 64
    ≡ digits53 c.args.b * 2 ^ 10 =
    omega (arith, c.digits_of-then-in_reach.ensures) in
    c.columns-m.ensures
    ∙ ap (λ (v : ℕ). v * (c.digits_of-then-in_reach.result * 2 ^ 10 % 2 ^ 64)) x
    ∙ ap (λ (v : ℕ). digits53 c.args.a * 2 ^ 10 * v) y

narrow : (c : After-columns-m) → c.columns-m.result.hi < 2 ^ 62
narrow c =
    let a = c.args in
    high_lt a.a a.b c.columns-m.result.hi (low_word c) (whole c)

addend : (c : After-digits_of-z)
    → c.digits_of-z.result * 2 ^ 8 % 2 ^ 64
    ≡ digits53 c.args.c * 2 ^ 8
addend c = omega (arith, c.digits_of-z.ensures)

-- The words that the code makes of the heads.
same_sign : (k : ℕ) → bit_and (k / 2 ^ 11) 1 * 2 ^ 11 % 2 ^ 64 ≡ k / 2 ^ 11 % 2 * 2 ^ 11
same_sign k = omega (arith, and_mask (k / 2 ^ 11) 1)

same_place : (k : ℕ) → bit_and k 0x7ff ≡ k % 2 ^ 11
same_place k = and_mask k 11

pub overflow_add-k : goal.overflow_add-k
overflow_add-k c =
    omega (
      arith,
      (first (goal.at.overflow_add-k c).Then-in_reach).2,
      (second (goal.at.overflow_add-k c).Then-in_reach).2,
    )

pub overflow_add-i : goal.overflow_add-i
overflow_add-i c =
    omega (arith, same_place (c.head-f.result + c.head-g.result))

pub overflow_add-j : goal.overflow_add-j
overflow_add-j c = omega (arith, same_place c.head-h.result)

pub without-requires : goal.without-requires
without-requires c = record {
  fact_1 = c.if-j-i-lt64.true;
  fact_2 =
      narrow (goal.at.without-requires c).After-columns-m;
}

pub joined-requires : goal.joined-requires
joined-requires c =
    let k = c.head-f.result + c.head-g.result in
    let h = c.head-h.result in
    rw (same_sign k, same_sign h, addend (goal.at.joined-requires c).After-digits_of-z, same_place h)
    (beside k h c.without.result _ _
    (c.without.ensures (low_word (goal.at.joined-requires c).After-columns-m)
    (told (goal.at.joined-requires c).After-columns-m)).below (omega arith)
    (omega arith) (omega arith) (omega (arith, (fields (goal.at.joined-requires c).Then-in_reach).third)))

pub returns-then-j-i-lt64 : goal.returns-then-j-i-lt64
returns-then-j-i-lt64 c = λ some.
    let f = c.head-f.result in
    let g = c.head-g.result in
    let h = c.head-h.result in
    let a = c.args in
    at-addend a.a a.b a.c f g h c.columns-m.result.hi (low_word (goal.at.returns-then-j-i-lt64 c).After-columns-m)
    (first (goal.at.returns-then-j-i-lt64 c).Then-in_reach) (second (goal.at.returns-then-j-i-lt64 c).Then-in_reach)
    (third (goal.at.returns-then-j-i-lt64 c).Then-in_reach) (fields (goal.at.returns-then-j-i-lt64 c).Then-in_reach)
    (whole (goal.at.returns-then-j-i-lt64 c).After-columns-m) c.without.result c.joined.result
    (rw (same_place (f + g), same_place h) at c.if-i-j.true)
    (rw (same_place (f + g), same_place h) at
    (c.without.ensures (low_word (goal.at.returns-then-j-i-lt64 c).After-columns-m)
    (told (goal.at.returns-then-j-i-lt64 c).After-columns-m)))
    (rw (same_sign (f + g), same_sign h, addend (goal.at.returns-then-j-i-lt64 c).After-digits_of-z, same_place h) at
    (c.joined.ensures some))

pub returns-then-i-j : goal.returns-then-i-j
returns-then-i-j c = λ some. absurd (lt_irrefl 0 some)

pub without-requires-then-i-j-lt8 : goal.without-requires-then-i-j-lt8
without-requires-then-i-j-lt8 c = record {
  fact_1 = zero-lt-suc 63;
  fact_2 =
      narrow (goal.at.without-requires-then-i-j-lt8 c).After-columns-m;
}

pub joined-requires-then-i-j-lt8 : goal.joined-requires-then-i-j-lt8
joined-requires-then-i-j-lt8 c =
    let k = c.head-f.result + c.head-g.result in
    let h = c.head-h.result in
    let n = digits53 c.args.c in
    let d = k % 2 ^ 11 + 515 - (h % 2 ^ 11 + 770) in
    rw (
      same_sign k,
      same_sign h,
      addend (goal.at.joined-requires-then-i-j-lt8 c).After-digits_of-z,
      same_place k,
      same_place h,
    ) (beside k h c.without-then-i-j-lt8.result _ _
    (c.without-then-i-j-lt8.ensures (low_word (goal.at.joined-requires-then-i-j-lt8 c).After-columns-m)
    (told (goal.at.joined-requires-then-i-j-lt8 c).After-columns-m)).below
    (lt_of_le_of_lt (shr_le (n * 2 ^ 8) d) (omega arith))
    (halved-even n d (rw (same_place k, same_place h) at c.if-i-j-lt8.true)) (omega arith)
    (omega (
      arith,
      (fields (goal.at.joined-requires-then-i-j-lt8 c).Then-in_reach).first,
      (fields (goal.at.joined-requires-then-i-j-lt8 c).Then-in_reach).second,
    )))

pub returns-then-i-j-lt8 : goal.returns-then-i-j-lt8
returns-then-i-j-lt8 c = λ some.
    let f = c.head-f.result in
    let g = c.head-g.result in
    let h = c.head-h.result in
    let a = c.args in
    at-product a.a a.b a.c f g h c.columns-m.result.hi (low_word (goal.at.returns-then-i-j-lt8 c).After-columns-m)
    (first (goal.at.returns-then-i-j-lt8 c).Then-in_reach) (second (goal.at.returns-then-i-j-lt8 c).Then-in_reach)
    (third (goal.at.returns-then-i-j-lt8 c).Then-in_reach)
    (fields (goal.at.returns-then-i-j-lt8 c).Then-in_reach) (whole (goal.at.returns-then-i-j-lt8 c).After-columns-m)
    c.without-then-i-j-lt8.result c.joined-then-i-j-lt8.result
    (rw (same_place (f + g), same_place h) at c.if-i-j.false)
    (rw (same_place (f + g), same_place h) at c.if-i-j-lt8.true)
    (c.without-then-i-j-lt8.ensures (low_word (goal.at.returns-then-i-j-lt8 c).After-columns-m)
    (told (goal.at.returns-then-i-j-lt8 c).After-columns-m))
    (rw (
      same_sign (f + g),
      same_sign h,
      addend (goal.at.returns-then-i-j-lt8 c).After-digits_of-z,
      same_place (f + g),
      same_place h,
    ) at (c.joined-then-i-j-lt8.ensures some))

pub returns-else-i-j-lt8 : goal.returns-else-i-j-lt8
returns-else-i-j-lt8 c = λ some. absurd (lt_irrefl 0 some)

pub returns-else-in_reach : goal.returns-else-in_reach
returns-else-in_reach c = λ some. absurd (lt_irrefl 0 some)
