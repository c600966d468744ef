-- `sinc_bank_f32::write_set` meets its contract: none of the three tables is refused, and one behind the other they are
-- the set. Assumes nothing.
use borrow.Author.Rules.{rules}
use mathlib.Core.Path.{◌≡◌, refl, ◌∙◌, ap}
use mathlib.Core.Bool.{false}
use native.Mathlib.Omega.{arith}
use lib.Dec.{lit≤}
use lib.ListN.{length}
use lib.IntN.{pos}
use lib.Ieee.{fin, of_bits, le}
use Rattle.windowed_sinc_f32.specs.Table.{table_f32_in}
use Rattle.sinc_bank_f32.specs.Sets.{set_length, normal_at, hq_at, ultra_at, set_in}
use Rattle.sinc_bank_f32.proofs.NothingRefused.{unrefused}
use Rattle.sinc_bank_f32.proofs.Sections as sections
use Rattle.sinc_bank_f32.proofs.Lengths.{normal-long, hq-long, ultra-long}
use Rattle.sinc_bank_f32.proofs.write_set.Statement.{statement}
use Rattle.sinc_bank_f32.proofs.write_set.Tie as tie

write-part-requires : tie.Need-write_part-requires
unfolding of_bits le
write-part-requires c κs =
    let b = c.before.before in (
      omega arith,
      omega (arith, b.requires.1),
      unrefused 80 2048 b.args.rate (fin false 3 (pos 2)) 163920 b.requires.0 refl refl refl refl,
    )

first-long : (c : tie.After-write_part) → length c.write_part.new.set ≡ set_length
unfolding of_bits
first-long c =
    let b = c.before.before.before in
    let r = b.args.rate in
    let m = b.args.mode in
    ap length c.write_part.ensures
    ∙ sections.same_length 0 163920 (table_f32_in m (normal_at r)) b.args.set.now (omega arith)
    (omega (arith, b.requires.1)) (normal-long m r)
    ∙ b.requires.1

write-part-requires-2 : tie.Need-write_part-requires-2
unfolding of_bits le
write-part-requires-2 c κs =
    let u = c.before.before.before in
    let b = u.before.before.before in (
      omega arith,
      omega (arith, first-long u),
      unrefused 96 4096 b.args.rate (fin false 7 (pos 1)) 393312 b.requires.0 refl refl refl refl,
    )

second-long : (c : tie.After-write_part-2) → length c.write_part-2.new.set ≡ set_length
unfolding of_bits
second-long c =
    let u = c.before.before.before.before in
    let r = u.before.before.before.args.rate in
    let m = u.before.before.before.args.mode in
    ap length c.write_part-2.ensures
    ∙ sections.same_length 163920 557232 (table_f32_in m (hq_at r)) u.write_part.new.set (omega arith)
    (omega (arith, first-long u)) (hq-long m r)
    ∙ first-long u

write-part-requires-3 : tie.Need-write_part-requires-3
unfolding of_bits le
write-part-requires-3 c κs =
    let v = c.before.before.before in
    let b = v.before.before.before.before.before.before.before in (
      omega arith,
      omega (arith, second-long v),
      unrefused 128 4096 b.args.rate (fin false 1 (pos 4)) 524416 b.requires.0 refl refl refl refl,
    )

returns : tie.Need-returns
unfolding set_in of_bits
returns c =
    let w = c.before.before in
    let v = w.before.before.before.before in
    let u = v.before.before.before.before in
    let b = u.before.before.before in
    let r = b.args.rate in
    let m = b.args.mode in
    sections.three 163920 557232 1081648 (table_f32_in m (normal_at r)) (table_f32_in m (hq_at r))
    (table_f32_in m (ultra_at r))
    b.args.set.now u.write_part.new.set v.write_part-2.new.set
    w.write_part-3.new.set
    (lit≤ tt) (lit≤ tt) b.requires.1 (normal-long m r) (hq-long m r) (ultra-long m r) u.write_part.ensures
    v.write_part-2.ensures w.write_part-3.ensures

pub write_set_spec : {M : Type 1} → statement M
write_set_spec =
    tie.close (tie.spec write-part-requires write-part-requires-2 write-part-requires-3 (λ c. search rules) returns)
