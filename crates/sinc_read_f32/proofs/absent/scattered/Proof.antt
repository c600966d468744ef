-- `sinc_read_f32::absent::scattered` meets its contract: the first taps are held and the rest are ahead, or any tap may
-- be absent. Assumes nothing.
use borrow.Author.Rules.{rules}
use mathlib.Core.Path.{◌≡◌, sym, ◌∙◌, ap, subst}
use Prim.Native.Nat.{ℕ, ◌^◌, ◌≤◌}
use native.Mathlib.Omega.{arith}
use lib.IntN.{ℤ, pos, ◌+ℤ◌}
use lib.ListN.{length}
use lib.Signed.{mag}
use lib.Ieee.{Float}
use mir.Syntax.{w64}
use mir.Val.{to_z, of_z}
use mir.ValLaws.{to_z-of_z}
use Rattle.answer.specs.Answers.{zero-f}
use Rattle.loop_laws.specs.Loops.{fold}
use Rattle.loop_laws.proofs.Folds.{same}
use Rattle.ring.specs.Taps.{tap_of}
use Rattle.ring.specs.declared.Start.{Start}
use Rattle.ring.proofs.HeldRuns as run
use Rattle.sinc_read_f32.specs.Sums.{tap_turn}
use Rattle.sinc_read_f32.proofs.AbsentTaps.{ahead-zero}
use Rattle.sinc_read_f32.proofs.absent.scattered.Statement.{statement}
use Rattle.sinc_read_f32.proofs.absent.scattered.Tie as tie

-- The first tap as the code holds it.
abbrev held_first : tie.Start → ℤ
held_first s = to_z w64 (of_z w64 s.args.first)

word : (s : tie.Start) → held_first s ≡ s.args.first
word s = to_z-of_z w64 s.args.first s.ranges.first

-- All turns, if the first tap is z.
abbrev all : tie.Start → ℤ → Float
all s z =
    let a = s.args in
    fold
    (tap_turn (λ (k : ℕ). tap_of a.source.now a.count (z +ℤ pos k)) a.table.now a.blend a.taps
    a.phase) zero-f a.taps

held-requires : tie.Need-held-sum-requires
held-requires c κs =
    let r = c.before in
    let n = r.before.before in
    let s = n.before.before.before in
    let xs = s.args.source.now in
    let m = n.ahead-n.result in (
      s.requires.0,
      n.ahead-n.ensures.0,
      run.fits xs s.args.count m (held_first s) r.run_start-start.result r.run_start-start.ensures c.if-start.true,
      run.inside xs s.args.count m (held_first s) r.run_start-start.result r.run_start-start.ensures c.if-start.true
          r.before.if-n-gt0.true,
    )

silent-requires : tie.Need-silent-requires
silent-requires c κs =
    let n = c.before.before.before.before in (n.before.before.before.requires.0, n.ahead-n.ensures.0)

returns : tie.Need-returns-then-start
returns c =
    let h = c.before in
    let t = h.before in
    let r = t.before in
    let n = r.before.before in
    let s = n.before.before.before in
    let a = s.args in
    let xs = a.source.now in
    let z = held_first s in
    let m = n.ahead-n.result in
    let R =
    run.run_of (length xs) a.count m z
    (sym (ap (λ (s : Start). s.held) r.run_start-start.ensures) ∙ t.if-start.true) in
    c.silent.ensures (λ (k : ℕ). tap_of xs a.count (z +ℤ pos k))
    (λ k l u. ahead-zero xs a.count R.first k R.from
    (omega (arith, l, n.ahead-n.ensures.1 R.first R.from (omega (arith, l, u)))))
    (h.held-sum.ensures
    ∙ same _ _ zero-f m
    (λ k l v. rw (run.each xs a.count m z r.run_start-start.result r.run_start-start.ensures t.if-start.true k l)))
    ∙ ap (all s) (word s)

one-by-one-requires : tie.Need-one_by_one-requires
one-by-one-requires c κs =
    let s = c.before.before.before.before in
    (s.requires.0, s.requires.1, subst (λ (z : ℤ). mag z ≤ 2 ^ 37) (sym (word s)) s.requires.2)

returns-2 : tie.Need-returns
returns-2 c = let s = c.before.before.before.before.before in c.one_by_one.ensures ∙ ap (all s) (word s)

pub scattered_spec : {M : Type 1} → statement M
scattered_spec =
    tie.close (tie.spec (λ c κs. search rules) (λ c κs. search rules) held-requires silent-requires returns
    one-by-one-requires returns-2)
