-- `sinc_bank_f32::write_sets` meets its contract: before each turn the sets below `i` are built. Assumes nothing.
use Rattle.std.proofs.Common.{◌≡◌, ℕ, ◌+◌, ◌<◌, true, sym, ◌∙◌, ap, arith}
use borrow.Author.Tests.{lt-ltb}
use Rattle.std.specs.Prelude.{Float}
use Rattle.loop_laws.specs.Loops.{rows}
use Rattle.loop_laws.proofs.Filling.{unfilled, length-lent, filled_more, filled}
use Rattle.bank_choice.specs.Rates.{bank_ok, steps_of, rate_of, set_rate_of}
use Rattle.bank_choice.proofs.RatesGrow.{set-in-range}
use Rattle.sinc_bank_f32.specs.Sets.{set_in, bank_in}
use Rattle.sinc_bank_f32.proofs.Lengths.{set_long}
use Rattle.sinc_bank_f32.proofs.write_sets.Goals as goal
use Rattle.sinc_bank_f32.proofs.write_sets.Goals.{After-set_rate-rate}
use Rattle.sinc_bank_f32.proofs.write_sets.Invariants.{set}

pub loop-i-init : goal.loop-i-init
loop-i-init c = unfilled _ _ _ _ c.requires.3

-- A set of the bank has its own rate, which is in range.
own-rate : (top : Float) (n i : ℕ) (r : Float) → bank_ok top ≡ true → n ≡ steps_of top → i < n → r ≡ set_rate_of top i
    → (r ≡ rate_of top (steps_of top) (i + 1)) × (bank_ok r ≡ true)
own-rate top n i r ok e h q =
    let own : r ≡ rate_of top (steps_of top) (i + 1) = rw (ok, lt-ltb i (steps_of top) (omega arith)) at q in
    (own, ap bank_ok own ∙ set-in-range top ok (i + 1) (omega arith))

rate : (c : After-set_rate-rate)
    → (c.set_rate-rate.result ≡ rate_of c.args.max_rate (steps_of c.args.max_rate) (c.loop-i.i + 1))
    × (bank_ok c.set_rate-rate.result ≡ true)
rate c =
    own-rate c.args.max_rate c.args.n c.loop-i.i c.set_rate-rate.result c.requires.0 c.requires.1 (omega arith)
    c.set_rate-rate.ensures

pub write_set-requires : goal.write_set-requires
write_set-requires c =
    let l = c.loop-i in (
      (rate (goal.at.write_set-requires c).After-set_rate-rate).1,
      length-lent (set c.args.mode c.args.max_rate) c.args.width c.args.n l.sets l.i l.invariant (omega arith)
          ∙ c.requires.2,
    )

pub loop-i-preserved : goal.loop-i-preserved
loop-i-preserved c =
    let a = c.args in
    let l = c.loop-i in
    filled_more (set a.mode a.max_rate) a.width a.n l.sets l.i l.invariant (omega arith) c.write_set.new.set
    (c.write_set.ensures ∙ ap (set_in a.mode) (rate (goal.at.loop-i-preserved c).After-set_rate-rate).0)
    (set_long _ _ ∙ sym c.requires.2)

pub returns : goal.returns
unfolding bank_in
returns c =
    let a = c.args in
    let l = c.loop-i in
    filled (set a.mode a.max_rate) a.width a.n l.sets l.i l.invariant (omega arith)
    ∙ ap (rows (set a.mode a.max_rate)) c.requires.1
