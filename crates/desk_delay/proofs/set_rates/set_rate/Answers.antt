-- `desk_delay::set_rates::set_rate` meets its contract: there is a set exactly below the number of sets, which is 0 out
-- of range. Assumes nothing.
use Rattle.std.proofs.Common.{◌≡◌, ℕ, ◌+◌, ◌<◌, ◌≤◌, Bool, true, false, cond, ◌&&◌, ltb, refl, ◌∙◌, arith, le-ltb}
use Rattle.std.proofs.Common.{lt-ltb}
use lib.Ieee.{Float, of_bits}
use Rattle.constants.specs.Numbers.{zero-f}
use Rattle.bank_choice.specs.Rates.{bank_ok, steps_of, rate_of}
use Rattle.desk_delay.proofs.set_rates.set_rate.Goals as goal

module _ (top : Float) (steps set n : ℕ) where
  there : (ok : Bool) → n ≡ cond ok steps 0 → set < n
      → rate_of top n (set + 1) ≡ cond (ok && ltb set steps) (rate_of top steps (set + 1)) zero-f
  there true e h = rw (e, lt-ltb set steps (omega arith))
  there false e h = absurd (omega arith)

  missing : (ok : Bool) → n ≡ cond ok steps 0 → n ≤ set
      → zero-f ≡ cond (ok && ltb set steps) (rate_of top steps (set + 1)) zero-f
  missing true e h = rw (le-ltb set steps (omega arith))
  missing false e h = refl

pub returns-then-set-n : goal.returns-then-set-n
returns-then-set-n c =
    let a = c.args in
    c.rate.ensures
    ∙ there a.max_rate (steps_of a.max_rate) a.set a.n (bank_ok a.max_rate) c.requires
    c.if-set-n.true

pub returns-else-set-n : goal.returns-else-set-n
unfolding of_bits
returns-else-set-n c =
    let a = c.args in
    missing a.max_rate (steps_of a.max_rate) a.set a.n (bank_ok a.max_rate) c.requires c.if-set-n.false
