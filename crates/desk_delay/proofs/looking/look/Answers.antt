-- `desk_delay::looking::look` meets its contract, call by call. Assumes nothing.
use Rattle.std.proofs.Common.{◌≡◌, Bool, true, false, not, refl}
use lib.Ieee.{is_nan}
use Rattle.desk_delay.proofs.looking.look.Goals as goal

twice : (b : Bool) → not (not b) ≡ b
twice true = refl
twice false = refl

pub returns : goal.returns
returns c =
    rw (
      c.both-lent.ensures,
      c.either.ensures,
      c.both.ensures,
      c.is_number.ensures,
      c.lengths_agree.ensures,
      c.find-found.ensures,
      c.set_rate-2.ensures,
      c.set_rate.ensures,
      c.choice_or_zero-c.ensures,
      twice (is_nan c.args.playback_rate),
    )

pub set_rate-requires : goal.set_rate-requires
set_rate-requires c = c.steps-sets.ensures

pub set_rate-requires-2 : goal.set_rate-requires-2
set_rate-requires-2 c = c.steps-sets.ensures
