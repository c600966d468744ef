-- `desk_delay::process_sample_rate_aware` meets its contract: in a room in range by the reader's call over the two
-- slots, otherwise by its refusal. Assumes nothing.
use Rattle.std.proofs.Common.{sym, ap, ◌∙◌}
use lib.Ieee.{of_bits}
use Rattle.desk_delay.specs.Desk.{caller_of}
use Rattle.desk_delay.specs.declared.looking.Looked.{Looked}
use Rattle.desk_delay.proofs.DeskCalls.{chosen-call, chosen-ring, refused-call, refused-ring}
use Rattle.desk_delay.proofs.process_sample_rate_aware.Goals as goal

pub returns-then-found : goal.returns-then-found
unfolding of_bits
returns-then-found c =
    let a = c.args in
    let caller = caller_of a.desk a.mode in
    let whole = sym (ap (λ (f : Looked). f.whole) c.look-found.ensures) ∙ c.if-found.true in record {
      value = c.process_chosen.ensures.value
          ∙ rw (c.look-found.ensures, c.within-bank.ensures)
          (chosen-call caller a.rates.now a.marks.now a.slots.now a.max_rate a.state
          a.ring.now a.input a.delay a.playback_rate whole a.quality);
      ring_after = c.process_chosen.ensures.ring_after
          ∙ rw (c.look-found.ensures, c.within-bank.ensures)
          (chosen-ring caller a.rates.now a.marks.now a.slots.now a.max_rate a.state
          a.ring.now a.input a.delay a.playback_rate whole);
    }

pub returns : goal.returns
unfolding of_bits
returns c =
    let a = c.args in
    let caller = caller_of a.desk a.mode in
    let broken = sym (ap (λ (f : Looked). f.whole) c.look-found.ensures) ∙ c.if-found.false in record {
      value = c.refused.ensures
          ∙ rw (c.look-found.ensures, c.within-bank.ensures)
          (refused-call caller a.rates.now a.marks.now a.slots.now a.max_rate a.state
          a.ring.now a.input a.delay a.playback_rate broken a.quality);
      ring_after = refused-ring caller a.rates.now a.marks.now a.slots.now a.max_rate a.state a.ring.now
          a.input a.delay a.playback_rate broken;
    }
