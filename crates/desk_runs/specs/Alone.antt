-- W4g. The same desk without a room: it holds what it was granted and has not given up, and its reader reads a bank of
-- its own. Its own events and the grants are all that it is given. Definitions only.
use Rattle.std.specs.Prelude.{ℕ, zero, suc, Bool, not, ◌&&◌, ◌||◌, List, [], ◌∷◌, length, Float}
use Rattle.std.specs.Float.Ieee.{is_nan}
use Rattle.refusal_order.specs.Order.{◌unless◌, first_of}
use Rattle.sinc_settings.specs.Ranges.{rate_ok}
use Rattle.bessel.specs.declared.Mode.{Mode}
use Rattle.bank_choice.specs.Rates.{bank_ok}
use Rattle.sinc_bank_f32.specs.Sets.{bank_in}
use Rattle.bank_read.specs.Bank.{bank_at}
use Rattle.quality_variable_delay.specs.Reader.{verdict, ring_after, processed_by}
use Rattle.quality_variable_delay.specs.declared.ProcessedQ.{ProcessedQ}
use Rattle.quality_runs.specs.Runs.{Reader}
use Rattle.room_marks.specs.declared.Desk.{Desk}
use Rattle.set_room.specs.declared.Asked.{Asked}
use Rattle.set_room.specs.declared.Asked.TheVariants.{Granted, Refused}
use Rattle.set_room.specs.Room.{grant_of}
use Rattle.room_runs.specs.Turns.{asks, gives, same_set}
use Rattle.desk_delay.specs.Desk.{safe_rate, tighter_rate}
use Rattle.desk_runs.specs.Events.{Call, Event, turn, calls, World, Said, grant, number, sample, after, same_desk}
use Rattle.desk_runs.specs.Events.{actor, keep_if}

-- The sets that the desk holds, by rate and mode, and its reader.
pub record Alone : Type 0 where
  pub held : Float → Mode → Bool
  pub reader : Reader

-- The desk's own events, each ask with what was granted.
pub data Own : Type 0 where
  asked : Float → Mode → Asked → Own
  gave : Float → Mode → Own
  heard : Call → Own

-- The sets that a call names are among those held. For a rate that is a NaN none is looked for.
abbrev pub has : Alone → Call → Bool
has a c =
    is_nan c.rate
    || (a.held (safe_rate c.top c.rate) c.mode && a.held (tighter_rate c.top c.rate) c.mode)

abbrev pub due : Alone → Call → ℕ
due a c =
    verdict (bank_ok c.top) (has a c) a.reader.state (length a.reader.ring) c.input c.delay c.rate

-- The quality reader's call over a bank of its own.
abbrev pub call : Alone → Call → ProcessedQ
call a c =
    processed_by (bank_at (bank_in c.mode c.top) c.top c.rate) (due a c) a.reader.state a.reader.ring
    c.input c.delay c.quality

-- 17 if the set is not held, after 1.
abbrev pub give_up : Alone → Float → Mode → ℕ
give_up a rate mode = first_of (1 unless rate_ok rate ∷ 17 unless a.held rate mode ∷ [])

abbrev pub said_to : Alone → Own → Said
said_to a (asked rate mode g) = grant g
said_to a (gave rate mode) = number (give_up a rate mode)
said_to a (heard c) = sample (call a c).answer

abbrev pub holding : Asked → Float → Mode → Alone → Alone
holding (Granted k) rate mode a =
    record { held = λ r m. same_set rate mode r m || a.held r m; reader = a.reader }
holding (Refused n) rate mode a = a

abbrev pub without : ℕ → Float → Mode → Alone → Alone
without zero rate mode a = record { held = λ r m. not (same_set rate mode r m) && a.held r m; reader = a.reader }
without (suc n) rate mode a = a

abbrev pub behind : Alone → Own → Alone
behind a (asked rate mode g) = holding g rate mode a
behind a (gave rate mode) = without (give_up a rate mode) rate mode a
behind a (heard c) = record {
  held = a.held;
  reader =
      record { state = (call a c).state; ring = ring_after (due a c) a.reader.state a.reader.ring c.input };
}

unfoldable pub told_alone : Alone → List Own → List Said
told_alone a [] = []
told_alone a (o ∷ os) = said_to a o ∷ told_alone (behind a o) os

unfoldable pub run_alone : Alone → List Own → Alone
run_alone a [] = a
run_alone a (o ∷ os) = run_alone (behind a o) os

-- A desk's own events in a run, with what it was granted.
abbrev pub own_of : World → Event → Own
own_of w (turn (asks d rate mode)) = asked rate mode (grant_of rate mode w.room)
own_of w (turn (gives d rate mode)) = gave rate mode
own_of w (calls d c) = heard c

unfoldable pub own : Desk → World → List Event → List Own
own d w [] = []
own d w (e ∷ es) = keep_if (same_desk d (actor e)) (own_of w e) (own d (after w e) es)
