-- W8. Two runs of a quality reader's calls that differ only in finite values of some accepted samples, by either rule
-- of the fade, whatever its qualities read. Definitions only.
use Rattle.std.specs.Prelude.{ℕ, ◌+◌, ◌≡◌, Bool, true, List, [], ◌∷◌, ◌++◌, map, length, Float}
use Rattle.std.specs.Float.Ieee.Scale.{finite}
use Rattle.answer.specs.declared.AnswerF32.{AnswerF32}
use Rattle.absent_taps.specs.declared.Absent.{Absent}
use Rattle.absent_taps.specs.Absent.{first_tap}
use Rattle.absent_qualities.specs.Readings.{of_turn}
use Rattle.bank_choice.specs.declared.Choice.{Choice}
use Rattle.told_call.specs.Told.{unless_refused}
use Rattle.variable_delay.specs.Reader.{Reading, stored, position_of}
use Rattle.quality_mode.specs.declared.QualityMode.{QualityMode}
use Rattle.quality_fade.specs.declared.Turn.{Turn}
use Rattle.returning_fade.specs.Step.{step_of}
use Rattle.quality_variable_delay.specs.State.{fade_part}
use Rattle.quality_variable_delay.specs.Reader.{processed_by}
use Rattle.reads.specs.Local.{read_by}
use Rattle.runs.specs.Runs as plain
use Rattle.quality_runs.specs.Runs.{Call, Reader, due, run, accepted, plain_call}
use Rattle.aging.specs.Damage.{Avoid, NoneAfter, Aged}

-- What a call asks for.
pub record Wanted : Type 0 where
  pub delay : Float
  pub quality : QualityMode
  pub playback-rate : Float

abbrev pub wanted : Call → Wanted
wanted c = record { delay = c.delay; quality = c.quality; playback-rate = c.playback-rate }

-- A call but for the value of its sample, of which only this is left, that it is finite or that it is not.
pub record Asked : Type 0 where
  pub bank : Bool
  pub lent : Bool
  pub fine : Bool
  pub wants : Wanted

abbrev pub asked : Call → Asked
asked c = record { bank = c.bank; lent = c.lent; fine = finite c.input; wants = wanted c }

-- The same calls, and two runs of which the accepted calls are the same, as for the delay readers.
abbrev pub SameCalls : List Call → List Call → Type 0
SameCalls cs ds = map asked cs ≡ map asked ds

abbrev pub Twins : Reader → List Call → List Call → Type 0
Twins r cs ds = SameCalls (accepted r cs) (accepted r ds)

-- Two readers with the same state and rings of one length.
pub record InStep (r s : Reader) : Type 0 where
  pub state : r.state ≡ s.state
  pub long : length r.ring ≡ length s.ring

-- The samples that a run has accepted, and those that are stored when its call c, which comes after cs, reads.
abbrev pub samples_of : Reader → List Call → List Float
samples_of r cs = plain.samples (map plain_call (accepted r cs))

abbrev pub up_to : Reader → List Call → Call → List Float
up_to r cs c = samples_of r cs ++ c.input ∷ []

-- A call's turn: which qualities it reads.
abbrev pub turn_in : Reader → Call → Turn
turn_in r c = (step_of (fade_part r.state) c.quality).turn

-- What a call answers, by what each quality reads at a playback rate.
abbrev pub answered : (Float → QualityMode → Reading) → Reader → Call → AnswerF32
answered read r c =
    (processed_by (read c.playback-rate) (due r c) r.state r.ring c.input c.delay c.quality).answer

-- The absent taps of every reading that it makes (W7g), by the sets that are chosen at a playback rate.
abbrev pub absent_in : (Float → Choice) → Reader → Call → Absent
absent_in choose r c =
    unless_refused (due r c)
    (of_turn (choose c.playback-rate) (turn_in r c) (stored r.state.accepted r.ring c.input)
    (r.state.accepted + 1) (position_of r.state.accepted c.delay))

-- The held ones of the taps that a quality reads in the call after cs, or after ds, avoid the samples that differ.
abbrev pub QualityAvoids : Reader → List Call → List Call → Call → Call → QualityMode → Type 0
QualityAvoids r cs ds c d q =
    Avoid r.state.accepted (length r.ring) (up_to r cs c) (up_to r ds d)
    (first_tap (position_of (run r cs).state.accepted c.delay) (read_by q)) (read_by q)

-- So it is of every reading that the call makes: of both qualities where it is mixed, else of the one. A refused call
-- makes none.
pub record CallAvoids (r : Reader) (cs ds : List Call) (c d : Call) : Type 0 where
  pub one : due (run r cs) c ≡ 0 → QualityAvoids r cs ds c d (turn_in (run r cs) c).to
  pub both : due (run r cs) c ≡ 0 → (turn_in (run r cs) c).mixed ≡ true
      → QualityAvoids r cs ds c d (turn_in (run r cs) c).from

-- W8b. The same bits where they avoid the samples that differ.
abbrev pub SameBits : (Float → QualityMode → Reading) → Type 0
SameBits read =
    (r : Reader) (cs ds : List Call) (c d : Call) → Twins r cs ds → asked c ≡ asked d → CallAvoids r cs ds c d
    → answered read (run r cs) c ≡ answered read (run r ds) d

-- W8c. The same at every call from the len-th accepted sample on, len the ring's length, after m, the last that
-- differs.
abbrev pub AgesOut : (Float → QualityMode → Reading) → Type 0
AgesOut read =
    (r : Reader) (cs ds : List Call) (c d : Call) (m : ℕ) → Twins r cs ds → asked c ≡ asked d
    → NoneAfter m (up_to r cs c) (up_to r ds d)
    → Aged (length r.ring) m (up_to r cs c)
    → answered read (run r cs) c ≡ answered read (run r ds) d
