-- W8. Two runs of a delay reader's calls that differ only in finite values of some accepted samples, whatever its
-- kernel reads. Definitions only.
use Rattle.std.specs.Prelude.{◌≡◌, ℕ, Bool, List, [], ◌∷◌, ◌++◌, map, length, Float}
use Rattle.std.specs.Float.Ieee.Scale.{finite}
use Rattle.answer.specs.declared.Answer.{Answer}
use Rattle.answer.specs.declared.AnswerF32.{AnswerF32}
use Rattle.absent_taps.specs.declared.Absent.{Absent}
use Rattle.absent_taps.specs.Absent.{first_tap}
use Rattle.told_call.specs.Told.{unless_refused, absent_of_call}
use Rattle.variable_delay.specs.Reader.{Reading, position_of, processed_by}
use Rattle.variable_delay_f32.specs.Call.{processed_f32_by}
use Rattle.runs.specs.Runs.{Call, Reader, due, run, accepted, samples}
use Rattle.aging.specs.Damage.{Avoid, NoneAfter, Aged}

-- A call but for the value of its sample, of which only this is left, that it is finite or that it is not.
pub record Asked : Type 0 where
  pub own : Bool
  pub lent : Bool
  pub fine : Bool
  pub delay : Float

abbrev pub asked : Call → Asked
asked c = record { own = c.own; lent = c.lent; fine = finite c.input; delay = c.delay }

-- The same calls, which differ only in finite values of samples.
abbrev pub SameCalls : List Call → List Call → Type 0
SameCalls cs ds = map asked cs ≡ map asked ds

-- Two runs of which the accepted calls are the same. Refused ones may stand in either, anywhere (W8d).
abbrev pub Twins : Reader → List Call → List Call → Type 0
Twins r cs ds = SameCalls (accepted r cs) (accepted r ds)

-- The delays that calls ask for.
abbrev pub delays : List Call → List Float
delays cs = map (λ c. c.delay) cs

-- Two readers with the same state and rings of one length.
pub record InStep (r s : Reader) : Type 0 where
  pub state : r.state ≡ s.state
  pub long : length r.ring ≡ length s.ring

-- The samples of a run that are stored when its call c, which comes after cs, reads.
abbrev pub up_to : Reader → List Call → Call → List Float
up_to r cs c = samples (accepted r cs) ++ c.input ∷ []

-- What a call answers, in either width.
abbrev pub answered : Reading → Reader → Call → Answer
answered read r c = (processed_by read (due r c) r.state r.ring c.input c.delay).answer

abbrev pub answered_f32 : Reading → Reader → Call → AnswerF32
answered_f32 read r c = (processed_f32_by read (due r c) r.state r.ring c.input c.delay).answer

-- The absent ones of the n taps that a call reads, as a reader that tells has them (W7c).
abbrev pub absent_in : ℕ → Reader → Call → Absent
absent_in n r c = unless_refused (due r c) (absent_of_call r.state.accepted r.ring c.input c.delay n)

-- The held ones of the n taps that the call after cs, or after ds, reads avoid the samples that differ. A refused call
-- reads none.
abbrev pub CallAvoids : ℕ → Reader → List Call → List Call → Call → Call → Type 0
CallAvoids n r cs ds c d =
    due (run r cs) c ≡ 0
    → Avoid r.state.accepted (length r.ring) (up_to r cs c) (up_to r ds d)
    (first_tap (position_of (run r cs).state.accepted c.delay) n) n

-- W8b. A reader that reads n taps answers the same bits in two such runs, where the call's held taps avoid the samples
-- that differ.
abbrev pub SameBits : {A : Type 0} → (Reading → Reader → Call → A) → ℕ → Reading → Type 0
SameBits answer n read =
    (r : Reader) (cs ds : List Call) (c d : Call) → Twins r cs ds → asked c ≡ asked d → CallAvoids n r cs ds c d
    → answer read (run r cs) c ≡ answer read (run r ds) d

-- W8c. It does so at every call from the len-th accepted sample on, len the ring's length, after m, the last that
-- differs.
abbrev pub AgesOut : {A : Type 0} → (Reading → Reader → Call → A) → Reading → Type 0
AgesOut answer read =
    (r : Reader) (cs ds : List Call) (c d : Call) (m : ℕ) → Twins r cs ds → asked c ≡ asked d
    → NoneAfter m (up_to r cs c) (up_to r ds d)
    → Aged (length r.ring) m (up_to r cs c)
    → answer read (run r cs) c ≡ answer read (run r ds) d
