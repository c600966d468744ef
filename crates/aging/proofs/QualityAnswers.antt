-- W8b and W8c of the quality reader, by either rule: what a call answers in two runs of the same calls. Assumes
-- nothing.
use mathlib.Core.Path.{◌≡◌, refl, sym, ◌∙◌, ap}
use mathlib.Core.Bool.{Bool, true, false}
use mathlib.Core.List.{List}
use Prim.Native.Nat.{ℕ, zero, suc, ◌+◌, ◌%◌}
use lib.ListN.{length, length-set}
use lib.Ieee.{Float}
use Rattle.answer.specs.Answers.{answer_f32_of}
use Rattle.absent_taps.specs.Absent.{first_tap}
use Rattle.absent_taps.proofs.Laws.{by_length}
use Rattle.absent_qualities.specs.Readings.{of_quality, of_turn}
use Rattle.bank_choice.specs.declared.Choice.{Choice}
use Rattle.bank_read.specs.Bank.{bank_at}
use Rattle.told_call.specs.Told.{unless_refused}
use Rattle.variable_delay.specs.Reader.{Reading, stored, position_of}
use Rattle.quality_mode.specs.declared.QualityMode.{QualityMode}
use Rattle.quality_mode.specs.declared.QualityMode.TheVariants.{Draft, Normal, Hq, Ultra}
use Rattle.quality_mode.specs.Quality.{taps_of}
use Rattle.quality_fade.specs.declared.Turn.{Turn}
use Rattle.quality_variable_delay.specs.Reader.{output_of}
use Rattle.reads.specs.Local.{Alike, Local, read_by}
use Rattle.reads.proofs.Mixing.{mixed-call, plain-call}
use Rattle.reads.proofs.Qualities.{bank}
use Rattle.quality_runs.specs.Runs.{Call, Reader, due, run}
use Rattle.quality_runs.proofs.Counted.{ring_of}
use Rattle.aging.specs.Damage.{NoneAfter, Aged}
use Rattle.aging.specs.Qualities.{Asked, asked, Twins, samples_of, up_to, turn_in, absent_in}
use Rattle.aging.specs.Qualities.{QualityAvoids, CallAvoids, SameBits, AgesOut}
use Rattle.aging.proofs.AtCall as call
use Rattle.aging.proofs.Qualities.{same-due, in_step, as_many, count}

-- An answer is a number for each refusal, and a sample.
same-reply : (v : ℕ) (z w : Float) → (v ≡ 0 → z ≡ w) → answer_f32_of v z ≡ answer_f32_of v w
same-reply zero z w h = ap (answer_f32_of 0) (h refl)
same-reply (suc k) z w h = refl

-- The rings that the call reads in either run, at one position and by one turn.
module _ (r : Reader) (cs ds : List Call) (c d : Call) (h : Twins r cs ds) where
  abbrev a : ℕ
  a = (run r cs).state.accepted

  abbrev p : Float
  p = position_of a c.delay

  abbrev t : Turn
  t = turn_in (run r cs) c

  abbrev one : List Float
  one = stored a (run r cs).ring c.input

  abbrev other : List Float
  other = stored a (run r ds).ring d.input

  alike : (q : QualityMode) → QualityAvoids r cs ds c d q
      → Alike one (a + 1) other (a + 1) (first_tap p (read_by q)) (read_by q)
  alike q avoid =
      call.alike r.state.accepted r.ring (samples_of r cs) (samples_of r ds) (as_many r cs ds h)
      c.input d.input (count r cs ds h) (ring_of r cs) (ring_of r ds) (first_tap p (read_by q)) (read_by q) avoid

  aged : (m : ℕ) → NoneAfter m (up_to r cs c) (up_to r ds d) → Aged (length r.ring) m (up_to r cs c) → one ≡ other
  aged m none old =
      call.aged r.state.accepted r.ring (samples_of r cs) (samples_of r ds) (as_many r cs ds h)
      c.input d.input (count r cs ds h) (ring_of r cs) (ring_of r ds) m none old

  output : (read : QualityMode → Reading) → ((q : QualityMode) → Local (read_by q) (read q)) → CallAvoids r cs ds c d
      → due (run r cs) c ≡ 0 → (b : Bool) → t.mixed ≡ b
      → output_of read t one (a + 1) p ≡ output_of read t other (a + 1) p
  output read local avoid v true m =
      mixed-call read local t one other (a + 1) (a + 1) p (alike t.from (avoid.both v m))
      (alike t.to (avoid.one v))
  output read local avoid v false m =
      plain-call read local t one other (a + 1) (a + 1) p m (alike t.to (avoid.one v))

-- W8b. Of any readings that depend on their qualities' taps alone.
pub same_bits : (read : Float → QualityMode → Reading)
    → ((rate : Float) (q : QualityMode) → Local (read_by q) (read rate q)) → SameBits read
same_bits read local r cs ds c d h e avoid =
    let l = in_step r cs ds h in
    rw (
      ← same-due (run r cs) (run r ds) c d l e,
      ← l.state,
      ← ap (λ (a : Asked). a.wants.delay) e,
      ← ap (λ (a : Asked). a.wants.quality) e,
      ← ap (λ (a : Asked). a.wants.playback-rate) e,
    )
    (same-reply (due (run r cs) c) _ _
    (λ v. output r cs ds c d h (read c.playback-rate) (local c.playback-rate) avoid v
    (t r cs ds c d h).mixed refl))

-- W8b. The reader over a bank.
pub bank-reader : (sets : List Float) (max-rate : Float) → SameBits (bank_at sets max-rate)
bank-reader sets max-rate = same_bits (bank_at sets max-rate) (bank sets max-rate)

-- W8c. Of any readings at all.
pub ages-out : (read : Float → QualityMode → Reading) → AgesOut read
ages-out read r cs ds c d m h e none old =
    let l = in_step r cs ds h in
    rw (
      ← same-due (run r cs) (run r ds) c d l e,
      ← l.state,
      ← ap (λ (a : Asked). a.wants.delay) e,
      ← ap (λ (a : Asked). a.wants.quality) e,
      ← ap (λ (a : Asked). a.wants.playback-rate) e,
    )
    (ap (λ (ys : List Float).
    answer_f32_of (due (run r cs) c)
    (output_of (read c.playback-rate) (turn_in (run r cs) c) ys ((run r cs).state.accepted + 1)
    (position_of (run r cs).state.accepted c.delay)))
    (aged r cs ds c d h m none old))

-- W8b. What is told of absent taps is the same at every call, whichever they avoid: of each quality, and of a turn.
module _ (ch : Choice) (xs ys : List Float) (e : length xs ≡ length ys) (n : ℕ) (p : Float) where
  told : (q : QualityMode) → of_quality ch q xs n p ≡ of_quality ch q ys n p
  told Draft = by_length xs ys e n p 4
  told Normal = rw (by_length xs ys e n p (taps_of Normal))
  told Hq = rw (by_length xs ys e n p (taps_of Hq))
  told Ultra = rw (by_length xs ys e n p (taps_of Ultra))

  told-turn : (t : Turn) → of_turn ch t xs n p ≡ of_turn ch t ys n p
  told-turn t = rw (told t.from, told t.to)

pub same-counts : (choose : Float → Choice) (r : Reader) (cs ds : List Call) (c d : Call) → Twins r cs ds
    → asked c ≡ asked d
    → absent_in choose (run r cs) c ≡ absent_in choose (run r ds) d
same-counts choose r cs ds c d h e =
    let l = in_step r cs ds h in
    let n = (run r cs).state.accepted in
    rw (
      ← same-due (run r cs) (run r ds) c d l e,
      ← l.state,
      ← ap (λ (a : Asked). a.wants.delay) e,
      ← ap (λ (a : Asked). a.wants.quality) e,
      ← ap (λ (a : Asked). a.wants.playback-rate) e,
    )
    (ap (unless_refused (due (run r cs) c))
    (told-turn (choose c.playback-rate) (one r cs ds c d h) (other r cs ds c d h)
    (length-set (run r cs).ring (n % length (run r cs).ring) c.input
    ∙ l.long
    ∙ sym (length-set (run r ds).ring (n % length (run r ds).ring) d.input))
    (n + 1) (position_of n c.delay) (turn_in (run r cs) c)))
