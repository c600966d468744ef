-- W8b and W8c of a delay reader: what a call answers in two runs of the same calls, in either width. Assumes nothing.
use mathlib.Core.Path.{◌≡◌, refl, sym, ◌∙◌, ap}
use mathlib.Core.List.{List}
use Prim.Native.Nat.{ℕ, zero, suc, ◌+◌, ◌%◌}
use lib.ListN.{length, length-set}
use lib.Ieee.{Float}
use Rattle.answer.specs.Answers.{answer_of, answer_f32_of}
use Rattle.absent_taps.specs.Absent.{first_tap}
use Rattle.absent_taps.proofs.Laws.{by_length}
use Rattle.told_call.specs.Told.{unless_refused}
use Rattle.reads.specs.Local.{Local}
use Rattle.variable_delay.specs.Reader.{Reading, stored, position_of}
use Rattle.runs.specs.Runs.{Call, Reader, due, run, accepted, samples}
use Rattle.runs.proofs.Counted.{ring_of}
use Rattle.aging.specs.Calls.{Asked, asked, Twins, answered, answered_f32, absent_in, SameBits, AgesOut}
use Rattle.aging.proofs.AtCall as call
use Rattle.aging.proofs.Delays.{same-due, in_step, as_many, count}

-- An answer's two forms: a number for each refusal, and a sample.
module _ {A : Type 0} (reply : ℕ → Float → A) (silent : (k : ℕ) (z w : Float) → reply (suc k) z ≡ reply (suc k) w) where
  answer : Reading → Reader → Call → A
  answer read r c =
      reply (due r c)
      (read (stored r.state.accepted r.ring c.input) (r.state.accepted + 1)
      (position_of r.state.accepted c.delay))

  same-reply : (v : ℕ) (z w : Float) → (v ≡ 0 → z ≡ w) → reply v z ≡ reply v w
  same-reply zero z w h = ap (reply 0) (h refl)
  same-reply (suc k) z w h = silent k z w

  same_bits : (n : ℕ) (read : Reading) → Local n read → SameBits answer n read
  unfolding answer
  same_bits n read local r cs ds c d h e avoid =
      let l = in_step r cs ds h in
      rw (← same-due (run r cs) (run r ds) c d l e, ← l.state, ← ap (λ (a : Asked). a.delay) e)
      (same-reply (due (run r cs) c) _ _
      (λ v.
      local _ _ _ _ _
      (call.alike r.state.accepted r.ring (samples (accepted r cs)) (samples (accepted r ds)) (as_many r cs ds h)
      c.input d.input (count r cs ds h) (ring_of r cs) (ring_of r ds)
      (first_tap (position_of (run r cs).state.accepted c.delay) n) n (avoid v))))

  ages-out : (read : Reading) → AgesOut answer read
  unfolding answer
  ages-out read r cs ds c d m h e none old =
      let l = in_step r cs ds h in
      rw (← same-due (run r cs) (run r ds) c d l e, ← l.state, ← ap (λ (a : Asked). a.delay) e)
      (ap (λ (ys : List Float).
      reply (due (run r cs) c)
      (read ys ((run r cs).state.accepted + 1) (position_of (run r cs).state.accepted c.delay)))
      (call.aged r.state.accepted r.ring (samples (accepted r cs)) (samples (accepted r ds)) (as_many r cs ds h)
      c.input d.input (count r cs ds h) (ring_of r cs) (ring_of r ds) m none old))

-- W8b. In either width, of any reading that depends on its n taps alone.
pub same-bits-f64 : (n : ℕ) (read : Reading) → Local n read → SameBits answered n read
unfolding answer
same-bits-f64 = same_bits answer_of (λ k z w. refl)

pub same-bits-f32 : (n : ℕ) (read : Reading) → Local n read → SameBits answered_f32 n read
unfolding answer
same-bits-f32 = same_bits answer_f32_of (λ k z w. refl)

-- W8c. In either width, of any reading at all.
pub ages-out-f64 : (read : Reading) → AgesOut answered read
unfolding answer
ages-out-f64 = ages-out answer_of (λ k z w. refl)

pub ages-out-f32 : (read : Reading) → AgesOut answered_f32 read
unfolding answer
ages-out-f32 = ages-out answer_f32_of (λ k z w. refl)

-- W8b. What a reader tells of absent taps is the same at every call, whichever they avoid.
pub same-counts : (n : ℕ) (r : Reader) (cs ds : List Call) (c d : Call) → Twins r cs ds → asked c ≡ asked d
    → absent_in n (run r cs) c ≡ absent_in n (run r ds) d
same-counts n r cs ds c d h e =
    let l = in_step r cs ds h in
    let one = run r cs in
    let other = run r ds in
    rw (← same-due one other c d l e, ← l.state, ← ap (λ (a : Asked). a.delay) e)
    (ap (unless_refused (due one c))
    (by_length (stored one.state.accepted one.ring c.input)
    (stored one.state.accepted other.ring d.input)
    (length-set one.ring (one.state.accepted % length one.ring) c.input
    ∙ l.long
    ∙ sym (length-set other.ring (one.state.accepted % length other.ring) d.input))
    (one.state.accepted + 1) (position_of one.state.accepted c.delay) n))
