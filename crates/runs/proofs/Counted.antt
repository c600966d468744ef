-- K8. Over a run of calls the count is the number of accepted ones, the ring is what storing their samples in turn
-- leaves, and a refused call leaves no trace. By induction over the calls. Assumes nothing.
use mathlib.Core.Path.{◌≡◌, refl, ◌∙◌, ap}
use mathlib.Core.List.{List}
use Prim.Native.Nat.{ℕ, suc, ◌+◌}
use native.Mathlib.Nat.{add-zero}
use native.Mathlib.Omega.{arith}
use lib.ListN.{length}
use Rattle.variable_delay.specs.Reader.{Reading, verdict, ring_after, processed_by}
use Rattle.runs.specs.Runs.{Call, Reader, after_by, due, after, run, accepted, with_count, samples}
use Rattle.runs.specs.Filled.{stored_from}
use Rattle.runs.proofs.Calls.{by-accepted}
use Rattle.runs.proofs.Calls as calls

tick : (a n : ℕ) → a + 1 + n ≡ a + suc n
tick a n = omega arith

-- A reader's call leaves `after`, whatever its kernel reads: the state in its answer, and the ring.
pub leaves : (read : Reading) (r : Reader) (c : Call)
    → let v = verdict c.own c.lent r.state (length r.ring) c.input c.delay in
    ((processed_by read v r.state r.ring c.input c.delay).state ≡ (after r c).state)
    × (ring_after v r.state r.ring c.input ≡ (after r c).ring)
leaves read r c = (refl, refl)

-- A refused call changes nothing.
pub stays : (k : ℕ) (r : Reader) (c : Call) → after_by (suc k) r c ≡ r
stays k r c = refl

-- The settings stay, and the count goes up by one for each accepted call.
pub counted : (r : Reader) (cs : List Call)
    → (run r cs).state ≡ with_count r.state (r.state.accepted + length (accepted r cs))
counted =
    by-accepted due after_by stays (λ r s cs. s.state ≡ with_count r.state (r.state.accepted + length cs))
    (λ r. rw (add-zero r.state.accepted))
    (λ r c s cs e ih. ih ∙ ap (with_count r.state) (tick _ _))

pub ring_of : (r : Reader) (cs : List Call)
    → (run r cs).ring ≡ stored_from r.state.accepted r.ring (samples (accepted r cs))
unfolding stored_from
ring_of =
    by-accepted due after_by stays (λ r s cs. s.ring ≡ stored_from r.state.accepted r.ring (samples cs))
    (λ r. refl)
    (λ r c s cs e ih. ih)

pub refused-leave-nothing : (r : Reader) (cs : List Call) → run r (accepted r cs) ≡ run r cs
refused-leave-nothing = calls.refused-leave-nothing due after_by stays
