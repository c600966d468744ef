-- K8. Without its qualities a quality reader is a plain delay reader of the calls that it accepts. So its count is the
-- number of accepted calls, and its ring is what storing their samples in turn leaves. Assumes nothing.
use mathlib.Core.Path.{◌≡◌, refl, sym, ◌∙◌, ap}
use mathlib.Core.List.{List, [], ◌∷◌, map}
use Prim.Native.Nat.{ℕ, ◌+◌}
use lib.ListN.{length, length-map}
use Rattle.runs.specs.Runs as plain
use Rattle.runs.specs.Filled.{stored_from}
use Rattle.runs.specs.Calls.{run_of, accepted_of}
use Rattle.runs.proofs.Calls.{by-accepted}
use Rattle.runs.proofs.Calls as plainly
use Rattle.runs.proofs.Counted as counts
use Rattle.quality_variable_delay.specs.State.{delay_part}
use Rattle.quality_variable_delay.proofs.AcceptedCall.{taken}
use Rattle.quality_runs.specs.Runs.{Call, Reader, after_by, due, run, accepted, delayed, plain_call}
use Rattle.quality_runs.proofs.Calls.{stays}

-- A call that is accepted is one that a plain reader accepts.
plain-none : (r : Reader) (c : Call) → due r c ≡ 0 → plain.due (delayed r) (plain_call c) ≡ 0
plain-none r c e =
    (taken c.bank c.lent r.state (length r.ring) c.input c.delay c.playback-rate e).plain-none

pub all-accepted : (r : Reader) (cs : List Call)
    → plain.accepted (delayed r) (map plain_call (accepted r cs)) ≡ map plain_call (accepted r cs)
unfolding accepted_of
all-accepted =
    by-accepted due after_by stays (λ r s cs. plain.accepted (delayed r) (map plain_call cs) ≡ map plain_call cs)
    (λ r. refl)
    (λ r c s cs e ih.
    let rest = map plain_call cs in
    plainly.accepted-taken plain.due plain.after_by counts.stays (delayed r) (plain_call c) rest (plain-none r c e)
    ∙ ap (λ (l : List plain.Call). plain_call c ∷ l) ih)

pub as_plain : (r : Reader) (cs : List Call)
    → plain.run (delayed r) (map plain_call (accepted r cs)) ≡ delayed (run r cs)
unfolding run_of
as_plain =
    by-accepted due after_by stays (λ r s cs. plain.run (delayed r) (map plain_call cs) ≡ delayed s)
    (λ r. refl)
    (λ r c s cs e ih.
    plainly.run-taken plain.due plain.after_by counts.stays (delayed r) (plain_call c) (map plain_call cs)
    (plain-none r c e)
    ∙ ih)

-- The settings stay, and the count goes up by one for each accepted call.
pub counted : (r : Reader) (cs : List Call)
    → delay_part (run r cs).state ≡ plain.with_count (delay_part r.state) (r.state.accepted + length (accepted r cs))
counted r cs =
    ap (λ (s : plain.Reader). s.state) (sym (as_plain r cs))
    ∙ counts.counted (delayed r) (map plain_call (accepted r cs))
    ∙ ap (λ (l : List plain.Call). plain.with_count (delay_part r.state) (r.state.accepted + length l))
    (all-accepted r cs)
    ∙ ap (λ (n : ℕ). plain.with_count (delay_part r.state) (r.state.accepted + n))
    (length-map (accepted r cs) plain_call)

-- The ring holds the samples of the accepted calls, stored in turn.
pub ring_of : (r : Reader) (cs : List Call)
    → (run r cs).ring ≡ stored_from r.state.accepted r.ring (plain.samples (map plain_call (accepted r cs)))
ring_of r cs =
    ap (λ (s : plain.Reader). s.ring) (sym (as_plain r cs))
    ∙ counts.ring_of (delayed r) (map plain_call (accepted r cs))
    ∙ ap (λ (l : List plain.Call). stored_from r.state.accepted r.ring (plain.samples l)) (all-accepted r cs)
