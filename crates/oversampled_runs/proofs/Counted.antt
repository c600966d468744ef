-- W11i. Over a run the accepted number is the number of accepted calls, and the inner number stays at most factor × it.
-- A refused call leaves no trace (W11c). By induction over the calls. Assumes nothing.
use mathlib.Core.Path.{◌≡◌, refl, ◌∙◌}
use mathlib.Core.List.{List}
use Prim.Native.Nat.{ℕ, suc, ◌+◌, ◌*◌, ◌≤◌}
use native.Mathlib.Nat.{mul-add, mul-one}
use native.Mathlib.Omega.{arith}
use lib.ListN.{length}
use Rattle.kernels.specs.Kernels.{read_by}
use Rattle.fir_filter.specs.Filters.{pushed}
use Rattle.runs.proofs.Calls.{by-accepted}
use Rattle.runs.proofs.Calls as calls
use Rattle.oversampled_delay.specs.Phases.{turn_of, high_of}
use Rattle.oversampled_delay.specs.Reader.{from_of}
use Rattle.oversampled_runs.specs.Runs.{Call, Reader, due, after_by, run, accepted}
use Rattle.oversampled_delay.proofs.Inner.{phases-inner}

-- W11c. A refused call changes nothing.
pub stays : (k : ℕ) (r : Reader) (c : Call) → after_by (suc k) r c ≡ r
stays k r c = refl

pub refused-leave-nothing : (r : Reader) (cs : List Call) → run r (accepted r cs) ≡ run r cs
refused-leave-nothing = calls.refused-leave-nothing due after_by stays

-- The count goes up by one for each accepted call.
pub counted : (r : Reader) (cs : List Call)
    → (run r cs).state.accepted ≡ r.state.accepted + length (accepted r cs)
counted =
    by-accepted due after_by stays (λ r s cs. s.state.accepted ≡ r.state.accepted + length cs)
    (λ r. omega arith)
    (λ r c s cs e ih. ih ∙ tick r.state.accepted (length cs))
  where
    tick : (a n : ℕ) → a + 1 + n ≡ a + suc n
    tick a n = omega arith

-- The inner number is in range, as refusal 3 asks.
abbrev pub InRange : Reader → Type 0
InRange r = r.state.inner ≤ r.state.factor * r.state.accepted

pub kept : (r : Reader) (cs : List Call) → InRange r → InRange (run r cs)
kept =
    by-accepted due after_by stays (λ r s cs. InRange r → InRange s)
    (λ r h. h)
    (λ r c s cs e ih h. ih (one r c h))
  where
    one : (r : Reader) (c : Call) → InRange r → InRange (after_by 0 r c)
    one r c h =
        let d = r.state in
        let p =
        phases-inner
        (turn_of (read_by c.kernel c.table) d c.coefficients (pushed r.up d.accepted c.input)
        (from_of d c.delay) c.delay) (high_of d.inner r.down r.ring) d.factor in
        omega (arith, p, h, mul-add d.factor d.accepted 1, mul-one d.factor)
