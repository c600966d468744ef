-- W8d to W8f of the quality reader, by either rule: refused calls in either run, a reset, and what is asked of the
-- values. Assumes nothing.
use mathlib.Core.Path.{◌≡◌, refl, sym, ◌∙◌, ap}
use mathlib.Core.Bool.{true}
use mathlib.Core.List.{List, ◌∷◌, ◌++◌, map}
use lib.ListN.{length}
use lib.Ieee.Bits.{is_true}
use lib.Ieee.Scale.{finite}
use Rattle.variable_delay.proofs.AcceptedCall as plainly
use Rattle.quality_variable_delay.specs.State.{delay_part}
use Rattle.quality_variable_delay.specs.Opening.{reset_verdict, reset_of, ring_reset}
use Rattle.quality_variable_delay.proofs.AcceptedCall.{taken}
use Rattle.runs.proofs.Calls.{by-accepted}
use Rattle.quality_runs.specs.Runs.{Call, Reader, due, after_by, run, accepted}
use Rattle.quality_runs.proofs.Calls.{stays, refused-anywhere}
use Rattle.aging.specs.Qualities.{Wanted, wanted, Asked, asked, Twins}
use Rattle.aging.proofs.Qualities.{in_step}

-- W8d. A refused call that is inserted anywhere, in the one run or in the other, leaves the same reader, and the runs
-- are what they were to each other.
module _ (r : Reader) (xs : List Call) (c : Call) (ys ds : List Call) (refused : due (run r xs) c ≡ 0 → ⊥) where
  pub no-effect : run r (xs ++ c ∷ ys) ≡ run r (xs ++ ys)
  no-effect = (refused-anywhere r xs c ys refused).0

  pub in-the-one : Twins r (xs ++ ys) ds → Twins r (xs ++ c ∷ ys) ds
  in-the-one h = ap (map asked) (refused-anywhere r xs c ys refused).1 ∙ h

  pub in-the-other : Twins r ds (xs ++ ys) → Twins r ds (xs ++ c ∷ ys)
  in-the-other h = h ∙ sym (ap (map asked) (refused-anywhere r xs c ys refused).1)

-- W8e. After a reset the readers are the same, state and ring.
pub reset-ends : (r : Reader) (cs ds : List Call) → Twins r cs ds
    → reset_verdict (run r cs).state (length (run r cs).ring) ≡ 0
    → (reset_of (run r cs).state (length (run r cs).ring) ≡ reset_of (run r ds).state (length (run r ds).ring))
    × (ring_reset (run r cs).state (run r cs).ring ≡ ring_reset (run r ds).state (run r ds).ring)
reset-ends r cs ds h e =
    let l = in_step r cs ds h in
    let f : reset_verdict (run r ds).state (length (run r ds).ring) ≡ 0 = rw (← l.state, ← l.long) e in
    (rw (l.state, l.long), rw (e, f, l.long))

-- W8f. Nothing is asked of the samples but that their calls were accepted: then what the calls want makes them the
-- same.
abbrev fine_one : Wanted → Asked
fine_one w = record { bank = true; lent = true; fine = true; wants = w }

all-fine : (r : Reader) (cs : List Call) → map asked (accepted r cs) ≡ map fine_one (map wanted (accepted r cs))
all-fine =
    by-accepted due after_by stays (λ r s cs. map asked cs ≡ map fine_one (map wanted cs))
    (λ r. refl)
    (λ r c s cs e ih.
    let t = taken c.bank c.lent r.state (length r.ring) c.input c.delay c.playback-rate e in
    let u = plainly.taken true true (delay_part r.state) (length r.ring) c.input c.delay t.plain-none in
    rw (t.banked, t.lasting, is_true (finite c.input) u.input, ih))

pub any-values : (r : Reader) (cs ds : List Call) → map wanted (accepted r cs) ≡ map wanted (accepted r ds)
    → Twins r cs ds
any-values r cs ds e = all-fine r cs ∙ ap (map fine_one) e ∙ sym (all-fine r ds)
