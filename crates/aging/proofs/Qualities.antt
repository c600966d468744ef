-- W8a and W8c of the quality reader, by either rule: what two runs of the same calls leave. Assumes nothing.
use mathlib.Core.Path.{◌≡◌, refl, sym, ◌∙◌, ap}
use mathlib.Core.List.{List, map}
use Prim.Native.Nat.{ℕ, zero, suc, ◌+◌, ◌%◌, ◌<◌}
use lib.ListN.{length, get_or, take, length-map, length-set}
use lib.Ieee.{nan}
use lib.Ieee.Scale.{finite}
use Rattle.variable_delay.specs.declared.VariableDelay.{VariableDelay}
use Rattle.runs.specs.Runs as plain
use Rattle.quality_runs.specs.Runs.{Call, Reader, due, after_by, run, accepted, plain_call}
use Rattle.quality_runs.proofs.Calls.{refused-leave-nothing}
use Rattle.quality_runs.proofs.Counted.{counted, ring_of}
use Rattle.aging.specs.Damage.{Spared, NoneAfter, Aged}
use Rattle.aging.specs.Qualities.{Asked, asked, SameCalls, Twins, InStep, samples_of}
use Rattle.aging.proofs.InStep as steps
use Rattle.aging.proofs.Rings as rings

-- ---- W8a. the same calls are accepted, and the state is the same after every call

pub same-due : (r s : Reader) (c d : Call) → InStep r s → asked c ≡ asked d → due r c ≡ due s d
same-due r s c d l e =
    let fine : finite c.input ≡ finite d.input = ap (λ (a : Asked). a.fine) e in
    rw (
      l.state,
      l.long,
      ap (λ (a : Asked). a.bank) e,
      ap (λ (a : Asked). a.lent) e,
      fine,
      ap (λ (a : Asked). a.wants.delay) e,
      ap (λ (a : Asked). a.wants.playback-rate) e,
    )

kept : (v : ℕ) (r s : Reader) (c d : Call) → InStep r s → asked c ≡ asked d → InStep (after_by v r c) (after_by v s d)
kept zero r s c d l e =
    record {
      state = rw (l.state, ap (λ (a : Asked). a.wants.quality) e);
      long =
          length-set r.ring (r.state.accepted % length r.ring) c.input
          ∙ l.long
          ∙ sym (length-set s.ring (s.state.accepted % length s.ring) d.input);
    }
kept (suc k) r s c d l e = l

here : (r : Reader) → InStep r r
here r = record { state = refl; long = refl }

pub accepts : (r : Reader) (cs ds : List Call) → SameCalls cs ds → Twins r cs ds
accepts r cs ds e = steps.accepts due after_by asked InStep same-due kept r r cs ds (here r) e

as-many-as : (r : Reader) (cs : List Call) → length (samples_of r cs) ≡ length (accepted r cs)
as-many-as r cs =
    length-map (map plain_call (accepted r cs)) (λ (c : plain.Call). c.input) ∙ length-map (accepted r cs) plain_call

pub after-each : (r : Reader) (cs ds : List Call) → SameCalls cs ds → (k : ℕ)
    → InStep (run r (take k cs)) (run r (take k ds))
after-each r cs ds e k = steps.after-each due after_by asked InStep same-due kept r r cs ds (here r) e k

module _ (r : Reader) (cs ds : List Call) (h : Twins r cs ds) where
  pub in_step : InStep (run r cs) (run r ds)
  in_step =
      rw (← refused-leave-nothing r cs, ← refused-leave-nothing r ds)
      (steps.in_step due after_by asked InStep same-due kept r r (accepted r cs) (accepted r ds) (here r) h)

  pub as_many : length (samples_of r cs) ≡ length (samples_of r ds)
  as_many =
      as-many-as r cs
      ∙ sym (length-map (accepted r cs) asked)
      ∙ ap length h
      ∙ length-map (accepted r ds) asked
      ∙ sym (as-many-as r ds)

  pub count : (run r cs).state.accepted ≡ r.state.accepted + length (samples_of r cs)
  count =
      ap (λ (d : VariableDelay). d.accepted) (counted r cs)
      ∙ ap (λ (n : ℕ). r.state.accepted + n) (sym (as-many-as r cs))

  -- W8a. The rings differ at most at the places of samples that differ.
  pub places : (j : ℕ) → j < length r.ring
      → Spared r.state.accepted (length r.ring) (samples_of r cs) (samples_of r ds) j
      → get_or (run r cs).ring j nan ≡ get_or (run r ds).ring j nan
  places j l spared =
      rw (ring_of r cs, ring_of r ds)
      (rings.places r.state.accepted r.ring (samples_of r cs) (samples_of r ds) as_many j l spared)

  -- W8c. Once the damage has aged out the readers are the same, and so is all that they ever answer.
  pub one_reader : (m : ℕ) → NoneAfter m (samples_of r cs) (samples_of r ds)
      → Aged (length r.ring) m (samples_of r cs)
      → run r cs ≡ run r ds
  one_reader m none old =
      same in_step.state
      (ring_of r cs
      ∙ rings.aged r.state.accepted r.ring (samples_of r cs) (samples_of r ds) as_many m none old
      ∙ sym (ring_of r ds))
    where
      same : {s t : Reader} → s.state ≡ t.state → s.ring ≡ t.ring → s ≡ t
      same {s} {t} p q = λ i. record { state = p i; ring = q i }
