-- W8a and W8c of a delay reader, whatever its kernel reads: what two runs of the same calls leave. Assumes nothing.
use mathlib.Core.Path.{◌≡◌, refl, sym, ◌∙◌, ap}
use mathlib.Core.List.{List}
use Prim.Native.Nat.{ℕ, zero, suc, ◌+◌, ◌%◌, ◌<◌}
use lib.ListN.{length, get_or, take, length-map, length-set}
use lib.Ieee.{nan}
use lib.Ieee.Scale.{finite}
use Rattle.variable_delay.specs.declared.VariableDelay.{VariableDelay}
use Rattle.runs.specs.Runs.{Call, Reader, due, after_by, run, accepted, samples}
use Rattle.runs.proofs.Counted.{counted, ring_of, refused-leave-nothing}
use Rattle.aging.specs.Damage.{Spared, NoneAfter, Aged}
use Rattle.aging.specs.Calls.{Asked, asked, SameCalls, Twins, InStep}
use Rattle.aging.proofs.InStep as steps
use Rattle.aging.proofs.Rings as rings

-- ---- W8a. the same calls are accepted, and the state is the same after every call

pub same-due : (r s : Reader) (c d : Call) → InStep r s → asked c ≡ asked d → due r c ≡ due s d
same-due r s c d l e =
    let fine : finite c.input ≡ finite d.input = ap (λ (a : Asked). a.fine) e in
    rw (
      l.state,
      l.long,
      ap (λ (a : Asked). a.own) e,
      ap (λ (a : Asked). a.lent) e,
      fine,
      ap (λ (a : Asked). a.delay) e,
    )

kept : (v : ℕ) (r s : Reader) (c d : Call) → InStep r s → asked c ≡ asked d → InStep (after_by v r c) (after_by v s d)
kept zero r s c d l e =
    record {
      state = rw l.state;
      long =
          length-set r.ring (r.state.accepted % length r.ring) c.input
          ∙ l.long
          ∙ sym (length-set s.ring (s.state.accepted % length s.ring) d.input);
    }
kept (suc k) r s c d l e = l

here : (r : Reader) → InStep r r
here r = record { state = refl; long = refl }

pub accepts : (r : Reader) (cs ds : List Call) → SameCalls cs ds → Twins r cs ds
accepts r cs ds e = steps.accepts due after_by asked InStep same-due kept r r cs ds (here r) e

pub after-each : (r : Reader) (cs ds : List Call) → SameCalls cs ds → (k : ℕ)
    → InStep (run r (take k cs)) (run r (take k ds))
after-each r cs ds e k = steps.after-each due after_by asked InStep same-due kept r r cs ds (here r) e k

module _ (r : Reader) (cs ds : List Call) (h : Twins r cs ds) where
  pub in_step : InStep (run r cs) (run r ds)
  in_step =
      rw (← refused-leave-nothing r cs, ← refused-leave-nothing r ds)
      (steps.in_step due after_by asked InStep same-due kept r r (accepted r cs) (accepted r ds) (here r) h)

  pub as_many : length (samples (accepted r cs)) ≡ length (samples (accepted r ds))
  as_many =
      length-map (accepted r cs) (λ c. c.input)
      ∙ sym (length-map (accepted r cs) asked)
      ∙ ap length h
      ∙ length-map (accepted r ds) asked
      ∙ sym (length-map (accepted r ds) (λ c. c.input))

  pub count : (run r cs).state.accepted ≡ r.state.accepted + length (samples (accepted r cs))
  count =
      ap (λ (d : VariableDelay). d.accepted) (counted r cs)
      ∙ ap (λ (n : ℕ). r.state.accepted + n) (sym (length-map (accepted r cs) (λ c. c.input)))

  -- W8a. The rings differ at most at the places of samples that differ.
  pub places : (j : ℕ) → j < length r.ring
      → Spared r.state.accepted (length r.ring) (samples (accepted r cs)) (samples (accepted r ds)) j
      → get_or (run r cs).ring j nan ≡ get_or (run r ds).ring j nan
  places j l spared =
      rw (ring_of r cs, ring_of r ds)
      (rings.places r.state.accepted r.ring (samples (accepted r cs))
      (samples (accepted r ds)) as_many j l spared)

  -- W8c. Once the damage has aged out the readers are the same, and so is all that they ever answer.
  pub one_reader : (m : ℕ) → NoneAfter m (samples (accepted r cs)) (samples (accepted r ds))
      → Aged (length r.ring) m (samples (accepted r cs))
      → run r cs ≡ run r ds
  one_reader m none old =
      let ring : (run r cs).ring ≡ (run r ds).ring =
      ring_of r cs
      ∙ rings.aged r.state.accepted r.ring (samples (accepted r cs)) (samples (accepted r ds)) as_many m none old
      ∙ sym (ring_of r ds) in
      same in_step.state ring
    where
      same : {s t : Reader} → s.state ≡ t.state → s.ring ≡ t.ring → s ≡ t
      same {s} {t} p q = λ i. record { state = p i; ring = q i }
