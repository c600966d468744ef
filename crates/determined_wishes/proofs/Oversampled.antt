-- C1, W11. The contract of each oversampled reader's call determines its answer, which has the state in it, and every
-- element of the filters' histories and of the inner ring. Assumes nothing.
use mathlib.Core.Path.{sym, ◌∙◌}
use mathlib.Core.List.{List}
use lib.Ieee.{Float}
use contract.Lifetimes.{Lfts}
use Rattle.oversampled_delay.proofs.process_sample.Reads as oversampled
use Rattle.cascaded_delay.proofs.process_sample.Reads as cascaded
use Rattle.determined.specs.Determined.{Determined}

-- The arguments are state, kernel, table, coefficients, both histories and the ring, input and delay.
pub oversampled-determined : (κs : Lfts 4)
    → Determined {L = List Float × (List Float × List Float)} (oversampled.Learnt κs)
    (λ e. let h = e.1.1.1.1 in (h.0.now, (h.1.0.now, h.1.1.0.now)))
oversampled-determined κs f g p q a =
    let x = p a in
    let y = q a in
    let up = x.1.0 ∙ sym y.1.0 in
    let down = x.1.1.0 ∙ sym y.1.1.0 in
    let ring = x.1.1.1 ∙ sym y.1.1.1 in (x.0 ∙ sym y.0, λ i. (up i, (down i, ring i)))

-- The arguments are state, kernel, table, both filters' coefficients, the four histories, the ring, input and delay.
pub cascaded-determined : (κs : Lfts 6)
    → Determined {L = List Float × (List Float × (List Float × (List Float × List Float)))} (cascaded.Learnt κs)
    (λ e.
    let h = e.1.1.1.1.1 in
    (h.0.now, (h.1.0.now, (h.1.1.0.now, (h.1.1.1.0.now, h.1.1.1.1.0.now)))))
cascaded-determined κs f g p q a =
    let x = p a in
    let y = q a in
    let up1 = x.1.0 ∙ sym y.1.0 in
    let up2 = x.1.1.0 ∙ sym y.1.1.0 in
    let down2 = x.1.1.1.0 ∙ sym y.1.1.1.0 in
    let down1 = x.1.1.1.1.0 ∙ sym y.1.1.1.1.0 in
    let ring = x.1.1.1.1.1 ∙ sym y.1.1.1.1.1 in
    (x.0 ∙ sym y.0, λ i. (up1 i, (up2 i, (down2 i, (down1 i, ring i)))))
