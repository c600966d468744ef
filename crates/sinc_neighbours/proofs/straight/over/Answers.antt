-- `sinc_neighbours::straight::over` meets its contract: each chain goes over samples that stand side by side, with rows
-- that are longer. Assumes nothing.
use mathlib.Core.Path.{◌≡◌, ◌∙◌}
use mathlib.Core.List.{List}
use Prim.Native.Nat.{ℕ, ◌+◌, ◌-◌, ◌*◌, ◌%◌}
use native.Mathlib.Omega.{arith}
use lib.ListN.{length, get_or, take, drop, length-take, length-drop}
use lib.Ieee.{Float, nan, binary32, of_bits}
use Rattle.answer.specs.Answers.{zero-f}
use Rattle.loop_laws.specs.Loops.{fold}
use Rattle.fused_chain.specs.Chain.{chain_of, run_length}
use Rattle.sinc_read_f32.specs.Sums.{tap_turn}
use Rattle.sinc_read_f32.proofs.Chains.{one-chain, one-run}
use Rattle.sinc_neighbours.specs.Straight.{Lies}
use Rattle.sinc_neighbours.proofs.straight.over.Goals as goal

sum_is : (table xs : List Float) (taps place phase : ℕ) (blend : Float)
    → Lies (length table) taps (length xs) place phase
    → (let part = take (place + taps - place) (drop place xs) in
    let a = take (length table - phase * taps) (drop (phase * taps) table) in
    let b = take (length table - (phase * taps + taps)) (drop (phase * taps + taps) table) in
    chain_of part a b blend (of_bits binary32 0) (run_length (length part) (length a) (length b)))
    ≡ fold (tap_turn (λ (k : ℕ). get_or xs ((place + k) % length xs) nan) table blend taps phase) zero-f taps
sum_is table xs taps place phase blend l =
    let n : length (take (place + taps - place) (drop place xs)) ≡ taps =
    simp (length-take, length-drop) (omega (arith, l.inside)) in
    one-chain (take (place + taps - place) (drop place xs)) table (phase * taps) (phase * taps + taps) blend
    (of_bits binary32 0) (omega (arith, n, l.rows)) (omega (arith, n, l.rows))
    ∙ one-run xs table blend taps phase place taps (omega (arith, l.inside)) (omega (arith, l.inside, l.some))
    (omega (arith, l.inside))

pub returns : goal.returns
returns c =
    let a = c.args in record {
      a_value = c.neighbours.ensures.a_value
          ∙ sum_is a.table.now a.source.now a.taps a.place a.phase a.blend c.requires.0;
      b_value = c.neighbours.ensures.b_value
          ∙ sum_is a.table.now a.source.now a.taps a.other_place a.other_phase a.other
          c.requires.1;
    }
