-- Chains over adjacent samples are turns of 000's sum, from any tap on, and one chain after another. Assumes nothing.
use mathlib.Core.Path.{◌≡◌, sym, ap, ◌∙◌}
use mathlib.Core.List.{List}
use Prim.Native.Nat.{ℕ, ◌+◌, ◌-◌, ◌*◌, ◌%◌, ◌≤◌, ◌<◌}
use native.Mathlib.Nat.{add_assoc}
use native.Mathlib.Omega.{arith}
use lib.ListN.{length, get_or, take, drop, length-take, length-drop}
use lib.Seq.{get_or-drop, get_or-take, take_all, length-take-le}
use lib.Ieee.{Float, nan, binary32, of_bits}
use Rattle.answer.specs.Answers.{zero-f}
use Rattle.loop_laws.specs.Loops.{fold}
use Rattle.loop_laws.proofs.Folds.{same, split}
use Rattle.rounding.proofs.Sums.{zero_bits}
use Rattle.ring.proofs.HeldRuns.{on, round}
use Rattle.fused_chain.specs.Chain.{turn_of, chain_of, run_length}
use Rattle.sinc_phases.proofs.RowsInTable.{next_row}
use Rattle.sinc_read_f32.specs.Sums.{tap_turn, run_turn}

-- ---- one chain, over rows that are the table from two places on
row_from : (table : List Float) (row : ℕ) → take (length table - row) (drop row table) ≡ drop row table
row_from table row = take_all (length table - row) (drop row table) (simp length-drop (omega arith))

pub one-chain : (samples table : List Float) (row next : ℕ) (blend sum : Float) → row + length samples ≤ length table
    → next + length samples ≤ length table
    → (let a = take (length table - row) (drop row table) in
    let b = take (length table - next) (drop next table) in
    chain_of samples a b blend sum (run_length (length samples) (length a) (length b)))
    ≡ fold (run_turn samples table row next blend) sum (length samples)
one-chain samples table row next blend sum a b =
    let e : run_length (length samples) (length (drop row table)) (length (drop next table)) ≡ length samples =
    omega (arith, length-drop row table, length-drop next table) in
    rw (row_from table row, row_from table next)
    (ap (chain_of samples (drop row table) (drop next table) blend sum) e
    ∙ same (turn_of samples (drop row table) (drop next table) blend) (run_turn samples table row next blend) sum
    (length samples) (λ k l v. rw (get_or-drop, get_or-drop)))

-- ---- where x tells the sample of each tap: a chain from the first tap on, and one from tap m on behind the taps
-- before it
module _ (x : ℕ → Float) (table : List Float) (blend : Float) (taps phase : ℕ) where
  abbrev sum : ℕ → Float
  sum n = fold (tap_turn x table blend taps phase) zero-f n

  pub from_first : (samples : List Float) → ((k : ℕ) → k < length samples → get_or samples k nan ≡ x k)
      → fold (run_turn samples table (phase * taps) (phase * taps + taps) blend) (of_bits binary32 0) (length samples)
      ≡ sum (length samples)
  from_first samples each =
      ap (λ (v : Float). fold (run_turn samples table (phase * taps) (phase * taps + taps) blend) v (length samples))
      (zero_bits binary32)
      ∙ same (run_turn samples table (phase * taps) (phase * taps + taps) blend)
      (tap_turn x table blend taps phase) zero-f (length samples) (λ k l v. rw (each k l, next_row phase taps))

  pub further : (samples : List Float) (m : ℕ) (before : Float) → before ≡ sum m
      → ((k : ℕ) → k < length samples → get_or samples k nan ≡ x (m + k))
      → fold (run_turn samples table (phase * taps + m) (phase * taps + taps + m) blend) before (length samples)
      ≡ sum (m + length samples)
  further samples m before h each =
      ap
      (λ (v : Float). fold (run_turn samples table (phase * taps + m) (phase * taps + taps + m) blend) v
      (length samples)) h
      ∙ same (run_turn samples table (phase * taps + m) (phase * taps + taps + m) blend)
      (λ (k : ℕ). tap_turn x table blend taps phase (m + k)) (sum m) (length samples)
      (λ k l v. rw (each k l, next_row phase taps, add_assoc (phase * taps) m k, add_assoc (phase * taps + taps) m k))
      ∙ split (tap_turn x table blend taps phase) zero-f m (length samples)

-- ---- so many samples that lie in a ring from a place on, up to its end and on from its start
module _ (xs table : List Float) (blend : Float) (taps phase place turns : ℕ)
    (fits : turns ≤ length xs) (inside : place < length xs) where
  abbrev x : ℕ → Float
  x k = get_or xs ((place + k) % length xs) nan

  abbrev left : ℕ
  left = length xs - place

  -- A part from the place on, counted as the code counts it.
  before-end : (n k : ℕ) → k < n → n ≤ left → get_or (take n (drop place xs)) k nan ≡ x k
  before-end n k l h =
      get_or-take n (drop place xs) k nan l
      ∙ get_or-drop place xs k nan
      ∙ ap (λ (p : ℕ). get_or xs p nan) (sym (on (omega arith)))

  long : (n : ℕ) → n ≤ left → length (take n (drop place xs)) ≡ n
  long n h = simp (length-take, length-drop) (omega arith)

  pub one-run : turns ≤ left
      → (let part = take (place + turns - place) (drop place xs) in
      fold (run_turn part table (phase * taps) (phase * taps + taps) blend) (of_bits binary32 0) (length part))
      ≡ sum x table blend taps phase turns
  one-run h =
      let n = place + turns - place in
      let e : n ≡ turns = omega arith in
      let l : length (take n (drop place xs)) ≡ n = long n (omega arith) in
      from_first x table blend taps phase (take n (drop place xs)) (λ k b. before-end n k (omega arith) (omega arith))
      ∙ ap (sum x table blend taps phase) (l ∙ e)

  pub first_run : (let part = take left (drop place xs) in
      fold (run_turn part table (phase * taps) (phase * taps + taps) blend) (of_bits binary32 0) (length part))
      ≡ sum x table blend taps phase left
  first_run =
      let l : length (take left (drop place xs)) ≡ left = long left (omega arith) in
      from_first x table blend taps phase (take left (drop place xs))
      (λ k b. before-end left k (omega arith) (omega arith))
      ∙ ap (sum x table blend taps phase) l

  pub second_run : (before : Float) → left < turns → before ≡ sum x table blend taps phase left
      → (let part = take (turns - left - 0) xs in
      fold (run_turn part table (phase * taps + left) (phase * taps + taps + left) blend) before (length part))
      ≡ sum x table blend taps phase turns
  second_run before h e =
      let n = turns - left - 0 in
      let l : length (take n xs) ≡ n = length-take-le n xs (omega arith) in
      let m : left + length (take n xs) ≡ turns = omega arith in
      further x table blend taps phase (take n xs) left before e
      (λ k b. get_or-take n xs k nan (omega arith)
      ∙ ap (λ (p : ℕ). get_or xs p nan)
      (sym (round (place + (left + k)) (length xs) (omega arith) (omega arith) ∙ omega arith)))
      ∙ ap (sum x table blend taps phase) m
