-- W12. If nothing is refused every test has passed, each by its name. Assumes nothing.
use mathlib.Core.Path.{◌≡◌, refl, sym}
use mathlib.Core.Bool.{Bool, true, false, true≢false, ◌&&◌, ◌||◌}
use mathlib.Core.List.{List}
use Prim.Native.Nat.{ℕ, ◌+◌, ◌≤◌, ◌<◌}
use native.Mathlib.Omega.{arith}
use borrow.Author.Tests.{eqb-true, leb-true, ltb-true}
use lib.Dec.{eqb, leb}
use Rattle.refusal_order.specs.Order.{first_of}
use Rattle.refusal_order.proofs.First.{none}
use Rattle.riff_chunks.specs.declared.Walked.{Walked}
use Rattle.wav.proofs.Passed.{both_hold}
use Rattle.aiff.specs.Aiff.{channels, rate, offset, length_of, tests_of}

pub record Passed (aiff fits : Bool) (c s : List ℕ) (w : Walked) : Type 0 where
  pub is-aiff : aiff ≡ true
  pub is-inside : fits ≡ true
  pub has-comm : w.format.found ≡ true
  pub has-ssnd : w.samples.found ≡ true
  pub long-comm : 18 ≤ w.format.size
  pub skips : 8 + offset s ≤ w.samples.size
  pub some : 1 ≤ channels c
  pub few : channels c ≤ 2
  pub holds : 8 + offset s + length_of c ≤ w.samples.size
  pub has-rate : 0 < rate c

one-or-two : (n : ℕ) (t u : Bool) → eqb n 1 ≡ t → eqb n 2 ≡ u → t || u ≡ true → (1 ≤ n) × (n ≤ 2)
one-or-two n true u p q h = let e = eqb-true n 1 p in (omega arith, omega arith)
one-or-two n false true p q h = let e = eqb-true n 2 q in (omega arith, omega arith)
one-or-two n false false p q h = absurd (true≢false (sym h))

pub all-passed : (aiff fits : Bool) (c s : List ℕ) (w : Walked) → first_of (tests_of aiff fits c s w) ≡ 0
    → Passed aiff fits c s w
all-passed aiff fits c s w h =
    let test = (none (tests_of aiff fits c s w) refl).0 h in
    let p = both_hold (w.format.found && w.samples.found) _ (test 2) in
    let f = both_hold w.format.found w.samples.found p.0 in
    let l = both_hold (leb 18 w.format.size) _ p.1 in
    let m = both_hold (leb 8 w.samples.size) _ l.1 in
    let k = both_hold (eqb (channels c) 1 || eqb (channels c) 2) _ (test 3) in
    let n = one-or-two (channels c) (eqb (channels c) 1) (eqb (channels c) 2) refl refl k.0 in
    record {
      is-aiff = test 0;
      is-inside = test 1;
      has-comm = f.0;
      has-ssnd = f.1;
      long-comm = leb-true _ _ l.0;
      skips = leb-true _ _ m.1;
      some = n.0;
      few = n.1;
      holds = leb-true _ _ (test 4);
      has-rate = ltb-true _ _ (test 5);
    }
