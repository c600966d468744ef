-- W1. If nothing is refused every test has passed, each by its name, and so has every part of the test for 13. Assumes
-- nothing.
use mathlib.Core.Path.{◌≡◌, refl, sym}
use mathlib.Core.Bool.{Bool, true, false, true≢false, not, ◌&&◌, ◌||◌}
use mathlib.Core.List.{List}
use Prim.Native.Nat.{ℕ, ◌+◌, ◌*◌, ◌/◌, ◌%◌, ◌≤◌, ◌<◌}
use native.Mathlib.Omega.{arith}
use borrow.Author.Tests.{eqb-true, leb-true, ltb-true, not-true}
use lib.Dec.{eqb, leb, ltb}
use lib.ListN.{length}
use Rattle.refusal_order.specs.Order.{first_of}
use Rattle.refusal_order.proofs.First.{none}
use Rattle.riff_chunks.specs.declared.Walked.{Walked}
use Rattle.wav_format.specs.Format.{channels, block, bits, listed, format_ok}
use Rattle.wav.specs.Wave.{riff_size, walk_in, fmt_of, is_wave, tag_in, tests_of, tests, verdict}

pub both_hold : (a b : Bool) → a && b ≡ true → (a ≡ true) × (b ≡ true)
both_hold true b h = (refl, h)
both_hold false b h = absurd (true≢false (sym h))

-- The parts of the test for 13, one by one.
pub record Formatted (t : ℕ) (f : List ℕ) (size samples : ℕ) : Type 0 where
  pub long : 16 ≤ size
  pub is-listed : listed t (bits f) ≡ true
  pub some : 1 ≤ channels f
  pub few : channels f ≤ 2
  pub block-is : block f ≡ channels f * (bits f / 8)
  pub frames : samples % block f ≡ 0
  pub frame : 0 < block f

one-or-two : (n : ℕ) (t u : Bool) → eqb n 1 ≡ t → eqb n 2 ≡ u → t || u ≡ true → (1 ≤ n) × (n ≤ 2)
one-or-two n true u p q h = let e = eqb-true n 1 p in (omega arith, omega arith)
one-or-two n false true p q h = let e = eqb-true n 2 q in (omega arith, omega arith)
one-or-two n false false p q h = absurd (true≢false (sym h))

pub formatted : (t : ℕ) (f : List ℕ) (size samples : ℕ) → format_ok t f size samples ≡ true → Formatted t f size samples
unfolding format_ok
formatted t f size samples h =
    let p = both_hold (leb 16 size) _ h in
    let q = both_hold (listed t (bits f)) _ p.1 in
    let r = both_hold (eqb (channels f) 1 || eqb (channels f) 2) _ q.1 in
    let u = both_hold (eqb (block f) (channels f * (bits f / 8))) _ r.1 in
    let v = both_hold (ltb 0 (block f)) _ u.1 in
    let n = one-or-two (channels f) (eqb (channels f) 1) (eqb (channels f) 2) refl refl r.0 in
    record {
      long = leb-true 16 size p.0;
      is-listed = q.0;
      some = n.0;
      few = n.1;
      block-is = eqb-true _ _ u.0;
      frames = eqb-true _ _ v.1;
      frame = ltb-true 0 (block f) v.0;
    }

-- All tests, in their order.
pub record Passed (tag_of : List ℕ → ℕ → ℕ) (b : List ℕ) : Type 0 where
  pub is-wave : is_wave b ≡ true
  pub held : 8 + riff_size b ≤ length b
  pub fits : (walk_in b).overruns ≡ false
  pub has-format : (walk_in b).format.found ≡ true
  pub has-samples : (walk_in b).samples.found ≡ true
  pub format-ok : format_ok (tag_in tag_of b) (fmt_of b) (walk_in b).format.size (walk_in b).samples.size ≡ true

pub all-passed : (tag_of : List ℕ → ℕ → ℕ) (b : List ℕ) → verdict tag_of b ≡ 0 → Passed tag_of b
all-passed tag_of b h =
    let test = (none (tests tag_of b) refl).0 h in
    let w = both_hold (leb (8 + riff_size b) (length b)) (not (walk_in b).overruns) (test 1) in
    record {
      is-wave = test 0;
      held = leb-true _ _ w.0;
      fits = not-true _ w.1;
      has-format = test 2;
      has-samples = test 3;
      format-ok = test 4;
    }

pub few-channels : (wave inside : Bool) (t : ℕ) (f : List ℕ) (w : Walked) → first_of (tests_of wave inside t f w) ≡ 0
    → channels f ≤ 2
few-channels wave inside t f w h = (formatted t f _ _ ((none (tests_of wave inside t f w) refl).0 h 4)).few
