-- W12a, W12b, W12e, W12h, W12i. What the reading promises: exactly when each number is given, and that the samples are
-- all there if none is. By the table of tests and what they show. Assumes nothing.
use mathlib.Core.Path.{◌≡◌, refl, ap}
use mathlib.Core.Logic.{◌↔◌, ◌⊎◌, inl, inr}
use mathlib.Core.Bool.{Bool, true, false, true≢false, cond}
use mathlib.Core.List.{List}
use Prim.Native.Nat.{ℕ, zero, suc, ◌+◌, ◌<◌}
use native.Mathlib.Nat.{mul-pos, mul-mod_left}
use native.Mathlib.Omega.{arith}
use borrow.Author.Tests.{leb-true, lt-leb, not-true}
use lib.Dec.{eqb, leb}
use lib.ListN.{length, length-take, length-drop}
use Rattle.refusal_order.specs.Order.{First, number_of, line_of}
use Rattle.refusal_order.proofs.First.{first-given, given-first}
use Rattle.high_first.specs.High.{big_number}
use Rattle.extended_rate.proofs.Rates.{Rate, exactly}
use Rattle.riff_chunks.specs.Walk.{end_in, walked_from}
use Rattle.form_chunks.specs.Form.{form_sought, form_chunk, ssnd_id}
use Rattle.form_chunks.proofs.Inside.{spot-inside}
use Rattle.sample_kind.specs.declared.SampleKind.TheVariants.{Pcm16, Pcm24}
use Rattle.sample_kind.specs.Kinds.{width_of, frame_of}
use Rattle.wav.proofs.Passed.{both_hold}
use Rattle.aiff.specs.declared.Found.TheVariants as found
use Rattle.aiff.specs.declared.Sound.{Sound}
use Rattle.aiff.specs.Aiff.{form_size, walk_in, comm_of, ssnd_of, channels, frames, bits, rate, kind_of, is_aiff}
use Rattle.aiff.specs.Aiff.{within, tests, verdict, sound_in, answered, found_in}
use Rattle.aiff.specs.Accepted.{Accepted}
use Rattle.aiff.proofs.Passed.{all-passed}
use Rattle.aiff.proofs.Once.{once}

-- W12a. Exactly when each number is given: 20, 10, 13 and 22 stand on one line each, 21 on two.
module _ (b : List ℕ) where
  pub twenty : verdict b ≡ 20 ↔ First (tests b) 0
  twenty = once (tests b) 19 0 refl refl

  pub ten : verdict b ≡ 10 ↔ First (tests b) 1
  ten = once (tests b) 9 1 refl refl

  pub thirteen : verdict b ≡ 13 ↔ First (tests b) 3
  thirteen = once (tests b) 12 3 refl refl

  pub twenty-two : verdict b ≡ 22 ↔ First (tests b) 5
  twenty-two = once (tests b) 21 5 refl refl

  -- A chunk is missing or too short, or the offset is past its end; or the kind is listed, and there are more frames
  -- than bytes.
  pub twenty-one : verdict b ≡ 21 ↔ First (tests b) 2 ⊎ First (tests b) 4
  twenty-one = (λ e. let w = given-first (tests b) 20 e in at w.0 w.1.0 w.1.1, back)
    where
      at : (k : ℕ) → First (tests b) k → number_of (line_of (tests b) k) ≡ 21 → First (tests b) 2 ⊎ First (tests b) 4
      at zero w e = absurd (omega arith)
      at (suc zero) w e = absurd (omega arith)
      at (suc (suc zero)) w e = inl w
      at (suc (suc (suc zero))) w e = absurd (omega arith)
      at (suc (suc (suc (suc zero)))) w e = inr w
      at (suc (suc (suc (suc (suc zero))))) w e = absurd (omega arith)
      at (suc (suc (suc (suc (suc (suc j)))))) w e = absurd (true≢false w.fails)

      back : First (tests b) 2 ⊎ First (tests b) 4 → verdict b ≡ 21
      back (inl w) = first-given (tests b) 2 w
      back (inr w) = first-given (tests b) 4 w

-- W12h. The FORM counts as a chunk for 10.
pub form-past : (b : List ℕ) → is_aiff b ≡ true → length b < 8 + form_size b → verdict b ≡ 10
form-past b a h = rw (a, lt-leb (8 + form_size b) (length b) h)

-- An answer with samples, by its number.
pub sound-of : (k : ℕ) (f g : Sound) → answered k f ≡ found.Sound g → (k ≡ 0) × (f ≡ g)
sound-of zero f g e = (refl, cc)
sound-of (suc k) f g e = let z : ◌≡◌ {A = ℕ} 0 1 = cc in absurd (omega arith)

some_bytes : (n : ℕ) → 0 < width_of (kind_of n)
some_bytes n = by (eqb n 16)
  where
    by : (t : Bool) → 0 < width_of (cond t Pcm16 Pcm24)
    by true = omega arith
    by false = omega arith

module _ (b : List ℕ) where
  by_tests : verdict b ≡ 0 → Accepted b (sound_in b)
  by_tests z =
      let c = comm_of b in
      let p = all-passed (is_aiff b) (within b) c (ssnd_of b) (walk_in b) z in
      let w = both_hold (leb (8 + form_size b) (length b)) _ p.is-inside in
      let held = leb-true (8 + form_size b) (length b) w.0 in
      let end = end_in b (8 + form_size b) in
      let ends = spot-inside end ssnd_id (walked_from form_sought (form_chunk b) end 12) (not-true _ w.1) in
      let r = (exactly 16446 (big_number 2 c 8) (big_number 8 c 10) (rate c)).0 (p.has-rate, refl) in
      record {
        kind = refl;
        some = p.some;
        few = p.few;
        slow = r.low;
        fast = r.high;
        frame = mul-pos p.some (some_bytes (bits c));
        frames = mul-mod_left (frames c) (frame_of (kind_of (bits c)) (channels c));
        begins = refl;
        inside = omega (arith, p.holds);
        bounded = omega (arith, p.holds);
        held = held;
        whole = simp (length-take, length-drop) (omega (arith, p.holds));
      }

  -- W12b, W12c, W12i. If samples are found they are all there, in one or two channels, in whole frames, inside the
  -- `SSND` and behind its offset, at a rate in range.
  pub accepted : (f : Sound) → found_in b ≡ found.Sound f → Accepted b f
  accepted f e =
      let o = sound-of (verdict b) (sound_in b) f e in
      rw o.1 at (by_tests o.0)

  -- W12e. The rate is the whole number that the 80 bits stand for.
  pub rate-is : (f : Sound) → found_in b ≡ found.Sound f
      → Rate 16446 (big_number 2 (comm_of b) 8) (big_number 8 (comm_of b) 10) f.rate
  rate-is f e =
      let o = sound-of (verdict b) (sound_in b) f e in
      let c = comm_of b in
      let p = all-passed (is_aiff b) (within b) c (ssnd_of b) (walk_in b) o.0 in
      rw (ap (λ (g : Sound). g.rate) o.1)
      at ((exactly 16446 (big_number 2 c 8) (big_number 8 c 10) (rate c)).0 (p.has-rate, refl))
