-- A recording in any layout, read step by step from any opening that is long enough, gives the answer of the whole file
-- at once. By the laws of long_turns and aiff_turns. Assumes nothing.
use mathlib.Core.Path.{◌≡◌, refl, sym, ap, ◌∙◌}
use mathlib.Core.Bool.{Bool, true, false, cond}
use mathlib.Core.List.{List}
use Prim.Native.Nat.{ℕ, zero, suc, ◌≤◌, min}
use native.Mathlib.Omega.{arith}
use borrow.Author.Tests.{leb-true, leb-false}
use lib.Dec.{leb}
use lib.ListN.{length, take, drop, length-take}
use lib.Seq.{take-take, take_all}
use Rattle.riff_chunks.specs.Walk.{begun}
use Rattle.wav_turns.specs.Turns.{finished_of}
use Rattle.wav_opening.specs.Opening.{opening_needs, begun_of}
use Rattle.long_wav.specs.Reading.{header_wrapped}
use Rattle.long_turns.specs.Turns as long
use Rattle.long_turns.proofs.ByTurns as long-laws
use Rattle.aiff.specs.Aiff.{found_in}
use Rattle.aiff_turns.specs.Turns as aiff
use Rattle.aiff_turns.proofs.ByTurns as aiff-laws
use Rattle.file_layout.specs.declared.Layout.{Layout}
use Rattle.file_layout.specs.declared.Layout.TheVariants.{Riff, Rf64, Bw64, Aiff}
use Rattle.file_layout.specs.Layouts.{is_aiff}
use Rattle.file_turns.specs.Turns.{started_as, as_wave}
use Rattle.file_laws.specs.Whole.{by_turns, found_by_turns, found_at_once}

-- Two ways to take the first 40 bytes of a body are equal.
first_of : (n : ℕ) (l : List ℕ) → take (min n 40) l ≡ take 40 (take n l)
first_of n l = by (leb 40 n) refl
  where
    by : (t : Bool) → leb 40 n ≡ t → take (min n 40) l ≡ take 40 (take n l)
    by true e =
        let more = leb-true 40 n e in
        let is : min n 40 ≡ 40 = omega arith in
        ap (λ (m : ℕ). take m l) is ∙ sym (take-take 40 n l more)
    by false e =
        let less = leb-false 40 n e in
        let is : min n 40 ≡ n = omega arith in
        ap (λ (m : ℕ). take m l) is ∙ sym (take_all 40 (take n l) (simp length-take (omega arith)))

module _ (o b : List ℕ) where
  as_long : (layout : Layout) → is_aiff layout ≡ false → (k end : ℕ)
      → by_turns k layout o end b ≡ long.by_turns k o end b
  as_long layout low zero end =
      let w = (long.turns_of o b end end (begun end)).seen in
      simp low (ap (finished_of w) (first_of w.format.size (drop w.format.body b)))
  as_long layout low (suc k) end = refl

  as-aiff : (k end : ℕ) → by_turns k Aiff o end b ≡ as_wave (aiff.by_turns k end b)
  as-aiff zero end = refl
  as-aiff (suc k) end = refl

  module _ (shorter : length o ≤ length b) (same : take (length o) o ≡ take (length o) b) where
    wave : (layout : Layout) → is_aiff layout ≡ false → opening_needs o (length b) ≡ 0
        → found_by_turns layout o b (length b) ≡ header_wrapped b (length b)
    wave layout low enough =
        ap (λ (t : Bool).
        let start = cond t (started_as o (length b)) (begun_of o (length b)) in
        by_turns start.refusal layout o start.end b) low
        ∙ as_long layout low (begun_of o (length b)).refusal (begun_of o (length b)).end
        ∙ long-laws.by-turns o b (length b) refl shorter same enough

  lent : take 12 o ≡ take 12 b → found_by_turns Aiff o b (length b) ≡ as_wave (found_in b)
  lent first =
      ap (λ (h : List ℕ).
      by_turns (aiff.started_of h (length b)).refusal Aiff o (aiff.started_of h (length b)).end b) first
      ∙ as-aiff (aiff.started_of (take 12 b) (length b)).refusal (aiff.started_of (take 12 b) (length b)).end
      ∙ ap as_wave (aiff-laws.by-turns b)

-- The opening is a prefix of the file, and as long as its letters require.
pub record Enough (o b : List ℕ) : Type 0 where
  pub shorter : length o ≤ length b
  pub same : take (length o) o ≡ take (length o) b
  pub first : take 12 o ≡ take 12 b
  pub needs : opening_needs o (length b) ≡ 0

pub at_once : (layout : Layout) (o b : List ℕ) → Enough o b
    → found_by_turns layout o b (length b) ≡ found_at_once layout b
at_once Riff o b e = wave o b e.shorter e.same Riff refl e.needs
at_once Rf64 o b e = wave o b e.shorter e.same Rf64 refl e.needs
at_once Bw64 o b e = wave o b e.shorter e.same Bw64 refl e.needs
at_once Aiff o b e = lent o b e.first
