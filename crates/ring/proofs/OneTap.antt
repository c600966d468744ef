-- One tap is a run of one: it stands at the place that `start_of` gives, or is not held and reads zero. Assumes
-- nothing.
use mathlib.Core.Path.{◌≡◌, refl, sym, ◌∙◌, ap}
use mathlib.Core.Bool.{Bool, true, false}
use mathlib.Core.List.{List}
use Prim.Native.Nat.{ℕ, ◌+◌, ◌<◌, ◌≤◌}
use native.Mathlib.Omega.{arith}
use borrow.Author.Tests.{ltb-true, le-leb, lt-ltb, ne_eqb}
use lib.Dec.{leb, ltb}
use lib.IntN.{ℤ, pos, negsuc}
use lib.ListN.{length, get_or}
use lib.Ieee.{Float, nan, fin}
use Rattle.ring.specs.Taps.{tap_of}
use Rattle.ring.specs.Quick.{place_of, start_of}
use Rattle.ring.specs.declared.Start.{Start}
use Rattle.ring.proofs.RunStartWays.{place_inside}
use Rattle.ring.proofs.HeldRuns.{Run, run_of}

module _ (xs : List Float) (count : ℕ) where
  kept : {i : ℤ} {p : ℕ} (k : ℕ) → i ≡ pos k → k + 1 ≤ count → count ≤ k + length xs → p ≡ place_of k (length xs)
      → get_or xs p nan ≡ tap_of xs count i
  kept k e a b q =
      rw (q, e, lt-ltb k count (omega arith), le-leb count (k + length xs) b, ne_eqb (length xs) 0 (λ z. omega arith))

  absent : (i : ℤ) → (start_of (length xs) count i 1).held ≡ false → fin false 0 (pos 0) ≡ tap_of xs count i
  absent (negsuc k) h = refl
  absent (pos k) h = go (ltb k count) (leb count (k + length xs)) refl refl
    where
      go : (a b : Bool) → ltb k count ≡ a → leb count (k + length xs) ≡ b
          → fin false 0 (pos 0) ≡ tap_of xs count (pos k)
      go false b p q = rw p
      go true false p q = rw (p, q)
      go true true p q =
          let l : leb (k + 1) count ≡ true = le-leb (k + 1) count (omega (arith, ltb-true k count p)) in
          let f : true ≡ false = rw (l, q) at h in
          let z : ◌≡◌ {A = ℕ} 0 1 = cc in
          absurd (omega arith)

-- Let s be what `tap_place` gave for the tap at index i.
pub record One (xs : List Float) (count : ℕ) (i : ℤ) (s : Start) : Type 0 where
  pub start : s ≡ start_of (length xs) count i 1

module _ {xs : List Float} {count : ℕ} {i : ℤ} {s : Start} (o : One xs count i s) where
  pub one-absent : s.held ≡ false → fin false 0 (pos 0) ≡ tap_of xs count i
  one-absent none = absent xs count i (sym (ap (λ (s : Start). s.held) o.start) ∙ none)

  module _ (all : s.held ≡ true) where
    one : Run (length xs) count 1 i (start_of (length xs) count i 1).place
    one = run_of (length xs) count 1 i (sym (ap (λ (s : Start). s.held) o.start) ∙ all)

    at_one : s.place ≡ place_of one.first (length xs)
    at_one = ap (λ (s : Start). s.place) o.start ∙ one.at

    pub one_inside : s.place < length xs
    one_inside = place_inside one.first (length xs) (omega (arith, one.written, one.not-gone)) at_one

    pub one_kept : get_or xs s.place nan ≡ tap_of xs count i
    one_kept = kept xs count one.first one.from one.written one.not-gone at_one
