-- If `start_of` says that a run of taps is held, each of its taps stands at the place after the one before it, going
-- round at the ring's end. The fast paths of the kernels use this. Assumes nothing.
use mathlib.Core.Path.{◌≡◌, refl, sym, ◌∙◌, ap}
use mathlib.Core.Bool.{Bool, true, false, ◌&&◌}
use mathlib.Core.List.{List}
use Prim.Native.Nat.{ℕ, ◌+◌, ◌-◌, ◌%◌, ◌<◌, ◌≤◌}
use native.Mathlib.Nat.{mod-eq_of_lt, mod-add-mod, add-mod_right}
use native.Mathlib.Omega.{arith}
use borrow.Author.Tests.{leb-true, le-leb, lt-ltb, ne_eqb}
use lib.Dec.{leb}
use lib.IntN.{ℤ, pos, negsuc, ◌+ℤ◌}
use lib.ListN.{length, get_or}
use lib.Ieee.{Float, nan}
use Rattle.ring.specs.Taps.{held, value_of, tap_at, tap_of}
use Rattle.ring.specs.Quick.{place_of, pick_start, start_of}
use Rattle.ring.proofs.RunStartWays.{place_inside}
use Rattle.ring.specs.declared.Start.{Start}

-- The run of `taps` taps from the number `first` on is held in a ring of length len.
pub record Run (len count taps : ℕ) (i : ℤ) (place : ℕ) : Type 0 where
  pub first : ℕ
  pub from : i ≡ pos first
  pub written : first + taps ≤ count
  pub not-gone : count ≤ first + len
  pub at : place ≡ place_of first len

abbrev start : ℕ → ℕ → Bool → Start
start k len b = pick_start b (record { held = true; place = place_of k len }) (record { held = false; place = 0 })

pub run_of : (len count taps : ℕ) (i : ℤ) → (start_of len count i taps).held ≡ true
    → Run len count taps i (start_of len count i taps).place
run_of len count taps (negsuc k) h = let e : ◌≡◌ {A = ℕ} 0 1 = cc in absurd (omega arith)
run_of len count taps (pos k) h = go (leb (k + taps) count) (leb count (k + len)) refl refl h
  where
    go : (a b : Bool) → leb (k + taps) count ≡ a → leb count (k + len) ≡ b → (start k len (a && b)).held ≡ true
        → Run len count taps (pos k) (start k len (a && b)).place
    go true true p q h =
        record { first = k; from = refl; written = leb-true _ _ p; not-gone = leb-true _ _ q; at = refl }
    go true false p q h = let e : ◌≡◌ {A = ℕ} 0 1 = cc in absurd (omega arith)
    go false b p q h = let e : ◌≡◌ {A = ℕ} 0 1 = cc in absurd (omega arith)

-- Tap k, counted from the first.
at-number : (xs : List Float) (count i k : ℕ) → i + k < count → count ≤ i + length xs
    → tap_at xs count (pos i +ℤ pos k) ≡ held (get_or xs ((place_of i (length xs) + k) % length xs) nan)
at-number xs count i k a b =
    rw (
      lt-ltb (i + k) count a,
      le-leb count (i + k + length xs) (omega arith),
      ne_eqb (length xs) 0 (λ z. omega arith),
      mod-add-mod i (length xs) k,
    )

-- A place and the places after it, going round once.
pub on : {p n : ℕ} → p < n → p % n ≡ p
on = mod-eq_of_lt

pub round : (p n : ℕ) → n ≤ p → p < n + n → p % n ≡ p - n
round p n h l =
    let e : p ≡ p - n + n = omega arith in
    ap (λ (k : ℕ). k % n) e ∙ add-mod_right (p - n) n ∙ mod-eq_of_lt (omega arith)

-- Let s be what `run_start` gave for the taps from index i on.
module _ (xs : List Float) (count taps : ℕ) (i : ℤ) (s : Start) (start : s ≡ start_of (length xs) count i taps)
    (all : s.held ≡ true) where
  run : Run (length xs) count taps i (start_of (length xs) count i taps).place
  run = run_of (length xs) count taps i (sym (ap (λ (s : Start). s.held) start) ∙ all)

  at : s.place ≡ place_of run.first (length xs)
  at = ap (λ (s : Start). s.place) start ∙ run.at

  pub fits : taps ≤ length xs
  fits = omega (arith, run.written, run.not-gone)

  pub inside : 0 < taps → s.place < length xs
  inside h = place_inside run.first (length xs) (omega (arith, fits)) at

  pub each : (k : ℕ) → k < taps → tap_at xs count (i +ℤ pos k) ≡ held (get_or xs ((s.place + k) % length xs) nan)
  each k h =
      ap (λ (z : ℤ). tap_at xs count (z +ℤ pos k)) run.from
      ∙ at-number xs count run.first k (omega (arith, run.written)) run.not-gone
      ∙ ap (λ (p : ℕ). held (get_or xs ((p + k) % length xs) nan)) (sym at)

  -- What tap k reads: before the ring's end, and after going round it.
  pub straight : (k : ℕ) → k < taps → s.place + k < length xs
      → tap_of xs count (i +ℤ pos k) ≡ get_or xs (s.place + k) nan
  straight k h l = ap value_of (each k h) ∙ ap (λ (p : ℕ). get_or xs p nan) (on l)

  pub wrapped : (k : ℕ) → k < taps → length xs ≤ s.place + k
      → tap_of xs count (i +ℤ pos k) ≡ get_or xs (s.place + k - length xs) nan
  wrapped k h l =
      ap value_of (each k h)
      ∙ ap (λ (p : ℕ). get_or xs p nan) (round _ (length xs) l (omega (arith, inside (omega arith), fits)))
