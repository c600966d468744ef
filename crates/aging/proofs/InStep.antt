-- W8a. Two runs of anything that has a state, whose calls are the same as far as `ask` looks: if then both states give
-- the same verdict and stay `Like` each other, the runs accept the same calls and leave states that are like each
-- other. By induction over the calls. Assumes nothing.
use mathlib.Core.Path.{◌≡◌, refl, sym, ◌∙◌, ap}
use mathlib.Core.List.{List, [], ◌∷◌, map}
use Prim.Native.Nat.{ℕ, zero, suc}
use native.Mathlib.Nat.{suc-ne-zero}
use lib.ListN.{length, get_or, take, drop}
use Rattle.runs.specs.Calls.{keep, run_of, accepted_of}

module _ {S C K : Type 0} (due : S → C → ℕ) (after_by : ℕ → S → C → S) (ask : C → K) (Like : S → S → Type 0)
    (same-due : (s t : S) (c d : C) → Like s t → ask c ≡ ask d → due s c ≡ due t d)
    (kept : (v : ℕ) (s t : S) (c d : C) → Like s t → ask c ≡ ask d → Like (after_by v s c) (after_by v t d)) where
  -- the first of the same calls, and the others
  module _ (c d : C) (cs ds : List C) (e : map ask (c ∷ cs) ≡ map ask (d ∷ ds)) where
    head : ask c ≡ ask d
    head = ap (λ (l : List K). get_or l 0 (ask c)) e

    tail : map ask cs ≡ map ask ds
    tail = ap (drop 1) e

  pub in_step : (s t : S) (cs ds : List C) → Like s t → map ask cs ≡ map ask ds
      → Like (run_of due after_by s cs) (run_of due after_by t ds)
  unfolding run_of
  in_step s t [] [] l e = l
  in_step s t [] (d ∷ ds) l e = absurd (suc-ne-zero (length (map ask ds)) (sym (ap length e)))
  in_step s t (c ∷ cs) [] l e = absurd (suc-ne-zero (length (map ask cs)) (ap length e))
  in_step s t (c ∷ cs) (d ∷ ds) l e =
      let h = head c d cs ds e in
      rw (← same-due s t c d l h)
      (in_step (after_by (due s c) s c) (after_by (due s c) t d) cs ds (kept (due s c) s t c d l h) (tail c d cs ds e))

  -- So it is after every call: the first k calls are the same too.
  first : (k : ℕ) (cs : List C) → map ask (take k cs) ≡ take k (map ask cs)
  first zero [] = refl
  first zero (c ∷ cs) = refl
  first (suc k) [] = refl
  first (suc k) (c ∷ cs) = ap (λ (l : List K). ask c ∷ l) (first k cs)

  pub after-each : (s t : S) (cs ds : List C) → Like s t → map ask cs ≡ map ask ds → (k : ℕ)
      → Like (run_of due after_by s (take k cs)) (run_of due after_by t (take k ds))
  after-each s t cs ds l e k = in_step s t (take k cs) (take k ds) l (first k cs ∙ ap (take k) e ∙ sym (first k ds))

  keeps : (v : ℕ) (c d : C) (cs ds : List C) → ask c ≡ ask d → map ask cs ≡ map ask ds
      → map ask (keep v c cs) ≡ map ask (keep v d ds)
  keeps zero c d cs ds h e = rw (h, e)
  keeps (suc k) c d cs ds h e = e

  pub accepts : (s t : S) (cs ds : List C) → Like s t → map ask cs ≡ map ask ds
      → map ask (accepted_of due after_by s cs) ≡ map ask (accepted_of due after_by t ds)
  unfolding accepted_of
  accepts s t [] [] l e = refl
  accepts s t [] (d ∷ ds) l e = absurd (suc-ne-zero (length (map ask ds)) (sym (ap length e)))
  accepts s t (c ∷ cs) [] l e = absurd (suc-ne-zero (length (map ask cs)) (ap length e))
  accepts s t (c ∷ cs) (d ∷ ds) l e =
      let h = head c d cs ds e in
      rw (← same-due s t c d l h)
      (keeps (due s c) c d (accepted_of due after_by (after_by (due s c) s c) cs)
      (accepted_of due after_by (after_by (due s c) t d) ds)
      h
      (accepts (after_by (due s c) s c) (after_by (due s c) t d) cs ds (kept (due s c) s t c d l h) (tail c d cs ds e)))
