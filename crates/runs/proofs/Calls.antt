-- K8, D1c. A run of calls of anything that a refused call leaves as it was (`stays`). A refused call may stand anywhere
-- in it: what the run leaves, and the calls that it accepts, are the same without it. By induction over the calls.
-- Assumes nothing.
use mathlib.Core.Path.{◌≡◌, refl, sym, ◌∙◌, ap}
use mathlib.Core.List.{List, [], ◌∷◌, ◌++◌}
use Prim.Native.Nat.{ℕ, zero, suc}
use Rattle.runs.specs.Calls.{keep, run_of, accepted_of}

module _ {S C : Type 0} (due : S → C → ℕ) (after_by : ℕ → S → C → S)
    (stays : (k : ℕ) (s : S) (c : C) → after_by (suc k) s c ≡ s) where
  abbrev run : S → List C → S
  run = run_of due after_by

  abbrev accepted : S → List C → List C
  accepted = accepted_of due after_by

  -- One call at the head of a run, accepted or refused.
  module _ (s : S) (c : C) (cs : List C) where
    pub run-taken : due s c ≡ 0 → run s (c ∷ cs) ≡ run (after_by 0 s c) cs
    unfolding run_of
    run-taken e = ap (λ (v : ℕ). run (after_by v s c) cs) e

    pub run-refused : (k : ℕ) → due s c ≡ suc k → run s (c ∷ cs) ≡ run s cs
    unfolding run_of
    run-refused k e = ap (λ (v : ℕ). run (after_by v s c) cs) e ∙ ap (λ (t : S). run t cs) (stays k s c)

    pub accepted-taken : due s c ≡ 0 → accepted s (c ∷ cs) ≡ c ∷ accepted (after_by 0 s c) cs
    unfolding accepted_of
    accepted-taken e = ap (λ (v : ℕ). keep v c (accepted (after_by v s c) cs)) e

    pub accepted-refused : (k : ℕ) → due s c ≡ suc k → accepted s (c ∷ cs) ≡ accepted s cs
    unfolding accepted_of
    accepted-refused k e =
        ap (λ (v : ℕ). keep v c (accepted (after_by v s c) cs)) e ∙ ap (λ (t : S). accepted t cs) (stays k s c)

  pub by-calls : (P : S → List C → Type 0) → ((s : S) → P s [])
      → ((s : S) (c : C) (cs : List C) → due s c ≡ 0 → P (after_by 0 s c) cs → P s (c ∷ cs))
      → ((s : S) (c : C) (cs : List C) (k : ℕ) → due s c ≡ suc k → P s cs → P s (c ∷ cs))
      → (s : S) (cs : List C) → P s cs
  by-calls P none taken refused s [] = none s
  by-calls P none taken refused s (c ∷ cs) = go (due s c) refl (λ s. by-calls P none taken refused s cs)
    where
      go : (v : ℕ) → due s c ≡ v → ((s : S) → P s cs) → P s (c ∷ cs)
      go zero e ih = taken s c cs e (ih (after_by 0 s c))
      go (suc k) e ih = refused s c cs k e (ih s)

  -- What holds for the state before and after a run of accepted calls holds for any run.
  pub by-accepted : (P : S → S → List C → Type 0) → ((s : S) → P s s [])
      → ((s : S) (c : C) (t : S) (cs : List C) → due s c ≡ 0 → P (after_by 0 s c) t cs → P s t (c ∷ cs))
      → (s : S) (cs : List C) → P s (run s cs) (accepted s cs)
  unfolding run_of accepted_of
  by-accepted P none taken =
      by-calls (λ s cs. P s (run s cs) (accepted s cs))
      none
      (λ s c cs e ih. rw (run-taken s c cs e, accepted-taken s c cs e) (taken s c _ _ e ih))
      (λ s c cs k e ih. rw (run-refused s c cs k e, accepted-refused s c cs k e) ih)

  -- The accepted calls alone leave the same, and all of them are accepted.
  pub refused-leave-nothing : (s : S) (cs : List C) → run s (accepted s cs) ≡ run s cs
  unfolding run_of
  refused-leave-nothing = by-accepted (λ s t cs. run s cs ≡ t) (λ s. refl) (λ s c t cs e ih. rw (run-taken s c cs e) ih)

  pub accepted-again : (s : S) (cs : List C) → accepted s (accepted s cs) ≡ accepted s cs
  unfolding accepted_of
  accepted-again =
      by-accepted (λ s t cs. accepted s cs ≡ cs)
      (λ s. refl)
      (λ s c t cs e ih. rw (accepted-taken s c cs e) (ap (λ (l : List C). c ∷ l) ih))

  pub run-parts : (s : S) (xs ys : List C) → run s (xs ++ ys) ≡ run (run s xs) ys
  unfolding run_of
  run-parts s [] ys = refl
  run-parts s (x ∷ xs) ys = run-parts (after_by (due s x) s x) xs ys

  pub accepted-parts : (s : S) (xs ys : List C) → accepted s (xs ++ ys) ≡ accepted s xs ++ accepted (run s xs) ys
  unfolding run_of accepted_of
  accepted-parts s xs ys =
      by-calls (λ s xs. accepted s (xs ++ ys) ≡ accepted s xs ++ accepted (run s xs) ys)
      (λ s. refl)
      (λ s c cs e ih.
      rw (accepted-taken s c (cs ++ ys) e, accepted-taken s c cs e, run-taken s c cs e)
      (ap (λ (l : List C). c ∷ l) ih))
      (λ s c cs k e ih.
      rw (accepted-refused s c (cs ++ ys) k e, accepted-refused s c cs k e, run-refused s c cs k e) ih)
      s
      xs

  -- ---- a refused call
  refused : (s : S) (c : C) (cs : List C) → (due s c ≡ 0 → ⊥)
      → (run s (c ∷ cs) ≡ run s cs) × (accepted s (c ∷ cs) ≡ accepted s cs)
  refused s c cs h = go (due s c) refl
    where
      go : (v : ℕ) → due s c ≡ v → (run s (c ∷ cs) ≡ run s cs) × (accepted s (c ∷ cs) ≡ accepted s cs)
      go zero e = absurd (h e)
      go (suc k) e = (run-refused s c cs k e, accepted-refused s c cs k e)

  pub refused-anywhere : (s : S) (xs : List C) (c : C) (ys : List C) → (due (run s xs) c ≡ 0 → ⊥)
      → (run s (xs ++ c ∷ ys) ≡ run s (xs ++ ys)) × (accepted s (xs ++ c ∷ ys) ≡ accepted s (xs ++ ys))
  refused-anywhere s xs c ys h =
      let gone = refused (run s xs) c ys h in (
        run-parts s xs (c ∷ ys) ∙ gone.0 ∙ sym (run-parts s xs ys),
        accepted-parts s xs (c ∷ ys)
            ∙ ap (λ (l : List C). accepted s xs ++ l) gone.1
            ∙ sym (accepted-parts s xs ys),
      )
