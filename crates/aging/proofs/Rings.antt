-- W8a. Two rings that were alike and store as many samples in turn, some of which differ, differ at most at the places
-- where such a one is held. By an invariant of every store. Assumes nothing.
use mathlib.Core.Path.{◌≡◌, refl, sym, ◌∙◌, ap, subst}
use mathlib.Core.Bool.{Bool, true, false}
use mathlib.Core.List.{List, [], ◌∷◌}
use mathlib.Core.Logic.{⊎_elim}
use Prim.Native.Nat.{ℕ, suc, ◌+◌, ◌%◌, ◌<◌, ◌≤◌}
use native.Mathlib.Nat.{add-zero, add-mod_right, suc-ne-zero, suc_inj, eq-or-lt_of_le}
use native.Mathlib.Omega.{arith}
use borrow.Author.Tests.{eqb-true, eqb-false}
use lib.Dec.{eqb}
use lib.ListN.{length, get_or, set, length-set}
use lib.Seq.{get_or-set_same, get_or-set_other, ext_get_or}
use lib.Ieee.{Float, nan}
use Rattle.variable_delay.specs.Reader.{stored}
use Rattle.runs.specs.Filled.{stored_from}
use Rattle.aging.specs.Damage.{Same, Spared, NoneAfter, Aged}

-- Rings of length len that hold as many samples, of which those with a number in Good are the same.
record Beside (Good : ℕ → Type 0) (len count : ℕ) (xs ys : List Float) : Type 0 where
  one : length xs ≡ len
  other : length ys ≡ len
  places : (j : ℕ) → j < len → ((k : ℕ) → k % len ≡ j → k < count → count ≤ k + len → Good k)
      → get_or xs j nan ≡ get_or ys j nan

module _ (Good : ℕ → Type 0) (len : ℕ) where
  -- At its own place a store leaves the two samples. At another it leaves what was there, and what is held there stays:
  -- the sample that goes is a whole length older, so that it stood at the store's place.
  more : (n : ℕ) (xs ys : List Float) (s t : Float) → (Good n → s ≡ t) → Beside Good len n xs ys
      → Beside Good len (n + 1) (stored n xs s) (stored n ys t)
  more n xs ys s t same h =
      rw (h.one, h.other) record {
        one = length-set xs (n % len) s ∙ h.one;
        other = length-set ys (n % len) t ∙ h.other;
        places = λ j l good. go j l good (eqb j (n % len)) refl;
      }
    where
      go : (j : ℕ) → j < len → ((k : ℕ) → k % len ≡ j → k < n + 1 → n + 1 ≤ k + len → Good k) → (b : Bool)
          → eqb j (n % len) ≡ b
          → get_or (set xs (n % len) s) j nan ≡ get_or (set ys (n % len) t) j nan
      go j l good true b =
          let e : j ≡ n % len = eqb-true j (n % len) b in
          rw (
            e,
            get_or-set_same xs (n % len) s nan (rw (h.one, ← e) l),
            get_or-set_same ys (n % len) t nan (rw (h.other, ← e) l),
          ) (same (good n (sym e) (omega arith) (omega arith)))
      go j l good false b =
          let ne = eqb-false j (n % len) b in
          get_or-set_other xs (n % len) j s nan ne
          ∙ h.places j l
          (λ k p q g.
          good k p (omega arith)
          (⊎_elim
          (λ (e : n ≡ k + len). absurd (ne (sym p ∙ sym (add-mod_right k len) ∙ ap (λ (x : ℕ). x % len) (sym e))))
          (λ (u : n < k + len). omega arith)
          (eq-or-lt_of_le {n = n} {m = k + len} g)))
          ∙ sym (get_or-set_other ys (n % len) j t nan ne)

  all : (n : ℕ) (xs ys ss ts : List Float) → length ss ≡ length ts → ((i : ℕ) → Good (n + i) → Same ss ts i)
      → Beside Good len n xs ys
      → Beside Good len (n + length ss) (stored_from n xs ss) (stored_from n ys ts)
  unfolding stored_from
  all n xs ys [] [] e same h = rw (add-zero n) h
  all n xs ys [] (t ∷ ts) e same h = absurd (suc-ne-zero (length ts) (sym e))
  all n xs ys (s ∷ ss) [] e same h = absurd (suc-ne-zero (length ss) e)
  all n xs ys (s ∷ ss) (t ∷ ts) e same h =
      subst (λ (m : ℕ). Beside Good len m (stored_from (n + 1) (stored n xs s) ss)
      (stored_from (n + 1) (stored n ys t) ts))
      (tick n (length ss))
      (all (n + 1) (stored n xs s) (stored n ys t) ss ts (suc_inj e)
      (λ i g. same (suc i) (subst Good (tick n i) g))
      (more n xs ys s t (λ g. same 0 (subst Good (sym (add-zero n)) g)) h))
    where
      tick : (a b : ℕ) → a + 1 + b ≡ a + suc b
      tick a b = omega arith

-- Of two runs that start from one ring.
module _ (before : ℕ) (xs ss ts : List Float) (e : length ss ≡ length ts) where
  beside : Beside (λ k. (i : ℕ) → k ≡ before + i → Same ss ts i) (length xs) (before + length ss)
      (stored_from before xs ss)
      (stored_from before xs ts)
  beside =
      all (λ k. (i : ℕ) → k ≡ before + i → Same ss ts i) (length xs) before xs xs ss ts e (λ i g. g i refl)
      record { one = refl; other = refl; places = λ j l good. refl }

  pub long : length (stored_from before xs ss) ≡ length xs
  long = beside.one

  pub long-too : length (stored_from before xs ts) ≡ length xs
  long-too = beside.other

  pub places : (j : ℕ) → j < length xs → Spared before (length xs) ss ts j
      → get_or (stored_from before xs ss) j nan ≡ get_or (stored_from before xs ts) j nan
  places j l spared =
      beside.places j l
      (λ k p q g i n.
      spared i (ap (λ (x : ℕ). x % length xs) (sym n) ∙ p) (record { stored = omega arith; kept = omega arith }))

  -- W8c. All places are spared as soon as the length-th sample after the last that differs is stored.
  pub aged : (m : ℕ) → NoneAfter m ss ts → Aged (length xs) m ss → stored_from before xs ss ≡ stored_from before xs ts
  aged m none old =
      ext_get_or nan (stored_from before xs ss) (stored_from before xs ts) (long ∙ sym long-too)
      (λ j l. places j (rw (← long) l) (λ i p held. none i (let k = held.kept in omega (arith, k, old))))
