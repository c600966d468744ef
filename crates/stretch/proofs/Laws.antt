-- Laws of a stretch over any reader's single call: it is the single calls in order (W3a, W3e), it stops at the first
-- that is refused (W3b), and it may be cut in two (W3h). By induction over the items. Assumes nothing.
use mathlib.Core.Path.{◌≡◌, refl, ◌∙◌}
use mathlib.Core.List.{List, [], ◌∷◌, ◌++◌}
use Prim.Native.Nat.{ℕ, zero, suc, ◌+◌, ◌≤◌, ◌<◌, min}
use native.Mathlib.Omega.{arith}
use lib.ListN.{length, drop, get_or, get_or-append}
use lib.Seq.{get_or-append-add, get_or-drop}
use lib.Ieee.{Float, nan}
use Rattle.stretch.specs.Stretch.{Called, Call, Ran, and_then, stretch_of}
use Rattle.stretch.specs.Whole.{done_of, out_after}
use Rattle.stretch.specs.Singles.{after_calls, call_at}
use Rattle.stretch.proofs.Going.{behind}

-- A single call that is accepted, and its sample.
pub record Served {S : Type 0} (c : Called S) (y : Float) : Type 0 where
  pub taken : c.number ≡ 0
  pub sample : y ≡ c.sample

module _ {S : Type 0} (call : Call S) where
  abbrev run : S → List Float → List Float → List Float → Ran S
  run = stretch_of call

  -- W3a. Each item done is the single call at its place, which is accepted, and its output is that call's sample.
  pub as-single : (s : S) (ring xs ds : List Float) (k : ℕ) → k < done_of (run s ring xs ds)
      → Served (call_at call s ring xs ds k) (get_or (run s ring xs ds).samples k nan)
  unfolding stretch_of after_calls
  as-single s ring [] ds k h = absurd (omega arith)
  as-single s ring (x ∷ xs) [] k h = absurd (omega arith)
  as-single s ring (x ∷ xs) (d ∷ ds) k h =
      by (call s ring x d).number refl (λ j. as-single (call s ring x d).state (call s ring x d).ring xs ds j) k h
    where
      c : Called S
      c = call s ring x d

      rest : Ran S
      rest = run c.state c.ring xs ds

      by : (n : ℕ) → c.number ≡ n
          → ((j : ℕ) → j < done_of rest → Served (call_at call c.state c.ring xs ds j) (get_or rest.samples j nan))
          → (k : ℕ) → k < done_of (and_then n c rest)
          → Served (call_at call s ring (x ∷ xs) (d ∷ ds) k) (get_or (and_then n c rest).samples k nan)
      by zero e more zero h = record { taken = e; sample = refl }
      by zero e more (suc k) h = more k (omega arith)
      by (suc n) e more k h = absurd (omega arith)

  -- W3b. If a stretch is refused, there is an item behind those done, and its single call is refused by that number.
  pub record Stopped (s : S) (ring xs ds : List Float) (r : Ran S) (m : ℕ) : Type 0 where
    pub input : done_of r < length xs
    pub delay : done_of r < length ds
    pub refused : (call_at call s ring xs ds (done_of r)).number ≡ suc m

  pub stops : (s : S) (ring xs ds : List Float) (m : ℕ) → (run s ring xs ds).number ≡ suc m
      → Stopped s ring xs ds (run s ring xs ds) m
  unfolding stretch_of after_calls
  stops s ring [] ds m e = absurd (omega arith)
  stops s ring (x ∷ xs) [] m e = absurd (omega arith)
  stops s ring (x ∷ xs) (d ∷ ds) m e =
      by (call s ring x d).number refl (stops (call s ring x d).state (call s ring x d).ring xs ds m) e
    where
      c : Called S
      c = call s ring x d

      rest : Ran S
      rest = run c.state c.ring xs ds

      by : (n : ℕ) → c.number ≡ n → (rest.number ≡ suc m → Stopped c.state c.ring xs ds rest m)
          → (and_then n c rest).number ≡ suc m
          → Stopped s ring (x ∷ xs) (d ∷ ds) (and_then n c rest) m
      by zero p more e =
          let w = more e in
          record { input = omega (arith, w.input); delay = omega (arith, w.delay); refused = w.refused }
      by (suc n) p more e = record { input = omega arith; delay = omega arith; refused = p ∙ e }

  -- W3b. If it is not refused, every item is done.
  pub all_done : (s : S) (ring xs ds : List Float) → (run s ring xs ds).number ≡ 0
      → done_of (run s ring xs ds) ≡ min (length xs) (length ds)
  unfolding stretch_of
  all_done s ring [] ds e = omega arith
  all_done s ring (x ∷ xs) [] e = omega arith
  all_done s ring (x ∷ xs) (d ∷ ds) e =
      by (call s ring x d).number (all_done (call s ring x d).state (call s ring x d).ring xs ds) e
    where
      c : Called S
      c = call s ring x d

      rest : Ran S
      rest = run c.state c.ring xs ds

      by : (n : ℕ) → (rest.number ≡ 0 → done_of rest ≡ min (length xs) (length ds))
          → (and_then n c rest).number ≡ 0 → done_of (and_then n c rest) ≡ min (suc (length xs)) (suc (length ds))
      by zero more e = let w = more e in omega arith
      by (suc n) more e = absurd (omega arith)

  pub done-fits : (s : S) (ring xs ds : List Float) → done_of (run s ring xs ds) ≤ length xs
  unfolding stretch_of
  done-fits s ring [] ds = omega arith
  done-fits s ring (x ∷ xs) [] = omega arith
  done-fits s ring (x ∷ xs) (d ∷ ds) =
      by (call s ring x d).number (done-fits (call s ring x d).state (call s ring x d).ring xs ds)
    where
      by : (n : ℕ) → done_of (run (call s ring x d).state (call s ring x d).ring xs ds) ≤ length xs
          → done_of (and_then n (call s ring x d) (run (call s ring x d).state (call s ring x d).ring xs ds))
          ≤ suc (length xs)
      by zero more = omega arith
      by (suc n) more = omega arith

  -- W3e. Demand 1 item by item: state and ring are those after as many single calls as were done, since a refused call
  -- changes neither.
  pub as-left : ((s : S) (ring : List Float) (x d : Float) (k : ℕ) → (call s ring x d).number ≡ suc k
      → ((call s ring x d).state ≡ s) × ((call s ring x d).ring ≡ ring))
      → (s : S) (ring xs ds : List Float)
      → ((run s ring xs ds).state ≡ (after_calls call s ring xs ds (done_of (run s ring xs ds))).state)
      × ((run s ring xs ds).ring ≡ (after_calls call s ring xs ds (done_of (run s ring xs ds))).ring)
  unfolding stretch_of after_calls
  as-left still s ring [] ds = (refl, refl)
  as-left still s ring (x ∷ xs) [] = (refl, refl)
  as-left still s ring (x ∷ xs) (d ∷ ds) =
      by (call s ring x d).number refl (as-left still (call s ring x d).state (call s ring x d).ring xs ds)
    where
      c : Called S
      c = call s ring x d

      rest : Ran S
      rest = run c.state c.ring xs ds

      by : (n : ℕ) → c.number ≡ n
          → (rest.state ≡ (after_calls call c.state c.ring xs ds (done_of rest)).state)
          × (rest.ring ≡ (after_calls call c.state c.ring xs ds (done_of rest)).ring)
          → ((and_then n c rest).state
          ≡ (after_calls call s ring (x ∷ xs) (d ∷ ds) (done_of (and_then n c rest))).state)
          × ((and_then n c rest).ring ≡ (after_calls call s ring (x ∷ xs) (d ∷ ds) (done_of (and_then n c rest))).ring)
      by zero p more = more
      by (suc n) p more = still s ring x d n p

  -- W3h. Cut in two, where the first part is not refused, it is the first part and then the second.
  pub cut : (s : S) (ring xs ds us vs : List Float) → length xs ≡ length ds → (run s ring xs ds).number ≡ 0
      → run s ring (xs ++ us) (ds ++ vs)
      ≡ behind (run s ring xs ds).samples (run (run s ring xs ds).state (run s ring xs ds).ring us vs)
  unfolding stretch_of
  cut s ring [] [] us vs l e = refl
  cut s ring [] (d ∷ ds) us vs l e = absurd (omega arith)
  cut s ring (x ∷ xs) [] us vs l e = absurd (omega arith)
  cut s ring (x ∷ xs) (d ∷ ds) us vs l e =
      by (call s ring x d).number (cut (call s ring x d).state (call s ring x d).ring xs ds us vs (omega arith)) e
    where
      c : Called S
      c = call s ring x d

      rest : Ran S
      rest = run c.state c.ring xs ds

      both : Ran S
      both = run c.state c.ring (xs ++ us) (ds ++ vs)

      by : (n : ℕ) → (rest.number ≡ 0 → both ≡ behind rest.samples (run rest.state rest.ring us vs))
          → (and_then n c rest).number ≡ 0
          → and_then n c both
          ≡ behind (and_then n c rest).samples
          (run (and_then n c rest).state (and_then n c rest).ring us vs)
      by zero more e = rw (more e)
      by (suc n) more e = absurd (omega arith)

-- W3b. The output: an item done has its sample there, and every later element is as it was.
pub written : {S : Type 0} (r : Ran S) (out : List Float) (k : ℕ) → k < done_of r
    → get_or (out_after out r) k nan ≡ get_or r.samples k nan
written r out k h = get_or-append r.samples (drop (done_of r) out) nan k h

pub untouched : {S : Type 0} (r : Ran S) (out : List Float) (k : ℕ)
    → get_or (out_after out r) (done_of r + k) nan ≡ get_or out (done_of r + k) nan
untouched r out k = get_or-append-add r.samples (drop (done_of r) out) k nan ∙ get_or-drop (done_of r) out k nan
