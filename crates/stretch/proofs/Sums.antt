-- W3g. The sums of the absent taps are over exactly the items done, and a cut adds up. By induction over the items,
-- with the laws of adding three numbers. Assumes nothing.
use mathlib.Core.Path.{◌≡◌, refl, sym, ap, ◌∙◌}
use mathlib.Core.List.{List, [], ◌∷◌, ◌++◌}
use Prim.Native.Nat.{ℕ, zero, suc}
use native.Mathlib.Omega.{arith}
use lib.ListN.{length}
use lib.Ieee.{Float}
use Rattle.absent_taps.specs.declared.Absent.{Absent}
use Rattle.absent_taps.specs.Absent.{none, plus}
use Rattle.absent_taps.proofs.AtOnce.{same}
use Rattle.stretch.specs.Stretch.{Called, Call, Ran, and_then, stretch_of}
use Rattle.stretch.specs.Whole.{done_of}
use Rattle.stretch.specs.Counts.{Absence, none_if, absent_in}
use Rattle.stretch.specs.Singles.{after_calls, absent_call, sum_of}

pub plus_assoc : (a b c : Absent) → plus (plus a b) c ≡ plus a (plus b c)
plus_assoc a b c = same (omega arith) (omega arith) (omega arith)

pub plus_none : (a : Absent) → plus a none ≡ a
plus_none a = same (omega arith) (omega arith) (omega arith)

pub none-plus : (a : Absent) → plus none a ≡ a
none-plus a = same (omega arith) (omega arith) (omega arith)

-- The first call's numbers may be taken out in front.
sum_first : (f : ℕ → Absent) (n : ℕ) → sum_of f (suc n) ≡ plus (f 0) (sum_of (λ (k : ℕ). f (suc k)) n)
unfolding sum_of
sum_first f zero = none-plus (f 0) ∙ sym (plus_none (f 0))
sum_first f (suc n) = ap (λ (t : Absent). plus t (f (suc n))) (sum_first f n) ∙ plus_assoc (f 0) _ (f (suc n))

module _ {S : Type 0} (call : Call S) (absent : Absence S) where
  abbrev sums : S → List Float → List Float → List Float → Absent
  sums = absent_in call absent

  pub over_done : (s : S) (ring xs ds : List Float)
      → sums s ring xs ds ≡ sum_of (absent_call call absent s ring xs ds) (done_of (stretch_of call s ring xs ds))
  unfolding stretch_of after_calls absent_in sum_of
  over_done s ring [] ds = refl
  over_done s ring (x ∷ xs) [] = refl
  over_done s ring (x ∷ xs) (d ∷ ds) =
      by (call s ring x d).number (over_done (call s ring x d).state (call s ring x d).ring xs ds)
    where
      c : Called S
      c = call s ring x d

      rest : Ran S
      rest = stretch_of call c.state c.ring xs ds

      by : (n : ℕ) → sums c.state c.ring xs ds
          ≡ sum_of (absent_call call absent c.state c.ring xs ds) (done_of rest)
          → none_if n (plus (absent s ring x d) (sums c.state c.ring xs ds))
          ≡ sum_of (absent_call call absent s ring (x ∷ xs) (d ∷ ds)) (done_of (and_then n c rest))
      by zero more =
          ap (plus (absent s ring x d)) more
          ∙ sym (sum_first (absent_call call absent s ring (x ∷ xs) (d ∷ ds)) (done_of rest))
      by (suc n) more = refl

  -- W3h. The sums of a stretch that is cut in two.
  pub sums-cut : (s : S) (ring xs ds us vs : List Float) → length xs ≡ length ds
      → (stretch_of call s ring xs ds).number ≡ 0
      → sums s ring (xs ++ us) (ds ++ vs)
      ≡ plus (sums s ring xs ds)
      (sums (stretch_of call s ring xs ds).state (stretch_of call s ring xs ds).ring us vs)
  unfolding stretch_of absent_in
  sums-cut s ring [] [] us vs l e = sym (none-plus _)
  sums-cut s ring [] (d ∷ ds) us vs l e = absurd (omega arith)
  sums-cut s ring (x ∷ xs) [] us vs l e = absurd (omega arith)
  sums-cut s ring (x ∷ xs) (d ∷ ds) us vs l e =
      by (call s ring x d).number
      (sums-cut (call s ring x d).state (call s ring x d).ring xs ds us vs (omega arith)) e
    where
      c : Called S
      c = call s ring x d

      rest : Ran S
      rest = stretch_of call c.state c.ring xs ds

      by : (n : ℕ)
          → (rest.number ≡ 0
          → sums c.state c.ring (xs ++ us) (ds ++ vs)
          ≡ plus (sums c.state c.ring xs ds) (sums rest.state rest.ring us vs))
          → (and_then n c rest).number ≡ 0
          → none_if n (plus (absent s ring x d) (sums c.state c.ring (xs ++ us) (ds ++ vs)))
          ≡ plus (none_if n (plus (absent s ring x d) (sums c.state c.ring xs ds)))
          (sums (and_then n c rest).state (and_then n c rest).ring us vs)
      by zero more e = ap (plus (absent s ring x d)) (more e) ∙ sym (plus_assoc (absent s ring x d) _ _)
      by (suc n) more e = absurd (omega arith)
