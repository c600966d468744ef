-- W3a. A stretch step by step: the samples so far stand in the output in front of the place k, behind it the output is
-- as it was lent, and together with what is still to come they are the whole stretch. Assumes nothing.
use mathlib.Core.Path.{◌≡◌, refl, sym, ap, ◌∙◌}
use mathlib.Core.Bool.{Bool, true, false}
use mathlib.Core.List.{List, [], ◌∷◌, ◌++◌, append_assoc, append-nil}
use Prim.Native.Nat.{ℕ, zero, suc, ◌+◌, ◌≤◌, ◌<◌, min}
use native.Mathlib.Numerals.{add-one}
use native.Mathlib.Omega.{arith}
use borrow.Author.Tests.{leb-true, leb-false}
use lib.Dec.{leb}
use lib.ListN.{length, take, drop, get_or, set, length-set, take-append-drop, drop_of_length-le}
use lib.Seq.{drop-cons, drop-drop, drop-set-lt, length-take-le, take-suc-set}
use lib.Ieee.{Float}
use Rattle.stretch.specs.Stretch.{Called, Call, Ran, nothing, and_then, stretch_of}

module _ {S : Type 0} where
  -- What a stretch leaves, with samples in front.
  abbrev pub behind : List Float → Ran S → Ran S
  behind ys o = record { state = o.state; ring = o.ring; number = o.number; samples = ys ++ o.samples }

  module _ (call : Call S) (s₀ : S) (ring₀ xs ds lent : List Float) where
    -- The state up to a place: s, ring and ys are what the loop has, the others what it began with.
    pub record Half (s : S) (ring ys : List Float) (k : ℕ) : Type 0 where
      pub long : length ys ≡ length lent
      pub rest : drop k ys ≡ drop k lent
      pub whole : stretch_of call s₀ ring₀ xs ds ≡ behind (take k ys) (stretch_of call s ring (drop k xs) (drop k ds))

    pub begun : Half s₀ ring₀ lent 0
    begun = record { long = refl; rest = refl; whole = refl }

    module _ {s : S} {ring ys : List Float} {k : ℕ} (h : Half s ring ys k) (z : Float) (l : k < length xs)
        (m : k < length ds) where
      -- The item at the place.
      abbrev pub called : Called S
      called = call s ring (get_or xs k z) (get_or ds k z)

      one-call : stretch_of call s ring (drop k xs) (drop k ds)
          ≡ and_then called.number called
          (stretch_of call called.state called.ring (drop (suc k) xs) (drop (suc k) ds))
      unfolding stretch_of
      one-call = rw (drop-cons xs k z l, drop-cons ds k z m)

      -- An item that is not refused.
      pub turn : {n : ℕ} {t : S} {r : List Float} {y : Float} → k < length lent → n ≡ called.number → n ≡ 0
          → t ≡ called.state
          → r ≡ called.ring
          → y ≡ called.sample → Half t r (set ys k y) (k + 1)
      turn {n} {t} {r} {y} room a e p q v =
          let here : k < length ys = omega (arith, h.long) in
          record {
            long = simp length-set h.long;
            rest = rw add-one (drop-set-lt (suc k) ys k y (omega arith) ∙ drop-rest);
            whole =
                h.whole ∙ ap (behind (take k ys)) one-call
                ∙ rw (sym a ∙ e, add-one k, take-suc-set ys k y here, p, q, v) (more (take k ys) called.sample _);
          }
        where
          drop-rest : drop (suc k) ys ≡ drop (suc k) lent
          drop-rest = rw add-one at (sym (drop-drop 1 k ys) ∙ ap (drop 1) h.rest ∙ drop-drop 1 k lent)

          more : (us : List Float) (u : Float) (o : Ran S)
              → behind us (record { state = o.state; ring = o.ring; number = o.number; samples = u ∷ o.samples })
              ≡ behind (us ++ (u ∷ [])) o
          more us u o = rw (append_assoc us (u ∷ []) o.samples)

      -- An item that is refused ends the stretch.
      pub stopped : (n : ℕ) {t : S} {r : List Float} → n ≡ called.number → (n ≡ 0 → ⊥) → t ≡ called.state
          → r ≡ called.ring
          → stretch_of call s₀ ring₀ xs ds ≡ record { state = t; ring = r; number = n; samples = take k ys }
      stopped zero a e p q = absurd (e refl)
      stopped (suc n) a e p q = h.whole ∙ ap (behind (take k ys)) one-call ∙ rw (sym a, p, q, append-nil (take k ys))

    module _ {s : S} {ring ys : List Float} {k : ℕ} (h : Half s ring ys k) where
      abbrev all_done : Ran S
      all_done = record { state = s; ring = ring; number = 0; samples = take k ys }

      no-inputs : length xs ≤ k → stretch_of call s₀ ring₀ xs ds ≡ all_done
      unfolding stretch_of
      no-inputs e = h.whole ∙ rw (drop_of_length-le xs e, append-nil (take k ys))

      no-delays : length ds ≤ k → stretch_of call s₀ ring₀ xs ds ≡ all_done
      unfolding stretch_of
      no-delays e = h.whole ∙ ap (behind (take k ys)) (none (drop k xs)) ∙ rw (append-nil (take k ys))
        where
          none : (us : List Float) → stretch_of call s ring us (drop k ds) ≡ nothing s ring
          none [] = refl
          none (u ∷ us) = rw (drop_of_length-le ds e)

      -- The end of the shorter list.
      pub ended : min (length xs) (length ds) ≤ k
          → stretch_of call s₀ ring₀ xs ds ≡ record { state = s; ring = ring; number = 0; samples = take k ys }
      ended e = by (leb (length xs) k) refl
        where
          by : (t : Bool) → leb (length xs) k ≡ t → stretch_of call s₀ ring₀ xs ds ≡ all_done
          by true p = no-inputs (leb-true (length xs) k p)
          by false p = no-delays (omega (arith, leb-false (length xs) k p))

      pub done : k ≤ length lent → length (take k ys) ≡ k
      done l = length-take-le k ys (omega (arith, h.long))

      -- What the loop leaves of the output: the samples, then what was lent.
      pub in_place : k ≤ length lent → ys ≡ take k ys ++ drop (length (take k ys)) lent
      in_place l =
          sym (take-append-drop k ys)
          ∙ ap (λ (t : List Float). take k ys ++ t) (h.rest ∙ ap (λ (n : ℕ). drop n lent) (sym (done l)))
