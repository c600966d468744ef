-- W3a. A stretch step by step in place: the samples are written where the inputs stood. It is the stretch of Going.antt
-- whose lent output is the inputs, so what a call finds at the place is what was lent. Assumes nothing.
use mathlib.Core.Path.{◌≡◌, sym, ap, ◌∙◌}
use mathlib.Core.List.{List}
use Prim.Native.Nat.{ℕ, ◌+◌, ◌≤◌, ◌<◌, min}
use native.Mathlib.Omega.{arith}
use lib.ListN.{length, take, drop, get_or, set}
use mathlib.Core.List.{◌++◌}
use lib.Seq.{drop-cons}
use lib.Ieee.{Float}
use Rattle.stretch.specs.Stretch.{Called, Call, stretch_of}
use Rattle.stretch.proofs.Going as going

module _ {S : Type 0} (call : Call S) (s₀ : S) (ring₀ xs ds : List Float) where
  abbrev pub Half : S → List Float → List Float → ℕ → Type 0
  Half s ring ys k = going.Half call s₀ ring₀ xs ds xs s ring ys k

  pub begun : Half s₀ ring₀ xs 0
  begun = going.begun call s₀ ring₀ xs ds xs

  module _ {s : S} {ring ys : List Float} {k : ℕ} (h : Half s ring ys k) (z : Float) (l : k < length xs)
      (m : k < length ds) where
    abbrev pub called : Called S
    called = call s ring (get_or ys k z) (get_or ds k z)

    as_lent : get_or ys k z ≡ get_or xs k z
    as_lent =
        ap (λ (t : List Float). get_or t 0 z)
        (sym (drop-cons ys k z (omega (arith, h.long))) ∙ h.rest ∙ drop-cons xs k z l)

    same-call : called ≡ call s ring (get_or xs k z) (get_or ds k z)
    same-call = ap (λ (x : Float). call s ring x (get_or ds k z)) as_lent

    pub turn : {n : ℕ} {t : S} {r : List Float} {y : Float} → n ≡ called.number → n ≡ 0 → t ≡ called.state
        → r ≡ called.ring
        → y ≡ called.sample → Half t r (set ys k y) (k + 1)
    turn a e p q v =
        going.turn call s₀ ring₀ xs ds xs h z l m l (a ∙ ap (λ c. c.number) same-call) e
        (p ∙ ap (λ c. c.state) same-call) (q ∙ ap (λ c. c.ring) same-call) (v ∙ ap (λ c. c.sample) same-call)

    pub stopped : (n : ℕ) {t : S} {r : List Float} → n ≡ called.number → (n ≡ 0 → ⊥) → t ≡ called.state
        → r ≡ called.ring
        → stretch_of call s₀ ring₀ xs ds ≡ record { state = t; ring = r; number = n; samples = take k ys }
    stopped n a e p q =
        going.stopped call s₀ ring₀ xs ds xs h z l m n (a ∙ ap (λ c. c.number) same-call) e
        (p ∙ ap (λ c. c.state) same-call) (q ∙ ap (λ c. c.ring) same-call)

  module _ {s : S} {ring ys : List Float} {k : ℕ} (h : Half s ring ys k) where
    pub ended : min (length xs) (length ds) ≤ k
        → stretch_of call s₀ ring₀ xs ds ≡ record { state = s; ring = ring; number = 0; samples = take k ys }
    ended = going.ended call s₀ ring₀ xs ds xs h

    pub done : k ≤ length xs → length (take k ys) ≡ k
    done = going.done call s₀ ring₀ xs ds xs h

    pub in_place : k ≤ length xs → ys ≡ take k ys ++ drop (length (take k ys)) xs
    in_place = going.in_place call s₀ ring₀ xs ds xs h
