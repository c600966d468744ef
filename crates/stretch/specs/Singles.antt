-- W3a, W3e. The single calls in order, one by one: what they leave after any number of them, and call k itself. The
-- laws of a stretch are said over them. Definitions only.
use Rattle.std.specs.Prelude.{ℕ, zero, suc, ◌<◌, ◌≡◌, true, List, [], ◌∷◌, length, get_or, Float}
use Rattle.std.specs.Float.{nan}
use Rattle.absent_taps.specs.declared.Absent.{Absent}
use Rattle.absent_taps.specs.Absent.{none, plus}
use Rattle.stretch.specs.Stretch.{Called, Call}
use Rattle.stretch.specs.Whole.{Reader}
use Rattle.stretch.specs.Counts.{Absence}

-- What stands between two calls.
pub record Between (S : Type 0) : Type 0 where
  pub state : S
  pub ring : List Float

module _ {S : Type 0} (call : Call S) where
  -- What k single calls leave.
  unfoldable pub after_calls : S → List Float → List Float → List Float → ℕ → Between S
  after_calls s ring xs ds zero = record { state = s; ring = ring }
  after_calls s ring [] ds (suc k) = record { state = s; ring = ring }
  after_calls s ring (x ∷ xs) [] (suc k) = record { state = s; ring = ring }
  after_calls s ring (x ∷ xs) (d ∷ ds) (suc k) = let c = call s ring x d in after_calls c.state c.ring xs ds k

  -- Call k, counted from 0, with its own input and delay.
  abbrev pub call_at : S → List Float → List Float → List Float → ℕ → Called S
  call_at s ring xs ds k =
      let b = after_calls s ring xs ds k in call b.state b.ring (get_or xs k nan) (get_or ds k nan)

  -- W3g. The absent taps of call k, and the sums over the first n calls.
  abbrev pub absent_call : Absence S → S → List Float → List Float → List Float → ℕ → Absent
  absent_call absent s ring xs ds k =
      let b = after_calls s ring xs ds k in absent b.state b.ring (get_or xs k nan) (get_or ds k nan)

unfoldable pub sum_of : (ℕ → Absent) → ℕ → Absent
sum_of f zero = none
sum_of f (suc n) = plus (sum_of f n) (f n)

-- What the laws ask of a reader. D1c: a refused call changes nothing. An accepted call keeps what the tests 1 to 3 look
-- at in range. If they hold, a call is refused by another number than 1 to 3.
pub record Orderly {S : Type 0} (reader : Reader S) : Type 0 where
  pub still : (s : S) (ring : List Float) (x d : Float) (k : ℕ) → (reader.call s ring x d).number ≡ suc k
      → ((reader.call s ring x d).state ≡ s) × ((reader.call s ring x d).ring ≡ ring)
  pub keeps : (s : S) (ring : List Float) (x d : Float) → (reader.call s ring x d).number ≡ 0
      → (length (reader.call s ring x d).ring ≡ length ring)
      × (reader.settings (reader.call s ring x d).state ≡ reader.settings s)
      × (reader.lent (reader.call s ring x d).state (length ring) ≡ reader.lent s (length ring))
      × (reader.fields (reader.call s ring x d).state ≡ true)
  pub later : (s : S) (ring : List Float) (x d : Float) (k : ℕ) → reader.settings s ≡ true
      → reader.lent s (length ring) ≡ true
      → reader.fields s ≡ true
      → k < 3
      → (reader.call s ring x d).number ≡ suc k → ⊥
