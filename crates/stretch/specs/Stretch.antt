-- W3a, W3b. A stretch of calls: the single calls in order, up to the first that is refused. It is defined over what one
-- call leaves. Definitions only.
use Rattle.std.specs.Prelude.{ℕ, zero, suc, List, [], ◌∷◌, Float}

-- What a call leaves: the state and the ring, the refusal number, 0 for none, and the sample.
pub record Called (S : Type 0) : Type 0 where
  pub state : S
  pub ring : List Float
  pub number : ℕ
  pub sample : Float

-- A single call of a reader, on a state, a ring, an input and a delay.
abbrev pub Call : Type 0 → Type 0
Call S = S → List Float → Float → Float → Called S

-- What a stretch leaves: the state and the ring, the number of the refusal that ended it, and the samples of the calls
-- before.
pub record Ran (S : Type 0) : Type 0 where
  pub state : S
  pub ring : List Float
  pub number : ℕ
  pub samples : List Float

abbrev pub nothing : {S : Type 0} → S → List Float → Ran S
nothing s ring = record { state = s; ring = ring; number = 0; samples = [] }

-- A call, and what the calls after it leave. A refused call is the last.
abbrev pub and_then : {S : Type 0} → ℕ → Called S → Ran S → Ran S
and_then zero c o = record { state = o.state; ring = o.ring; number = o.number; samples = c.sample ∷ o.samples }
and_then (suc k) c o = record { state = c.state; ring = c.ring; number = suc k; samples = [] }

-- The calls, each with its input and its delay; there are as many calls as there are of both.
unfoldable pub stretch_of : {S : Type 0} → Call S → S → List Float → List Float → List Float → Ran S
stretch_of call s ring [] ds = nothing s ring
stretch_of call s ring (x ∷ xs) [] = nothing s ring
stretch_of call s ring (x ∷ xs) (d ∷ ds) =
    let c = call s ring x d in and_then c.number c (stretch_of call c.state c.ring xs ds)
