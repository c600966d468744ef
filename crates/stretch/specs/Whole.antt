-- W3. A whole stretch per call, for any reader: the tests 1 to 3 once, then the single calls in order up to the first
-- that is refused. Definitions only.
use Rattle.std.specs.Prelude.{ℕ, zero, suc, Bool, ◌&&◌, List, [], ◌∷◌, ◌++◌, eqb, length, drop, Float}
use Rattle.refusal_order.specs.Order.{Test, ◌unless◌, first_of}
use Rattle.stretch.specs.Stretch.{Call, Ran, stretch_of}

-- What a stretch needs of a reader: the tests of its settings, of the lengths that are lent to it (of which the ring's
-- is handed in) and of its state's fields, and its single call.
pub record Reader (S : Type 0) : Type 0 where
  pub settings : S → Bool
  pub lent : S → ℕ → Bool
  pub fields : S → Bool
  pub call : Call S

module _ {S : Type 0} (reader : Reader S) where
  -- W3c. 1 to 3 come before the first item, in 01's order. 2 covers the unequal lengths: the delays and the output must
  -- be as many as the inputs.
  abbrev pub tests : S → ℕ → ℕ → ℕ → ℕ → List Test
  tests s len inputs delays out =
      1 unless reader.settings s
      ∷ 2 unless (reader.lent s len && (eqb delays inputs && eqb out inputs))
      ∷ 3 unless reader.fields s
      ∷ []

  -- The number by which a stretch is refused before its first item, 0 for none.
  abbrev pub refused_first : S → ℕ → ℕ → ℕ → ℕ → ℕ
  refused_first s len inputs delays out = first_of (tests s len inputs delays out)

-- W3c. A stretch that is refused before its first item has zero done and nothing stored.
abbrev pub unless_refused : {S : Type 0} → ℕ → S → List Float → Ran S → Ran S
unless_refused zero s ring r = r
unless_refused (suc k) s ring r = record { state = s; ring = ring; number = suc k; samples = [] }

-- W3a to W3d. What a whole call leaves; `out` is the output's length. An empty stretch that is not refused by 1 to 3
-- makes no call, so it has zero done and no refusal.
unfoldable pub whole_of : {S : Type 0} → Reader S → S → List Float → List Float → List Float → ℕ → Ran S
whole_of reader s ring inputs delays out =
    unless_refused (refused_first reader s (length ring) (length inputs) (length delays) out) s ring
    (stretch_of reader.call s ring inputs delays)

-- The number of items done: those before the refused one.
abbrev pub done_of : {S : Type 0} → Ran S → ℕ
done_of r = length r.samples

-- W3b. The output afterwards: the outputs of the items done are written, that of the refused item and the later ones
-- are untouched.
abbrev pub out_after : {S : Type 0} → List Float → Ran S → List Float
out_after out r = r.samples ++ drop (done_of r) out
