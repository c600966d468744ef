-- W11e, W11h. What an oversampled reader refuses: 1 to 6 and 8 in 01's order. The inner delay is factor × outer, so
-- that the outer limit is 2^34, for the delay and for the accepted number. Definitions only.
use Rattle.std.specs.Prelude.{ℕ, ◌*◌, ◌^◌, Bool, false, ◌&&◌, [], ◌∷◌, leb, ltb, pos, Float}
use Rattle.std.specs.Float.{fin}
use Rattle.std.specs.Float.Ieee.{le}
use Rattle.std.specs.Float.Ieee.Scale.{finite}
use Rattle.constants.specs.Numbers.{zero-f}
use Rattle.refusal_order.specs.Order.{◌unless◌, first_of}
use Rattle.filter_settings.specs.Ranges.{factor_ok}
use Rattle.oversampled_refusals.specs.declared.Outer.{Outer}

abbrev pub outer_limit : ℕ
outer_limit = 2 ^ 34

abbrev pub outer_limit-f : Float
outer_limit-f = fin false 1 (pos 34)

-- 2^34 outer samples may be accepted, and the inner accepted number is at most factor × the outer one.
abbrev pub counts_ok : ℕ → ℕ → ℕ → Bool
counts_ok factor accepted inner = leb accepted outer_limit && leb inner (factor * accepted)

-- N3. The fields of a state that are no settings are in range; the previous delay lies where a delay may.
abbrev pub state_ok : ℕ → Outer → Bool
state_ok factor s =
    counts_ok factor s.accepted s.inner && (le zero-f s.previous && le s.previous outer_limit-f)

-- N1 to N6, N8. The number of the refusal, 0 for none. The factor is a setting; `own` says that the others are in
-- range, `lent` that every lent slice has its length.
abbrev pub verdict : Bool → Bool → ℕ → Outer → Float → Float → ℕ
verdict own lent factor s x y =
    first_of
    (1 unless (factor_ok factor && own)
    ∷ 2 unless lent
    ∷ 3 unless state_ok factor s
    ∷ 4 unless finite x
    ∷ 5 unless (finite y && le zero-f y)
    ∷ 6 unless le y outer_limit-f
    ∷ 8 unless ltb s.accepted outer_limit
    ∷ [])

-- The same for a reset.
abbrev pub reset_verdict : Bool → Bool → ℕ → Outer → ℕ
reset_verdict own lent factor s =
    first_of (1 unless (factor_ok factor && own) ∷ 2 unless lent ∷ 3 unless state_ok factor s ∷ [])
