-- N1 to N9. The refusal numbers of 01 and the order in which they are tested. Definitions only.
use Rattle.std.specs.Prelude.{ℕ, Bool, List, [], ◌∷◌}
use Rattle.refusal_order.specs.Order.{Test, ◌unless◌, first_of}

-- 01's table. A test is true if what it names holds: 1 settings and arguments in range, 2 lent lengths as the settings
-- need, 3 state fields in range, 4 a finite input, 5 a finite delay not below zero, 6 a delay of at most 2^36, 7 a
-- playback rate that is not a NaN, 8 fewer than 2^36 samples accepted already.
abbrev pub eight : Bool → Bool → Bool → Bool → Bool → Bool → Bool → Bool → List Test
eight t1 t2 t3 t4 t5 t6 t7 t8 =
    1 unless t1 ∷ 2 unless t2 ∷ 3 unless t3 ∷ 4 unless t4 ∷ 5 unless t5 ∷ 6 unless t6 ∷ 7 unless t7 ∷ 8 unless t8 ∷ []

-- N9. If several tests fail the lowest number is given; 0 stands for none.
abbrev pub lowest_of : Bool → Bool → Bool → Bool → Bool → Bool → Bool → Bool → ℕ
lowest_of t1 t2 t3 t4 t5 t6 t7 t8 = first_of (eight t1 t2 t3 t4 t5 t6 t7 t8)
