-- W4a, W4d, W4e, W4h, W4j. A room at the ends of its ranges, about given numbers, so that an end that is moved in code
-- and definition together is noticed. By computing. Assumes nothing.
use mathlib.Core.Path.{◌≡◌, refl}
use mathlib.Core.List.{List, [], ◌∷◌, map}
use Prim.Native.Nat.{ℕ}
use lib.Ieee.{Float, binary64, of_bits, le, eq}
use Rattle.bessel.specs.declared.Mode.TheVariants.{Ported, Full}
use Rattle.room_marks.specs.declared.Desk.TheVariants.{One, Two}
use Rattle.room_marks.specs.Marks.{built_by, shared_by, left_by}
use Rattle.room_marks.specs.Slots.{some, first_slot, room_ok}
use Rattle.room_grants.specs.declared.Place.TheVariants.{Shared, Anew, Refused}
use Rattle.room_grants.specs.Grants.{open_verdict, ask_verdict, asked_place, give_up_verdict}

unfoldable pub f64 : ℕ → Float
unfolding of_bits
f64 pattern = of_bits binary64 pattern

abbrev pub one : Float
one = f64 0x3ff0_0000_0000_0000

abbrev pub two : Float
two = f64 0x4000_0000_0000_0000

-- The number next below 1, 1, 2, the number next above 2, and a NaN.
abbrev pub ends : List Float
ends = f64 0x3fef_ffff_ffff_ffff ∷ one ∷ two ∷ f64 0x4000_0000_0000_0001 ∷ f64 0x7ff8_0000_0000_0000 ∷ []

-- A rate that is asked for or given up is from 1 to 2 (1), and so is that of a held slot (3). A free slot's rate says
-- nothing.
pub asked-rates : map (λ r. ask_verdict r Ported (one ∷ []) (0 ∷ []) 1081648) ends ≡ 1 ∷ 0 ∷ 0 ∷ 1 ∷ 1 ∷ []
unfolding ask_verdict some room_ok le eq f64 of_bits
asked-rates = refl

pub given-up-rates : map (λ r. give_up_verdict One r Ported (r ∷ []) (1 ∷ []) 1081648) ends ≡ 1 ∷ 0 ∷ 0 ∷ 1 ∷ 1 ∷ []
unfolding give_up_verdict some room_ok le eq f64 of_bits
given-up-rates = refl

pub held-rates : map (λ r. ask_verdict one Ported (r ∷ []) (1 ∷ []) 1081648) ends ≡ 3 ∷ 0 ∷ 16 ∷ 3 ∷ 3 ∷ []
unfolding ask_verdict some room_ok le eq f64 of_bits
held-rates = refl

pub free-rates : map (λ r. ask_verdict one Ported (r ∷ []) (0 ∷ []) 1081648) ends ≡ 0 ∷ 0 ∷ 0 ∷ 0 ∷ 0 ∷ []
unfolding ask_verdict some room_ok le eq f64 of_bits
free-rates = refl

-- W4j, W4h. A mark of 4 or above 7 is 3; any other but 0 is held, and then another set is 16.
pub marks : map (λ (m : ℕ). ask_verdict one Ported (two ∷ []) (m ∷ []) 1081648)
    (0 ∷ 1 ∷ 2 ∷ 3 ∷ 4 ∷ 5 ∷ 6 ∷ 7 ∷ 8 ∷ 255 ∷ [])
    ≡ 0 ∷ 16 ∷ 16 ∷ 16 ∷ 3 ∷ 16 ∷ 16 ∷ 16 ∷ 3 ∷ 3 ∷ []
unfolding ask_verdict some room_ok le eq f64 of_bits
marks = refl

-- W4j. Two held slots of one rate are 3 if they are of one mode, whoever holds them; if one is free they are not.
pub twice : map (λ (m : ℕ). ask_verdict one Ported (two ∷ two ∷ []) (1 ∷ m ∷ []) 2163296)
    (0 ∷ 1 ∷ 2 ∷ 3 ∷ 5 ∷ 6 ∷ 7 ∷ [])
    ≡ 0 ∷ 3 ∷ 3 ∷ 3 ∷ 16 ∷ 16 ∷ 16 ∷ []
unfolding ask_verdict some room_ok le eq f64 of_bits
twice = refl

-- W4h, W4b, W4c. 16 in a room of no slots, and if every slot is held; with one free slot it is built, and a set that is
-- there is shared, whether or not a slot is free.
pub places : asked_place one Ported [] [] 0
    ∷ asked_place one Ported (two ∷ two ∷ []) (3 ∷ 7 ∷ []) 2163296
    ∷ asked_place one Ported (two ∷ two ∷ []) (3 ∷ 0 ∷ []) 2163296
    ∷ asked_place one Ported (one ∷ one ∷ []) (0 ∷ 2 ∷ []) 2163296
    ∷ asked_place one Full (one ∷ one ∷ []) (0 ∷ 2 ∷ []) 2163296
    ∷ []
    ≡ Refused 16 ∷ Refused 16 ∷ Anew 1 ∷ Shared 1 ∷ Anew 0 ∷ []
unfolding asked_place ask_verdict some first_slot room_ok le eq f64 of_bits
places = refl

-- W4h. 17 unless this desk holds the set in this mode.
pub held-by-one : map (λ (m : ℕ). give_up_verdict One two Ported (two ∷ []) (m ∷ []) 1081648)
    (0 ∷ 1 ∷ 2 ∷ 3 ∷ 5 ∷ 6 ∷ 7 ∷ [])
    ≡ 17 ∷ 0 ∷ 17 ∷ 0 ∷ 17 ∷ 17 ∷ 17 ∷ []
unfolding give_up_verdict some room_ok le eq f64 of_bits
held-by-one = refl

pub held-by-two : map (λ (m : ℕ). give_up_verdict Two two Full (two ∷ []) (m ∷ []) 1081648)
    (0 ∷ 1 ∷ 2 ∷ 3 ∷ 5 ∷ 6 ∷ 7 ∷ [])
    ≡ 17 ∷ 17 ∷ 17 ∷ 17 ∷ 17 ∷ 0 ∷ 0 ∷ []
unfolding give_up_verdict some room_ok le eq f64 of_bits
held-by-two = refl

-- W4b, W4d, W4e. What a mark becomes.
pub built-marks : built_by One Ported ∷ built_by Two Ported ∷ built_by One Full ∷ built_by Two Full ∷ []
    ≡ 1 ∷ 2 ∷ 5 ∷ 6 ∷ []
built-marks = refl

pub shared-marks : map (shared_by One) (1 ∷ 2 ∷ 3 ∷ 5 ∷ 6 ∷ 7 ∷ []) ≡ 1 ∷ 3 ∷ 3 ∷ 5 ∷ 7 ∷ 7 ∷ []
shared-marks = refl

pub left-marks : map (left_by Two) (2 ∷ 3 ∷ 6 ∷ 7 ∷ []) ≡ 0 ∷ 1 ∷ 0 ∷ 5 ∷ []
left-marks = refl

-- W4a. The lengths; and the order of the refusals.
pub lengths : map (λ (n : ℕ). open_verdict (one ∷ []) (0 ∷ []) n) (0 ∷ 1081647 ∷ 1081648 ∷ 1081649 ∷ 2163296 ∷ [])
    ≡ 2 ∷ 2 ∷ 0 ∷ 2 ∷ 2 ∷ []
unfolding open_verdict
lengths = refl

pub order : give_up_verdict One (f64 0) Ported (two ∷ []) (4 ∷ []) 0
    ∷ give_up_verdict One one Ported (two ∷ []) (4 ∷ []) 0
    ∷ give_up_verdict One one Ported (two ∷ []) (4 ∷ []) 1081648
    ∷ give_up_verdict One one Ported (two ∷ []) (3 ∷ []) 1081648
    ∷ []
    ≡ 1 ∷ 2 ∷ 3 ∷ 17 ∷ []
unfolding give_up_verdict some room_ok le eq f64 of_bits
order = refl
