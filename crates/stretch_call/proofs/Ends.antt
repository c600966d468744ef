-- W3. Closed examples at the ends, each computed from the definition, over any kernel: 2^36 is reached inside a
-- stretch, a full state takes an empty one, and which number is given of several. Assumes nothing.
use mathlib.Core.Path.{◌≡◌, refl}
use mathlib.Core.Bool.{true, false}
use mathlib.Core.List.{List, [], ◌∷◌}
use Prim.Native.Nat.{ℕ, ◌^◌, ◌-◌, ◌+◌}
use lib.Ieee.{Float, le, lt, eq, size, nan}
use Rattle.constants.specs.Numbers.{zero-f}
use Rattle.ring.specs.Length.{length_for, zeros}
use Rattle.variable_delay.specs.Reader.{Reading}
use Rattle.variable_delay.specs.declared.VariableDelay.{VariableDelay}
use Rattle.stretch.specs.Stretch.{Ran, stretch_of}
use Rattle.stretch.specs.Whole.{whole_of, done_of}
use Rattle.stretch_call.specs.Items.{item_of, delay_reader}

-- A reader of the least settings, whose ring has 8 places.
abbrev least : ℕ → VariableDelay
least accepted = record { maximum = 0; margin = 0; accepted = accepted }

module _ (read : Reading) where
  -- The inputs, the delays and the output's length.
  abbrev call : ℕ → List Float → List Float → ℕ → Ran VariableDelay
  call accepted inputs delays out = whole_of (delay_reader read true true) (least accepted) (zeros 8) inputs delays out

  -- The 2^36th sample is the first of three items: it is done, and the second is refused by 8.
  pub reached : ((call (2 ^ 36 - 1) (zeros 3) (zeros 3) 3).number ≡ 8)
      × (done_of (call (2 ^ 36 - 1) (zeros 3) (zeros 3) 3) ≡ 1)
  unfolding whole_of stretch_of item_of length_for size le lt eq
  reached = (refl, refl)

  pub full-empty : (call (2 ^ 36) [] [] 0).number ≡ 0
  unfolding whole_of stretch_of length_for size
  full-empty = refl

  pub full-one : (call (2 ^ 36) (zeros 1) (zeros 1) 1).number ≡ 8
  unfolding whole_of stretch_of item_of length_for size le lt eq
  full-one = refl

  -- 3 on a state past the end, also without an item; unequal lengths come before it.
  pub past_end : (call (2 ^ 36 + 1) [] [] 0).number ≡ 3
  unfolding whole_of length_for size
  past_end = refl

  pub out-longer : (call (2 ^ 36 + 1) [] [] 1).number ≡ 2
  unfolding whole_of length_for size
  out-longer = refl

  -- A kernel's settings come before both, and an item's NaN behind all three.
  pub settings-first : (whole_of (delay_reader read false true) (least (2 ^ 36 + 1)) [] [] [] 1).number ≡ 1
  unfolding whole_of
  settings-first = refl

  pub nan-item : ((call 0 (zero-f ∷ nan ∷ zero-f ∷ []) (zeros 3) 3).number ≡ 4)
      × (done_of (call 0 (zero-f ∷ nan ∷ zero-f ∷ []) (zeros 3) 3) ≡ 1)
  unfolding whole_of stretch_of item_of length_for size le lt eq
  nan-item = (refl, refl)
