-- What a call on numbers leaves, where they name a desk and a mode and where they do not. Assumes nothing.
use mathlib.Core.Path.{◌≡◌, refl, sym, ◌∙◌, ap}
use mathlib.Core.Bool.{Bool, true, false, ◌&&◌}
use Prim.Native.Nat.{ℕ}
use lib.Ieee.{Float}
use Rattle.bessel.specs.declared.Mode.{Mode}
use Rattle.bessel.specs.Modes.{mode_of}
use Rattle.room_marks.specs.declared.Desk.{Desk}
use Rattle.room_marks.specs.Marks.{desk_of}
use Rattle.set_room.specs.declared.Asked.{Asked}
use Rattle.set_room.specs.Room.{Room, grant_of, number_of, asked_of, give_up_due, gave_up}
use Rattle.room_codes.specs.Coded.{named, leaves, slot_in, ask_left, give_up_number, given_up_room}

-- Two tests together.
pub both-known : (r a b x y : Bool) → r ≡ a && b → a ≡ x → b ≡ y → x && y ≡ r
both-known r a b x y e f g = sym (e ∙ rw (f, g))

same_left : {n m s t : ℕ} {q r : Room} → n ≡ m → s ≡ t → q ≡ r → leaves n s q ≡ leaves m t r
same_left e f g = rw (e, f, g)

module _ (desk mode : ℕ) (rate : Float) (r : Room) (d : Desk) (m : Mode) (x : d ≡ desk_of desk) (y : m ≡ mode_of mode)
    (n : named desk mode ≡ true) where
  pub asked-left : (s : Room) (g q : Asked) → g ≡ grant_of rate m r → g ≡ q → s ≡ asked_of d rate m r
      → leaves (number_of q) (slot_in q) s ≡ ask_left desk rate mode r
  asked-left s g q e f a =
      let w = sym f ∙ e ∙ ap (λ (b : Mode). grant_of rate b r) y in
      let z = a ∙ ap (λ (c : Desk). asked_of c rate m r) x ∙ ap (λ (b : Mode). asked_of (desk_of desk) rate b r) y in
      rw n (same_left (ap number_of w) (ap slot_in w) z)

  pub given-left : (s : Room) (v : ℕ) → v ≡ give_up_due d rate m r → s ≡ gave_up d rate m r
      → (v ≡ give_up_number desk rate mode r) × (s ≡ given_up_room desk rate mode r)
  given-left s v e a =
      rw n (
        e ∙ ap (λ (c : Desk). give_up_due c rate m r) x ∙ ap (λ (b : Mode). give_up_due (desk_of desk) rate b r) y,
        a ∙ ap (λ (c : Desk). gave_up c rate m r) x ∙ ap (λ (b : Mode). gave_up (desk_of desk) rate b r) y,
      )

module _ (desk mode : ℕ) (rate : Float) (r : Room) (n : named desk mode ≡ false) where
  pub not-asked : leaves 1 0 r ≡ ask_left desk rate mode r
  not-asked = rw n

  pub not-given : (1 ≡ give_up_number desk rate mode r) × (r ≡ given_up_room desk rate mode r)
  not-given = rw n (refl, refl)
