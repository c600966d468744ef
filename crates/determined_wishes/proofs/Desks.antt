-- C1, W4. The contract of a desk's reader determines its answer, which has the state in it, and every element of the
-- ring; those of a room determine the answer and all of the room that may be written. Assumes nothing.
use mathlib.Core.Path.{sym, ◌∙◌, ap}
use mathlib.Core.List.{List}
use Prim.Native.Nat.{ℕ}
use lib.Ieee.{Float}
use contract.Lifetimes.{Lfts}
use Rattle.set_room.specs.Room.{Room, room_of}
use Rattle.desk_delay.proofs.process_sample.Reads as desk
use Rattle.desk_delay.proofs.process_sample_rate_aware.Reads as rate-aware
use Rattle.told_desk.proofs.process_sample_rate_aware_told.Reads as told
use Rattle.set_room.proofs.open.Reads as opening
use Rattle.set_room.proofs.ask.Reads as ask
use Rattle.set_room.proofs.give_up.Reads as give-up
use Rattle.determined.specs.Determined.{Determined}
use Rattle.determined.proofs.ByEquations.{agree}

-- The arguments are desk, mode, state, ring, the room's three slices and the others.
module _ (κs : Lfts 2) where
  pub desk-determined : Determined (desk.Learnt κs) (λ e. e.1.1.1.0.now)
  desk-determined f g p q a = agree _ _ (p a) (q a)

  pub rate-aware-determined : Determined (rate-aware.Learnt κs) (λ e. e.1.1.1.0.now)
  rate-aware-determined f g p q a = agree _ _ (p a) (q a)

  pub told-determined : Determined (told.Learnt κs) (λ e. e.1.1.1.0.now)
  told-determined f g p q a = agree _ _ (p a) (q a)

-- The arguments are rates, marks and slots; to ask and to give up desk, rate and mode come first.
module _ (κs : Lfts 3) where
  pub open-determined : Determined {L = List Float × List ℕ} (opening.Learnt κs) (λ e. (e.0.now, e.1.0.now))
  open-determined f g p q a =
      let e = (p a).1 ∙ sym (q a).1 in ((p a).0 ∙ sym (q a).0, λ i. ((e i).rates, (e i).marks))

  pub ask-determined : Determined (ask.Learnt κs)
      (λ e. let room = e.1.1.1 in room_of room.0.now room.1.0.now room.1.1.0.now)
  ask-determined f g p q a = agree _ _ (p a) (q a)

  pub give-up-determined : Determined (give-up.Learnt κs) (λ e. e.1.1.1.1.0.now)
  give-up-determined f g p q a =
      let e = (p a).1 ∙ sym (q a).1 in ((p a).0 ∙ sym (q a).0, ap (λ (r : Room). r.marks) e)
