-- W4g. Everything that two desks do with one room, in any order: they ask for sets, give them up, and have their
-- readers called. Definitions only.
use Rattle.std.specs.Prelude.{ℕ, Bool, true, false, ◌&&◌, List, [], ◌∷◌, Float}
use Rattle.std.specs.Float.{binary64}
use Rattle.std.specs.Float.Ieee.{fits}
use Rattle.answer.specs.declared.AnswerF32.{AnswerF32}
use Rattle.bessel.specs.declared.Mode.{Mode}
use Rattle.quality_mode.specs.declared.QualityMode.{QualityMode}
use Rattle.quality_runs.specs.Runs.{Reader}
use Rattle.room_marks.specs.declared.Desk.{Desk}
use Rattle.room_marks.specs.declared.Desk.TheVariants.{One, Two}
use Rattle.set_room.specs.declared.Asked.{Asked}
use Rattle.set_room.specs.Room.{Room, grant_of, give_up_due}
use Rattle.room_runs.specs.Turns.{Turn, asks, gives, after_turn, rate_in}
use Rattle.desk_delay.specs.Desk.{caller_of, desk_call, desk_ring}

-- One call of a desk's reader.
pub record Call : Type 0 where
  pub mode : Mode
  pub top : Float
  pub input : Float
  pub delay : Float
  pub quality : QualityMode
  pub rate : Float

pub data Event : Type 0 where
  turn : Turn → Event
  calls : Desk → Call → Event

-- The room and both readers between two events.
pub record World : Type 0 where
  pub room : Room
  pub one : Reader
  pub two : Reader

abbrev pub reader_of : Desk → World → Reader
reader_of One w = w.one
reader_of Two w = w.two

abbrev pub with_reader : Desk → Reader → World → World
with_reader One r w = record { room = w.room; one = r; two = w.two }
with_reader Two r w = record { room = w.room; one = w.one; two = r }

-- What a desk is told: a grant, the number for giving up, or a sample.
pub data Said : Type 0 where
  grant : Asked → Said
  number : ℕ → Said
  sample : AnswerF32 → Said

abbrev pub answered : Desk → Call → Room → Reader → AnswerF32
answered d c room r =
    (desk_call (caller_of d c.mode) room c.top r.state r.ring c.input c.delay c.quality c.rate
    ).answer

abbrev pub called : Desk → Call → Room → Reader → Reader
called d c room r = record {
  state =
      (desk_call (caller_of d c.mode) room c.top r.state r.ring c.input c.delay c.quality c.rate
      ).state;
  ring = desk_ring (caller_of d c.mode) room c.top r.state r.ring c.input c.delay c.rate;
}

abbrev pub said : World → Event → Said
said w (turn (asks d rate mode)) = grant (grant_of rate mode w.room)
said w (turn (gives d rate mode)) = number (give_up_due d rate mode w.room)
said w (calls d c) = sample (answered d c w.room (reader_of d w))

abbrev pub after : World → Event → World
after w (turn t) = record { room = after_turn w.room t; one = w.one; two = w.two }
after w (calls d c) = with_reader d (called d c w.room (reader_of d w)) w

unfoldable pub run : World → List Event → World
run w [] = w
run w (e ∷ es) = run (after w e) es

-- Whose event it is.
abbrev pub same_desk : Desk → Desk → Bool
same_desk One One = true
same_desk One Two = false
same_desk Two One = false
same_desk Two Two = true

abbrev pub actor : Event → Desk
actor (turn (asks d rate mode)) = d
actor (turn (gives d rate mode)) = d
actor (calls d c) = d

abbrev pub keep_if : {A : Type 0} → Bool → A → List A → List A
keep_if true x xs = x ∷ xs
keep_if false x xs = xs

-- What a desk is told over a run.
unfoldable pub told : Desk → World → List Event → List Said
told d w [] = []
told d w (e ∷ es) = keep_if (same_desk d (actor e)) (said w e) (told d (after w e) es)

-- Every rate that is asked for or given up is an f64, as every one is that the code is handed.
abbrev pub f64_in : Event → Bool
f64_in (turn t) = fits binary64 (rate_in t)
f64_in (calls d c) = true

abbrev pub f64s : List Event → Bool
f64s [] = true
f64s (e ∷ es) = f64_in e && f64s es
