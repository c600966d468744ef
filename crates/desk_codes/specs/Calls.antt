-- W4. A desk's call on plain numbers: desk_delay's if every number names what it stands for, otherwise refused with
-- nothing changed. A desk's number is 1 or 2, a mode's 0 or 1; as arguments they are refused by 1, as the number of the
-- requested quality is. Definitions only.
use Rattle.std.specs.Prelude.{ℕ, Bool, ◌&&◌, List, length, Float}
use Rattle.answer_parts.specs.Left.{Left, leaves}
use Rattle.bessel.specs.Modes.{known_code}
use Rattle.bessel.specs.Modes as tables
use Rattle.room_marks.specs.Marks.{desk_of, known_desk}
use Rattle.set_room.specs.Room.{Room}
use Rattle.quality_codes.specs.declared.Coded.{Coded}
use Rattle.quality_codes.specs.declared.Called.{Called}
use Rattle.quality_codes.specs.Codes.{mode_of, code_ok, decoded, fields_ok, odd_number}
use Rattle.quality_codes.specs.Calls.{pick_called, pick_ring, refused_by, taken_apart}
use Rattle.quality_codes.specs.Left.{Changed, changed_of}
use Rattle.desk_delay.specs.Desk.{Caller, caller_of, desk_verdict, desk_call, desk_ring}

-- Whether the arguments' numbers name a quality, a desk and a mode.
abbrev pub named_ok : ℕ → ℕ → ℕ → Bool
named_ok desk mode quality = code_ok quality && (known_desk desk && known_code mode)

abbrev pub caller : ℕ → ℕ → Caller
caller desk mode = caller_of (desk_of desk) (tables.mode_of mode)

abbrev pub desk_called : ℕ → ℕ → Room → Float → Coded → List Float → Float → Float → ℕ → Float → Called
desk_called desk mode room max-rate s xs x y q playback-rate =
    pick_called (named_ok desk mode q && fields_ok s)
    (taken_apart (desk_call (caller desk mode) room max-rate (decoded s) xs x y (mode_of q) playback-rate))
    (refused_by
    (odd_number (named_ok desk mode q)
    (desk_verdict (caller desk mode) room max-rate (decoded s) (length xs) x y playback-rate)) s)

abbrev pub desk_ring_called : ℕ → ℕ → Room → Float → Coded → List Float → Float → Float → ℕ → Float → List Float
desk_ring_called desk mode room max-rate s xs x y q playback-rate =
    pick_ring (named_ok desk mode q && fields_ok s)
    (desk_ring (caller desk mode) room max-rate (decoded s) xs x y playback-rate) xs

-- What a call through pointers leaves.
abbrev pub desk_left : ℕ → ℕ → Room → Float → Coded → List Float → Float → Float → ℕ → Float → Left Float Changed
desk_left desk mode room max-rate s xs x y q playback-rate =
    let c = desk_called desk mode room max-rate s xs x y q playback-rate in
    leaves c.number c.sample (changed_of c.state)
    (desk_ring_called desk mode room max-rate s xs x y q playback-rate)
