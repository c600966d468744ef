-- W3, W9h. A whole stretch of the quality reader on plain numbers: quality_stretch's if every number names what it
-- stands for, otherwise refused before the first item with nothing changed. Definitions only.
use Rattle.std.specs.Prelude.{ℕ, Bool, true, false, ◌&&◌, List, length, Float}
use Rattle.quality_codes.specs.declared.Coded.{Coded}
use Rattle.quality_codes.specs.Codes.{mode_of, code_ok, decoded, coded, fields_ok, odd_number}
use Rattle.quality_codes.specs.Left.{Changed, changed_of}
use Rattle.quality_stretch.specs.Reader as stretch
use Rattle.quality_stretch.specs.Inner.{first_due}

-- All that a stretch leaves: the number of the refusal, 0 for none, the number of items done, the state, the ring and
-- the output.
pub record Left (W : Type 0) : Type 0 where
  pub number : ℕ
  pub done : ℕ
  pub state : W
  pub ring : List Float
  pub out : List Float

abbrev pub leaves : {W : Type 0} → ℕ → ℕ → W → List Float → List Float → Left W
leaves number done state ring out =
    record { number = number; done = done; state = state; ring = ring; out = out }

abbrev pub taken_apart : stretch.Left → Left Coded
taken_apart l = leaves l.answer.refusal l.answer.done (coded l.answer.state) l.ring l.out

abbrev pub pick : Bool → Left Coded → Left Coded → Left Coded
pick true a b = a
pick false a b = b

abbrev pub left_of : List Float → Float → ℕ → Float → Coded → List Float → List Float → List Float → List Float
    → Left Coded
left_of sets max-rate q rate s ring inputs delays out =
    pick (code_ok q && fields_ok s)
    (taken_apart (stretch.left_of sets max-rate (mode_of q) rate (decoded s) ring inputs delays out))
    (leaves
    (odd_number (code_ok q)
    (first_due (length sets) max-rate (decoded s) (length ring) (length inputs) (length delays) (length out))) 0 s ring
    out)

-- Of the state the five numbers that a call changes, as an export writes them.
abbrev pub changed_by : Left Coded → Left Changed
changed_by l = leaves l.number l.done (changed_of l.state) l.ring l.out
