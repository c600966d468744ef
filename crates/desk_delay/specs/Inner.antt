-- What the code finds in a room, and the refusal where a room is out of range. What is promised stands in Desk.antt,
-- which does not use it. Definitions only.
use Rattle.std.specs.Prelude.{ℕ, zero, suc, Bool, cond, ◌&&◌, ◌||◌, List, length, is_nan, nat_lt, Float}
use Rattle.answer.specs.Answers.{answer_f32_of, zero-f}
use Rattle.bank_choice.specs.Rates.{set_rate_of}
use Rattle.bank_choice.specs.Inner.{choice_of}
use Rattle.bank_choice.specs.declared.Choice.{Choice}
use Rattle.quality_variable_delay.specs.declared.QualityVariableDelayF32.{QualityVariableDelayF32}
use Rattle.quality_variable_delay.specs.declared.ProcessedQ.{ProcessedQ}
use Rattle.room_marks.specs.Slots.{room_ok}
use Rattle.room_marks.specs.Asking.{lengths_agree, own_slot}
use Rattle.desk_delay.specs.declared.looking.Looked.{Looked}
use Rattle.desk_delay.specs.Desk.{Caller}

module _ (c : Caller) (rates : List Float) (marks : List ℕ) where
  -- The slot of set k of the bank for `top`.
  abbrev pub slot_for : Float → ℕ → ℕ
  slot_for top k = own_slot c.desk (set_rate_of top k) c.mode rates marks

  -- The choice by slots, whose numbers are zero if `top` is out of range.
  abbrev pub slot_choice : Float → Float → Choice
  slot_choice top rate = let k = choice_of top rate in
      record {
        safe = slot_for top k.safe;
        tighter = slot_for top k.tighter;
        which = k.which;
        blend = k.blend;
      }

  abbrev pub lent_of : ℕ → Float → Float → Bool
  lent_of floats top rate = let k = slot_choice top rate in
      lengths_agree rates marks floats
      && (is_nan rate || (nat_lt k.safe (length marks) && nat_lt k.tighter (length marks)))

  abbrev pub looked_of : ℕ → Float → Float → Looked
  looked_of floats top rate = record {
    choice = slot_choice top rate;
    lent = lent_of floats top rate;
    whole = room_ok rates marks;
  }

-- The refusal in a room out of range, where v is the one without that.
abbrev pub out_of_range : ℕ → ℕ
out_of_range zero = 3
out_of_range (suc zero) = 1
out_of_range (suc (suc zero)) = 2
out_of_range (suc (suc (suc k))) = 3

abbrev pub in_room : Bool → ℕ → ℕ
in_room whole v = cond whole v (out_of_range v)

abbrev pub refused_by : ℕ → QualityVariableDelayF32 → ProcessedQ
refused_by v d = record { state = d; answer = answer_f32_of v zero-f }
