-- How the slots are looked through: what a search wants, and one slot's part of test 3. Definitions only.
use Rattle.std.specs.Prelude.{ℕ, suc, min, Bool, not, ◌&&◌, List, length, get_or, drop, Float}
use Rattle.std.specs.Float.{nan}
use Rattle.room_marks.specs.declared.search.Wanted.{Wanted}
use Rattle.room_marks.specs.declared.search.Wanted.TheVariants.{Free, Own}
use Rattle.room_marks.specs.Slots.{free, own_set, slot_ok, again}

abbrev pub suits_of : Wanted → Float → ℕ → Bool
suits_of Free r m = free r m
suits_of (Own desk rate mode) r m = own_set desk rate mode r m

abbrev pub shorter : List Float → List ℕ → ℕ
shorter rates marks = min (length rates) (length marks)

-- Slot i is in range, and no later slot has its set.
unfoldable pub alone_at : List Float → List ℕ → ℕ → Bool
alone_at rates marks i =
    let r = get_or rates i nan in
    let m = get_or marks i 0 in
    slot_ok r m && not (again r m (drop (suc i) rates) (drop (suc i) marks))
