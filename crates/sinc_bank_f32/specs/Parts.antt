-- T5. The part of a set that a quality reads. Draft reads none. Definitions only.
use Rattle.std.specs.Prelude.{ℕ, Bool, true, false, List, [], eqb, length, take, drop, Float}
use Rattle.quality_mode.specs.declared.QualityMode.{QualityMode}
use Rattle.quality_mode.specs.declared.QualityMode.TheVariants.{Draft, Normal, Hq, Ultra}
use Rattle.sinc_bank_f32.specs.Sets.{set_length}

-- Where a quality's part of a set begins and ends.
abbrev pub start_of : QualityMode → ℕ
start_of Draft = 0
start_of Normal = 0
start_of Hq = 163920
start_of Ultra = 557232

abbrev pub end_of : QualityMode → ℕ
end_of Draft = 0
end_of Normal = 163920
end_of Hq = 557232
end_of Ultra = 1081648

abbrev pub part_of : QualityMode → List Float → List Float
part_of Draft set = []
part_of Normal set = take 163920 set
part_of Hq set = take 393312 (drop 163920 set)
part_of Ultra set = take 524416 (drop 557232 set)

abbrev pub pick_slice : Bool → List Float → List Float → List Float
pick_slice true a b = a
pick_slice false a b = b

-- A quality's part of a lent set; nothing if the slice has not a set's length.
abbrev pub lent_of : QualityMode → List Float → List Float
lent_of quality set = pick_slice (eqb (length set) set_length) (part_of quality set) []

abbrev pub chosen_of : List Float → List Float → Bool → QualityMode → List Float
chosen_of safe tighter tight quality = lent_of quality (pick_slice tight tighter safe)
