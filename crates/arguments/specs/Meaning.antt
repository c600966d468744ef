-- What an argument means. Definitions only.
use Rattle.std.specs.Prelude.{ℕ, ◌+◌, Bool, true, false, cond, List, eqb, length, take, drop, Option, Some, None}
use Rattle.std.specs.Float.Ieee.{Float}
use Prim.Native.String.{String}
use Rattle.text.specs.Text.{ascii}
use Rattle.sample_kind.specs.declared.SampleKind.TheVariants.{Pcm16, Pcm24, Float32}
use Rattle.decimals.specs.Reading.{whole_in, value_in}
use Rattle.spelling.specs.Words.{same_bytes, split_in, is_named}
use Rattle.arguments.specs.Names.{name_in}
use Rattle.arguments.specs.declared.Setting.{Setting as Setting·}
use Rattle.arguments.specs.declared.Name.{Name}
use Rattle.arguments.specs.declared.Name.TheVariants as name
use Rattle.arguments.specs.declared.Argument.{Argument}
use Rattle.arguments.specs.declared.Argument.TheVariants.{File, Unknown, Bad, Seed, Delay, Kind, Setting}
use Rattle.arguments.specs.declared.Argument.TheVariants.{FirstSkip, SecondSkip, Frames, Channel, Picture}

-- The answer is a if the word is this one, and otherwise b.
abbrev pub either : List ℕ → String → Argument → Argument → Argument
either word this a b = cond (same_bytes word (ascii this)) a b

-- ---- whole numbers of 64 bits
abbrev pub as_seed : Option ℕ → Argument
as_seed (Some n) = Seed n
as_seed None = Bad name.Seed

abbrev pub as_first_skip : Option ℕ → Argument
as_first_skip (Some n) = FirstSkip n
as_first_skip None = Bad name.FirstSkip

abbrev pub as_second_skip : Option ℕ → Argument
as_second_skip (Some n) = SecondSkip n
as_second_skip None = Bad name.SecondSkip

-- The value is `all` or a number.
abbrev pub as_frames : Bool → Option ℕ → Argument
as_frames true n = Frames None
as_frames false (Some n) = Frames (Some n)
as_frames false None = Bad name.Frames

-- ---- fractions
abbrev pub as_delay : Option Float → Argument
as_delay (Some x) = Delay x
as_delay None = Bad name.Delay

abbrev pub as_setting : Setting· → Option Float → Argument
as_setting s (Some x) = Setting s x
as_setting s None = Bad (name.Setting s)

-- ---- words
abbrev pub as_kind : List ℕ → Argument
as_kind word =
    either word "same" (Kind None)
    (either word "pcm16" (Kind (Some Pcm16))
    (either word "pcm24" (Kind (Some Pcm24))
    (either word "float32" (Kind (Some Float32)) (Bad name.Kind))))

-- Channels are counted from 1.
abbrev pub as_channel : List ℕ → Argument
as_channel word =
    either word "1" (Channel (Some 1))
    (either word "2" (Channel (Some 2))
    (either word "all" (Channel None) (Bad name.Channel)))

-- The name of a file has at least one byte.
abbrev pub as_picture : ℕ → Argument
as_picture n = cond (eqb n 0) (Bad name.Picture) Picture

-- ---- an argument
abbrev pub valued_as : Name → List ℕ → Argument
valued_as name.Seed v = as_seed (whole_in v)
valued_as name.Delay v = as_delay (value_in v)
valued_as name.Kind v = as_kind v
valued_as (name.Setting s) v = as_setting s (value_in v)
valued_as name.FirstSkip v = as_first_skip (whole_in v)
valued_as name.SecondSkip v = as_second_skip (whole_in v)
valued_as name.Frames v = as_frames (same_bytes v (ascii "all")) (whole_in v)
valued_as name.Channel v = as_channel v
valued_as name.Picture v = as_picture (length v)
valued_as name.Unknown v = Unknown

-- NAME=VALUE means what its name and its value say; anything else is the name of a file.
abbrev pub meaning_of : List ℕ → Argument
meaning_of text =
    cond (is_named text) (valued_as (name_in (take (split_in text) text)) (drop (split_in text + 1) text)) File
