-- What a program was asked for. Definitions only.
use Rattle.std.specs.Prelude.{ℕ, Bool, true, false, pos, Option, Some, None}
use Rattle.std.specs.Float.{fin}
use Rattle.modulation_params.specs.Settings.{default_params}
use Rattle.arguments.specs.declared.Argument.{Argument}
use Rattle.arguments.specs.declared.Argument.TheVariants.{File, Unknown, Bad, Seed, Delay, Kind, Setting, FirstSkip}
use Rattle.arguments.specs.declared.Argument.TheVariants.{SecondSkip, Frames, Channel, Picture}
use Rattle.arguments.specs.Settings.{changed_to}
use Rattle.asked.specs.declared.Imitation.{Imitation}
use Rattle.asked.specs.declared.Comparison.{Comparison}

-- `imitate` without arguments: seed 1, delay 512 and 001's default settings, as in `render`, and the kind of the file
-- that is read.
abbrev pub plain_imitation : Imitation
plain_imitation = record { seed = 1; delay = fin false 1 (pos 9); kind = None; params = default_params }

-- The settings that an argument changes, unless it is not one of `imitate`'s.
abbrev pub imitated_with : Imitation → Argument → Option Imitation
imitated_with b (Seed n) = Some (record { seed = n; delay = b.delay; kind = b.kind; params = b.params })
imitated_with b (Delay x) = Some (record { seed = b.seed; delay = x; kind = b.kind; params = b.params })
imitated_with b (Kind k) = Some (record { seed = b.seed; delay = b.delay; kind = k; params = b.params })
imitated_with b (Setting s x) =
    Some (record { seed = b.seed; delay = b.delay; kind = b.kind; params = changed_to b.params s x })
imitated_with b File = None
imitated_with b Unknown = None
imitated_with b (Bad n) = None
imitated_with b (FirstSkip n) = None
imitated_with b (SecondSkip n) = None
imitated_with b (Frames f) = None
imitated_with b (Channel c) = None
imitated_with b Picture = None

-- The settings of `residual`, as one record.
abbrev pub comparison : ℕ → ℕ → Option ℕ → Option ℕ → Bool → Comparison
comparison a b f c p = record { first_skip = a; second_skip = b; frames = f; channel = c; picture = p }

-- `residual` without arguments: from the first frame on, all frames of all channels, without a picture.
abbrev pub plain_comparison : Comparison
plain_comparison = comparison 0 0 None None false

-- The settings that an argument changes, unless it is not one of `residual`'s.
abbrev pub compared_with : Comparison → Argument → Option Comparison
compared_with b (FirstSkip n) = Some (comparison n b.second_skip b.frames b.channel b.picture)
compared_with b (SecondSkip n) = Some (comparison b.first_skip n b.frames b.channel b.picture)
compared_with b (Frames f) =
    Some (comparison b.first_skip b.second_skip f b.channel b.picture)
compared_with b (Channel c) =
    Some (comparison b.first_skip b.second_skip b.frames c b.picture)
compared_with b Picture =
    Some (comparison b.first_skip b.second_skip b.frames b.channel true)
compared_with b File = None
compared_with b Unknown = None
compared_with b (Bad n) = None
compared_with b (Seed n) = None
compared_with b (Delay x) = None
compared_with b (Kind k) = None
compared_with b (Setting s x) = None
