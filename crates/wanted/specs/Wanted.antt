-- What the value of a setting must be, in words. Definitions only.
use Rattle.std.specs.Prelude.{ℕ, List}
use Rattle.text.specs.Text.{ascii}
use Rattle.arguments.specs.declared.Name.{Name}
use Rattle.arguments.specs.declared.Name.TheVariants.{Seed, Delay, Kind, Setting, FirstSkip, SecondSkip, Frames}
use Rattle.arguments.specs.declared.Name.TheVariants.{Channel, Picture, Unknown}

abbrev pub wanted_of : Name → List ℕ
wanted_of Seed = ascii "a seed is a whole number from 0 to 18446744073709551615"
wanted_of Delay = ascii "a delay is a number of samples, as 512 or 12.5, of at most 15 digits"
wanted_of Kind = ascii "a kind is same, pcm16, pcm24 or float32"
wanted_of (Setting s) = ascii "a setting is a number, as 12 or -0.5, of at most 15 digits"
wanted_of FirstSkip = ascii "first-skip is a whole number of frames"
wanted_of SecondSkip = ascii "second-skip is a whole number of frames"
wanted_of Frames = ascii "frames is a whole number, or all"
wanted_of Channel = ascii "a channel is 1, 2 or all"
wanted_of Picture = ascii "a picture is a file's name"
wanted_of Unknown = ascii "there is no such setting"
