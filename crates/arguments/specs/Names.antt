-- The names that a setting can have: those of `imitate`, the eight of 001, those of `residual`. Definitions only.
use Rattle.std.specs.Prelude.{ℕ, cond, List}
use Prim.Native.String.{String}
use Rattle.text.specs.Text.{ascii}
use Rattle.spelling.specs.Words.{same_bytes}
use Rattle.arguments.specs.declared.Setting.TheVariants.{WowRateHz, WowDepthCents, WowShape}
use Rattle.arguments.specs.declared.Setting.TheVariants.{FlutterRateHz, FlutterDepthCents, FlutterShape}
use Rattle.arguments.specs.declared.Setting.TheVariants.{DriftAmount, StereoAmount}
use Rattle.arguments.specs.declared.Name.{Name}
use Rattle.arguments.specs.declared.Name.TheVariants.{Seed, Delay, Kind, Setting, FirstSkip, SecondSkip, Frames}
use Rattle.arguments.specs.declared.Name.TheVariants.{Channel, Picture, Unknown}

-- The answer is a if the word is this name, and otherwise b.
abbrev pub either : List ℕ → String → Name → Name → Name
either word name a b = cond (same_bytes word (ascii name)) a b

-- 001's eight settings, under the names that its ModulationParams has.
abbrev pub wander_or : List ℕ → Name → Name
wander_or word other =
    either word "wow_rate_hz" (Setting WowRateHz)
    (either word "wow_depth_cents" (Setting WowDepthCents)
    (either word "wow_shape" (Setting WowShape)
    (either word "flutter_rate_hz" (Setting FlutterRateHz)
    (either word "flutter_depth_cents" (Setting FlutterDepthCents)
    (either word "flutter_shape" (Setting FlutterShape)
    (either word "drift_amount" (Setting DriftAmount)
    (either word "stereo_amount" (Setting StereoAmount) other)))))))

abbrev pub name_in : List ℕ → Name
name_in word =
    either word "seed" Seed
    (either word "delay" Delay
    (either word "kind" Kind
    (wander_or word
    (either word "first-skip" FirstSkip
    (either word "second-skip" SecondSkip
    (either word "frames" Frames
    (either word "channel" Channel
    (either word "picture" Picture Unknown))))))))
