-- What the loops over the frames require of their callers inside this crate. It is no part of a promise to other
-- crates. Definitions only.
use Rattle.std.specs.Prelude.{ℕ, ◌+◌, ◌*◌, ◌^◌, ◌%◌, ◌≤◌, ◌<◌, ◌≡◌, List}
use Rattle.sample_kind.specs.declared.SampleKind.{SampleKind}
use Rattle.sample_kind.specs.Kinds.{width_of, frame_of}
use Rattle.wav_format.specs.Format.{number}

-- The part is exactly n frames, and the sample lies inside its frame.
pub record Whole (size n frame first width : ℕ) : Type 0 where
  pub all : size ≡ n * frame
  pub inside : first + width ≤ frame

-- The same for a kind of sample, in one or two channels.
pub record Framed (kind : SampleKind) (channels first size n : ℕ) : Type 0 where
  pub some : 0 < channels
  pub few : channels ≤ 2
  pub whole : Whole size n (frame_of kind channels) first (width_of kind)

-- One sample of `width` bytes in each of n frames, at place `first` of the first frame: all of them lie in the part.
abbrev pub Within : ℕ → ℕ → ℕ → ℕ → ℕ → Type 0
Within size n frame first width = (k : ℕ) → k < n → k * frame + first + width ≤ size

-- The same for a sample of four bytes.
abbrev pub Inside : ℕ → ℕ → ℕ → ℕ → Type 0
Inside size n frame first = (k : ℕ) → k < n → k * frame + first + 4 ≤ size

-- What a function returns for a number of 32 digits, by what is ensured of its result, is the number's meaning.
abbrev pub Gives : {A : Type 0} → (ℕ → A → Type 0) → (ℕ → A) → Type 0
Gives {A} result_is means = (n : ℕ) (x : A) → n < 2 ^ 32 → result_is n x → x ≡ means n

-- The pattern of sample k, and that none of n patterns is above m without its sign bit.
abbrev pub patterns : List ℕ → ℕ → ℕ → ℕ → ℕ
patterns b frame first k = number 4 b (k * frame + first)

abbrev pub NoneAbove : (ℕ → ℕ) → ℕ → ℕ → Type 0
NoneAbove pattern n m = (k : ℕ) → k < n → pattern k % 0x8000_0000 ≤ m
