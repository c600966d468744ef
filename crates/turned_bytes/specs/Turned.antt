-- W12. The bytes of each sample reversed. Definitions only.
use Rattle.std.specs.Prelude.{ℕ, zero, suc, ◌/◌, List, ◌++◌, reverse, length, take, drop}
use Rattle.sample_kind.specs.declared.SampleKind.{SampleKind}
use Rattle.sample_kind.specs.declared.SampleKind.TheVariants.{Pcm16, Pcm24, Float32}

-- The first n samples of w bytes each are reversed, and the bytes behind them stay.
unfoldable pub turned_first : ℕ → ℕ → List ℕ → List ℕ
turned_first w zero b = b
turned_first w (suc n) b = reverse (take w b) ++ turned_first w n (drop w b)

-- All whole samples are reversed. Floats stay, because no AIFF has them.
abbrev pub turned_round : SampleKind → List ℕ → List ℕ
turned_round Pcm16 b = turned_first 2 (length b / 2) b
turned_round Pcm24 b = turned_first 3 (length b / 3) b
turned_round Float32 b = b

-- ---- one sample, at a place
abbrev pub turned_at : ℕ → ℕ → List ℕ → List ℕ
turned_at w at b = take at b ++ (reverse (take w (drop at b)) ++ drop w (drop at b))
