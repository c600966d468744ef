-- W8. Samples that two runs of the same calls store, ss and ts, some of which differ in their values: which of them a
-- ring still holds, which of them a reading's taps avoid, and when none is left. Sample i is the i-th of a run, from 0
-- on. With `before` samples accepted before the runs it has the number before + i in the ring. Definitions only.
use Rattle.std.specs.Prelude.{◌≡◌, List, ℕ, ◌+◌, ◌%◌, ◌<◌, ◌≤◌, ℤ, pos, ◌+ℤ◌, length, get_or, Float}
use Rattle.std.specs.Float.{nan}

-- Sample i is the same in both runs.
abbrev pub Same : List Float → List Float → ℕ → Type 0
Same ss ts i = get_or ss i nan ≡ get_or ts i nan

-- K2. A ring of length len holds the last len of the samples.
pub record Held (len : ℕ) (ss : List Float) (i : ℕ) : Type 0 where
  pub stored : i < length ss
  pub kept : length ss ≤ i + len

-- No sample that differs is held at place j.
abbrev pub Spared : ℕ → ℕ → List Float → List Float → ℕ → Type 0
Spared before len ss ts j = (i : ℕ) → (before + i) % len ≡ j → Held len ss i → Same ss ts i

-- The held ones of n taps, from number z on, avoid the samples that differ.
abbrev pub Avoid : ℕ → ℕ → List Float → List Float → ℤ → ℕ → Type 0
Avoid before len ss ts z n =
    (k : ℕ) → k < n → (i : ℕ) → z +ℤ pos k ≡ pos (before + i) → Held len ss i → Same ss ts i

-- No sample after number m of the runs differs.
abbrev pub NoneAfter : ℕ → List Float → List Float → Type 0
NoneAfter m ss ts = (i : ℕ) → m < i → Same ss ts i

-- The len-th sample after number m has been stored: it is number m + len.
abbrev pub Aged : ℕ → ℕ → List Float → Type 0
Aged len m ss = m + len < length ss
