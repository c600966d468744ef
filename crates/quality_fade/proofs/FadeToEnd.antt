-- Q1. A fade to its end: as many calls as the length are mixed, including the first that asks, with the weights 1, 2, …
-- up to the length; all later calls are plain. The proof goes by the number of calls left to mix. Assumes nothing.
use mathlib.Core.Path.{◌≡◌, refl, sym, ◌∙◌, ap}
use mathlib.Core.Bool.{Bool, true, false}
use mathlib.Core.List.{List, [], ◌∷◌, ◌++◌, map-append}
use Prim.Native.Nat.{ℕ, zero, suc, ◌+◌, ◌<◌}
use native.Mathlib.Omega.{arith}
use borrow.Author.Tests.{le-leb, lt-leb}
use lib.Dec.{leb}
use lib.ListN.{length, replicate, replicate-append-replicate}
use Rattle.quality_mode.specs.declared.QualityMode.{QualityMode}
use Rattle.quality_mode.specs.Quality.{same_q}
use Rattle.quality_mode.proofs.Equal.{same_refl, same_not}
use Rattle.quality_fade.specs.declared.Fade.{Fade}
use Rattle.quality_fade.specs.declared.Turn.{Turn}
use Rattle.quality_fade.specs.Fade.{fade_of, length_ok, valid_of, open_of}
use Rattle.quality_fade.specs.Step.{plain_turn, mix_turn, step_of}
use Rattle.quality_fade.specs.Runs.{turns_of, mixes_of, ramp_of}
use Rattle.quality_fade.proofs.StaysInRange.{both, step-length}
use Rattle.quality_fade.proofs.OneCall.{fade-valid, open-valid, mixes, stays, goes_on, third, never-mixed}

module _ (c q : QualityMode) (len : ℕ) (fits : length_ok len ≡ true) where
  -- A call that asks for q where q is already read, and one within the fade from c to q.
  pub reads_on : step_of (open_of q len) q ≡ plain_turn (open_of q len)
  reads_on = goes_on (open_of q len) q (open-valid q len fits) (same_refl q) ∙ stays q len len

  pub fades-on : (i : ℕ) → same_q c q ≡ false → i < len → step_of (fade_of c q i len) q ≡ mix_turn (fade_of c q i len)
  fades-on i h l =
      goes_on (fade_of c q i len) q (fade-valid c q i len fits (omega arith) (λ f. l)) (same_refl q)
      ∙ mixes c q i len h (omega arith)

  rest : (k : ℕ) → turns_of (open_of q len) (replicate k q) ≡ replicate k (plain_turn (open_of q len))
  unfolding turns_of
  rest zero = refl
  rest (suc k) = rw reads_on (ap (λ (l : List Turn). plain_turn (open_of q len) ∷ l) (rest k))

  -- From place i on, with n + 1 calls left to mix.
  onto : same_q c q ≡ false → (n i k : ℕ) → i + suc n ≡ len
      → mix_turn (fade_of c q i len) ∷ turns_of (mix_turn (fade_of c q i len)).state (replicate n q ++ replicate k q)
      ≡ ramp_of c q len i (suc n) ++ replicate k (plain_turn (open_of q len))
  unfolding turns_of ramp_of
  onto h zero i k e =
      let f : leb len (i + 1) ≡ true = le-leb len (i + 1) (omega arith) in
      let g : i + 1 ≡ len = omega arith in
      ap (λ (l : List Turn). mix_turn (fade_of c q i len) ∷ l) (rw (f, g) (rest k))
  onto h (suc n) i k e =
      let f : leb len (i + 1) ≡ false = lt-leb len (i + 1) (omega arith) in
      let g : i + 1 + suc n ≡ len = omega arith in
      ap (λ (l : List Turn). mix_turn (fade_of c q i len) ∷ l)
      (rw (f, fades-on (i + 1) h (omega arith)) (onto h n (i + 1) k g))

module _ (s : Fade) (q : QualityMode) (k : ℕ) (v : valid_of s ≡ true) (ht : same_q q s.target ≡ false)
    (hc : same_q q s.current ≡ false) (l : 0 < s.crossfade_samples) where
  -- Q1, with what each call reads.
  pub fades : turns_of s (replicate s.crossfade_samples q ++ replicate k q)
      ≡ ramp_of s.current q s.crossfade_samples 0 s.crossfade_samples
      ++ replicate k (plain_turn (open_of q s.crossfade_samples))
  unfolding turns_of
  fades = go s.crossfade_samples refl l
    where
      other : same_q s.current q ≡ false
      other = same_not q s.current hc

      go : (n : ℕ) → n ≡ s.crossfade_samples → 0 < n
          → turns_of s (replicate n q ++ replicate k q)
          ≡ ramp_of s.current q s.crossfade_samples 0 n
          ++ replicate k (plain_turn (open_of q s.crossfade_samples))
      go zero e p = absurd (omega arith)
      go (suc n) e p =
          ap (λ (t : Turn). t ∷ turns_of t.state (replicate n q ++ replicate k q)) (third s q v ht other l)
          ∙ onto s.current q s.crossfade_samples (both (length_ok s.crossfade_samples) _ v).0 other n 0 k
          (omega arith)

mixes-ramp : (c q : QualityMode) (len n i : ℕ) → mixes_of (ramp_of c q len i n) ≡ replicate n true
unfolding ramp_of
mixes-ramp c q len zero i = refl
mixes-ramp c q len (suc n) i = ap (λ (l : List Bool). true ∷ l) (mixes-ramp c q len n (i + 1))

mixes-plain : (s : Fade) (k : ℕ) → mixes_of (replicate k (plain_turn s)) ≡ replicate k false
mixes-plain s zero = refl
mixes-plain s (suc k) = ap (λ (l : List Bool). false ∷ l) (mixes-plain s k)

-- Q1. Exactly N calls are mixed, including the one that asks for a quality other than the target and the current, and
-- the following calls are plain.
pub exactly : (s : Fade) (q : QualityMode) (k : ℕ) → valid_of s ≡ true → same_q q s.target ≡ false
    → same_q q s.current ≡ false → 0 < s.crossfade_samples
    → mixes_of (turns_of s (replicate (s.crossfade_samples + k) q))
    ≡ replicate s.crossfade_samples true ++ replicate k false
exactly s q k v ht hc l =
    ap (λ (qs : List QualityMode). mixes_of (turns_of s qs))
    (sym (replicate-append-replicate s.crossfade_samples k q))
    ∙ ap mixes_of (fades s q k v ht hc l)
    ∙ map-append (λ t. t.mixed) (ramp_of s.current q s.crossfade_samples 0 s.crossfade_samples)
    (replicate k (plain_turn (open_of q s.crossfade_samples)))
    ∙ rw (
      mixes-ramp s.current q s.crossfade_samples s.crossfade_samples 0,
      mixes-plain (open_of q s.crossfade_samples) k,
    )

-- Q2. At length 0 no call of a run is mixed.
pub never : (s : Fade) (qs : List QualityMode) → s.crossfade_samples ≡ 0
    → mixes_of (turns_of s qs) ≡ replicate (length qs) false
unfolding turns_of
never s [] h = refl
never s (q ∷ qs) h =
    rw (never-mixed s q h) (ap (λ (l : List Bool). false ∷ l) (never (step_of s q).state qs (step-length s q ∙ h)))
