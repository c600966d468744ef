-- One channel at the middle 512 with the default settings becomes what the program `render` writes for it, as long as
-- no sample is refused. By induction over the samples, on the definitions. Assumes nothing.
use mathlib.Core.Path.{◌≡◌, refl, sym, ap, ◌∙◌}
use mathlib.Core.Bool.{false}
use mathlib.Core.List.{List, [], ◌∷◌, ◌++◌}
use Prim.Native.Nat.{ℕ, zero, suc}
use native.Mathlib.Omega.{arith}
use lib.IntN.{pos}
use lib.ListN.{length}
use lib.Ieee.{Float, fin}
use Rattle.loop_laws.specs.Loops.{list_of}
use Rattle.loop_laws.proofs.Lists.{same-list}
use Rattle.modulation.specs.Step.{next_of}
use Rattle.modulation_params.specs.Settings.{default_params}
use Rattle.modulation_params.specs.declared.ModulationParams.{ModulationParams}
use Rattle.modulation_engine.specs.declared.ModulationEngine.{ModulationEngine}
use Rattle.modulation_sample.specs.declared.Offset.{Offset}
use Rattle.modulation_sample.specs.declared.Offset.TheVariants.{Delay, Refused}
use Rattle.variable_delay.specs.declared.VariableDelay.{VariableDelay}
use Rattle.render_samples.specs.Samples.{Held, delay_of, delay_for, due_for, sample_for, after_sample, answers_for}
use Rattle.stretch.specs.Stretch.{Ran, and_then, stretch_of}
use Rattle.imitation.specs.Reading.{call_of, heard}
use Rattle.imitation.specs.Delays.{left_of, turned_by, offset_at, left_delays}

list-first : (f : ℕ → Float) (n : ℕ) → list_of f (suc n) ≡ f 0 ∷ list_of (λ (k : ℕ). f (suc k)) n
unfolding list_of
list-first f zero = refl
list-first f (suc n) = ap (λ (t : List Float). t ++ (f (suc n) ∷ [])) (list-first f n)

turned-first : (params : ModulationParams) (e : ModulationEngine) (k : ℕ)
    → turned_by params e (suc k) ≡ turned_by params (next_of e params).engine k
unfolding turned_by
turned-first params e zero = refl
turned-first params e (suc k) = ap (λ (f : ModulationEngine). (next_of f params).engine) (turned-first params e k)

-- The delays behind the first frame are those of the engine after it.
delays-behind : (params : ModulationParams) (m : Float) (e : ModulationEngine) (n : ℕ)
    → left_delays params m e (suc n)
    ≡ left_of m (next_of e params).offset ∷ left_delays params m (next_of e params).engine n
unfolding turned_by
delays-behind params m e n =
    list-first (λ (k : ℕ). left_of m (offset_at params e k)) n
    ∙ ap (λ (t : List Float). left_of m (next_of e params).offset ∷ t)
    (same-list _ _ n (λ k l. ap (λ (f : ModulationEngine). left_of m (next_of f params).offset)
    (turned-first params e k)))

abbrev middle : Float
middle = fin false 1 (pos 9)

same-delay : (o : Offset) → left_of middle o ≡ delay_of o
same-delay (Delay d) = refl
same-delay (Refused k) = refl

module _ (table : List Float) where
  -- The channel whose reader, ring and engine a rendering holds.
  abbrev pub imitated : Held → List Float → Ran VariableDelay
  imitated h xs =
      heard table h.state.reader h.ring xs (left_delays default_params middle h.state.engine (length xs))

  -- The first sample, and those behind it.
  first-behind : (h : Held) (x : Float) (xs : List Float) → due_for table h x ≡ 0
      → imitated h (x ∷ xs)
      ≡ and_then 0 (call_of table h.state.reader h.ring x (delay_for h)) (imitated (after_sample table h x) xs)
  unfolding stretch_of call_of
  first-behind h x xs e =
      rw (
        delays-behind default_params middle h.state.engine (length xs),
        same-delay (next_of h.state.engine default_params).offset,
        e,
      )

  refused-first : (h : Held) (x : Float) (xs : List Float) (k : ℕ) → due_for table h x ≡ suc k
      → (imitated h (x ∷ xs)).number ≡ suc k
  unfolding stretch_of call_of
  refused-first h x xs k e =
      rw (
        delays-behind default_params middle h.state.engine (length xs),
        same-delay (next_of h.state.engine default_params).offset,
        e,
      )

  same-sample : (h : Held) (x : Float)
      → (call_of table h.state.reader h.ring x (delay_for h)).sample ≡ sample_for table h x
  unfolding call_of
  same-sample h x = refl

  pub as-render : (h : Held) (xs : List Float) → (imitated h xs).number ≡ 0
      → (imitated h xs).samples ≡ answers_for table h xs
  unfolding stretch_of answers_for
  as-render h [] z = refl
  as-render h (x ∷ xs) z = by (due_for table h x) refl (as-render (after_sample table h x) xs)
    where
      g : Held
      g = after_sample table h x

      by : (v : ℕ) → due_for table h x ≡ v → ((imitated g xs).number ≡ 0
          → (imitated g xs).samples ≡ answers_for table g xs)
          → (imitated h (x ∷ xs)).samples ≡ answers_for table h (x ∷ xs)
      by zero e rest =
          let f = first-behind h x xs e in
          ap (λ (r : Ran VariableDelay). r.samples) f
          ∙ rw (same-sample h x, rest (ap (λ (r : Ran VariableDelay). r.number) (sym f) ∙ z))
      by (suc k) e rest = absurd (omega (arith, refused-first h x xs k e, z))
