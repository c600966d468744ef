-- W3f. A stretch at rest may be handed to a stretch of a plain reader: item by item both are refused by the same
-- number, or store and read the same. Assumes nothing.
use mathlib.Core.Path.{◌≡◌, refl, sym, ap, ◌∙◌}
use mathlib.Core.Bool.{true}
use mathlib.Core.List.{List}
use mathlib.Core.Logic.{⊎_elim}
use Prim.Native.Nat.{ℕ, zero, suc, ◌+◌, ◌≤◌, ◌<◌}
use native.Mathlib.Nat.{eq-or-lt_of_le}
use native.Mathlib.Omega.{arith}
use lib.ListN.{length, get_or, set}
use lib.Ieee.{Float, nan}
use Rattle.bank_choice.specs.Inner.{choice_of}
use Rattle.bank_read.specs.Inner.{read_of}
use Rattle.quality_mode.specs.declared.QualityMode.{QualityMode}
use Rattle.variable_delay.specs.Reader.{stored, position_of}
use Rattle.variable_delay.specs.declared.VariableDelay.{VariableDelay}
use Rattle.quality_variable_delay.specs.declared.QualityVariableDelayF32.{QualityVariableDelayF32}
use Rattle.stretch.specs.Stretch.{stretch_of}
use Rattle.stretch_call.specs.Items as plain
use Rattle.stretch_call.specs.Items.{item_due}
use Rattle.stretch_call.specs.declared.StretchAnswer.{StretchAnswer}
use Rattle.stretch_call.proofs.Items.{with_count}
use Rattle.stretch_call.proofs.Loops.{answer}
use Rattle.quality_stretch.specs.Reader.{call_of, leaves, left_by}
use Rattle.quality_stretch.specs.Inner.{at_rest, at_count, Ready}
use Rattle.quality_stretch.proofs.AtRest as turns

abbrev pub plainly : QualityVariableDelayF32 → VariableDelay
plainly d = record { maximum = d.maximum; margin = d.margin; accepted = d.accepted }

module _ (sets : List Float) (max-rate : Float) (q : QualityMode) (rate : Float) (d : QualityVariableDelayF32)
    (ring₀ xs ds out₀ : List Float) where
  -- What the quality reads for the item at the place k, after i accepted samples.
  abbrev pub heard : List Float → ℕ → ℕ → Float
  heard ring i k =
      read_of (choice_of max-rate rate) q sets (stored i ring (get_or xs k nan)) (i + 1)
      (position_of i (get_or ds k nan))

  -- The other stretch, which leaves `left`: what holds of it before each item, and that its items give what these give.
  pub record Beside (left : plain.Left) : Type 1 where
    pub On : List Float → List Float → ℕ → ℕ → Type 0
    pub begun : On ring₀ out₀ d.accepted 0
    pub ended : {ring out : List Float} {i k : ℕ} → On ring out i k → length xs ≤ k
        → plain.leaves (answer (with_count (plainly d) i) k 0) ring out ≡ left
    pub next : {ring out : List Float} {i k : ℕ} → On ring out i k → k < length xs
        → item_due i (get_or xs k nan) (get_or ds k nan) ≡ 0
        → On (stored i ring (get_or xs k nan)) (set out k (heard ring i k)) (i + 1) (k + 1)
    pub stopped : {ring out : List Float} {i k : ℕ} → On ring out i k → k < length xs → (n : ℕ)
        → item_due i (get_or xs k nan) (get_or ds k nan) ≡ suc n
        → plain.leaves (answer (with_count (plainly d) i) k (suc n)) ring out ≡ left

  module _ {left : plain.Left} (other : Beside left) where
    -- Where both stretches end.
    record Agree : Type 0 where
      ring : List Float
      out : List Float
      i : ℕ
      k : ℕ
      n : ℕ
      theirs : plain.leaves (answer (with_count (plainly d) i) k n) ring out ≡ left
      ours : leaves (turns.answer (at_count d i) k n) ring out
          ≡ left_by out₀ (stretch_of (call_of sets max-rate q rate) d ring₀ xs ds)

    abbrev Ours : List Float → List Float → ℕ → ℕ → Type 0
    Ours = turns.On sets max-rate q rate d ring₀ xs ds out₀

    at-end : {ring out : List Float} {i k : ℕ} → length xs ≤ k → Ours ring out i k → other.On ring out i k → Agree
    at-end {ring} {out} {i} {k} h g t =
        record {
          ring = ring;
          out = out;
          i = i;
          k = k;
          n = 0;
          theirs = other.ended t h;
          ours = turns.at-end sets max-rate q rate d ring₀ xs ds out₀ g h;
        }

    go : (f : ℕ) (ring out : List Float) (i k : ℕ) → length xs ≤ k + f → Ours ring out i k → other.On ring out i k
        → Agree
    go zero ring out i k l g t = at-end (omega (arith, l)) g t
    go (suc f) ring out i k l g t =
        ⊎_elim (λ (e : k ≡ length xs). at-end (omega (arith, e)) g t)
        (λ (h : k < length xs). by (go f) h (item_due i (get_or xs k nan) (get_or ds k nan)) refl)
        (eq-or-lt_of_le {n = k} {m = length xs} g.place)
      where
        by : ((ring out : List Float) (i k : ℕ) → length xs ≤ k + f → Ours ring out i k → other.On ring out i k
            → Agree)
            → k < length xs → (n : ℕ) → n ≡ item_due i (get_or xs k nan) (get_or ds k nan) → Agree
        by more h zero e =
            more _ _ (i + 1) (k + 1) (omega (arith, l))
            (turns.goes_on sets max-rate q rate d ring₀ xs ds out₀ g nan h refl {s = heard ring i k}
            (e, ((λ z. refl), rw (← e))) refl)
            (other.next t h (sym e))
        by more h (suc m) e =
            record {
              ring = ring;
              out = out;
              i = i;
              k = k;
              n = suc m;
              theirs = other.stopped t h m (sym e);
              ours =
                  turns.ends sets max-rate q rate d ring₀ xs ds out₀ g nan h refl {s = nan}
                  (e, ((λ z. absurd (omega (arith, z))), rw (← e))) (λ z. omega (arith, z));
            }

    -- What the other stretch answers and leaves is what this one has to.
    pub handed_over : Ready sets max-rate q rate d (length ring₀) → at_rest d q rate ≡ true → length ds ≡ length xs
        → length out₀ ≡ length xs → {r : StretchAnswer} {ys o : List Float} → plain.leaves r ys o ≡ left
        → leaves (turns.answer (at_count d r.state.accepted) r.done r.refusal) ys o
        ≡ left_by out₀ (stretch_of (call_of sets max-rate q rate) d ring₀ xs ds)
    handed_over ready rests alike room e =
        let a =
        go (length xs) ring₀ out₀ d.accepted 0 (omega arith)
        (turns.starts sets max-rate q rate d ring₀ xs ds out₀ ready rests alike room) other.begun in
        let f = e ∙ sym a.theirs in
        rw (
          ap (λ (z : plain.Left). z.answer.state.accepted) f,
          ap (λ (z : plain.Left). z.answer.done) f,
          ap (λ (z : plain.Left). z.answer.refusal) f,
          ap (λ (z : plain.Left). z.ring) f,
          ap (λ (z : plain.Left). z.out) f,
        ) a.ours
