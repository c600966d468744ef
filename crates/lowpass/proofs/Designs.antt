-- What a design leaves, and what it gives with an answer of 0. Assumes nothing.
use borrow.Author.Tests.{eq-eqb, ne_eqb, eqb-true}
use mathlib.Core.Path.{◌≡◌, refl, ◌∙◌, ap}
use mathlib.Core.Bool.{Bool, true, false, cond}
use mathlib.Core.List.{List, map}
use Prim.Native.Nat.{ℕ}
use native.Mathlib.Omega.{arith}
use lib.Dec.{eqb}
use lib.ListN.{length}
use lib.Ieee.{Float, binary64, div}
use Rattle.loop_laws.specs.Loops.{list_of}
use Rattle.loop_laws.proofs.Mapped.{map-list}
use Rattle.filter_settings.specs.Ranges.{design_ok, design_verdict}
use Rattle.lowpass.specs.Design.{raw_of, gain_of, lowpass_of, designed}

pub record Accepted (taps : ℕ) (cutoff beta : Float) (len : ℕ) : Type 0 where
  pub settings : design_ok taps cutoff beta ≡ true
  pub long : len ≡ taps

pub accepted : (taps : ℕ) (cutoff beta : Float) (len : ℕ) → design_verdict taps cutoff beta len ≡ 0
    → Accepted taps cutoff beta len
accepted taps cutoff beta len h = go (design_ok taps cutoff beta) (eqb len taps) refl refl h
  where
    go : (a b : Bool) → design_ok taps cutoff beta ≡ a → eqb len taps ≡ b → ◌≡◌ {A = ℕ} (cond a (cond b 0 2) 1) 0
        → Accepted taps cutoff beta len
    go true true p q e = record { settings = p; long = eqb-true len taps q }
    go true false p q e = absurd (omega arith)
    go false b p q e = absurd (omega arith)

-- The lent slice after a refusal, and after a design.
pub refused : (taps : ℕ) (cutoff beta : Float) (xs : List Float) (n : ℕ)
    → n ≡ design_verdict taps cutoff beta (length xs) → (n ≡ 0 → ⊥) → xs ≡ designed taps cutoff beta xs
refused taps cutoff beta xs n e h =
    let z : eqb (design_verdict taps cutoff beta (length xs)) 0 ≡ false = ne_eqb _ 0 (λ q. h (e ∙ q)) in rw z

pub written : (taps : ℕ) (cutoff beta : Float) (xs ys zs : List Float) (gain : Float)
    → design_verdict taps cutoff beta (length xs) ≡ 0 → gain ≡ gain_of taps cutoff beta taps
    → ys ≡ list_of (raw_of taps cutoff beta) taps → zs ≡ map (λ (x : Float). div binary64 x gain) ys
    → zs ≡ designed taps cutoff beta xs
unfolding lowpass_of
written taps cutoff beta xs ys zs gain v g e h =
    let z : eqb (design_verdict taps cutoff beta (length xs)) 0 ≡ true = eq-eqb _ 0 v in
    rw z
    (h
    ∙ ap (map (λ (x : Float). div binary64 x gain)) e
    ∙ ap (λ (g : Float). map (λ (x : Float). div binary64 x g) (list_of (raw_of taps cutoff beta) taps)) g
    ∙ map-list (λ (x : Float). div binary64 x (gain_of taps cutoff beta taps)) (raw_of taps cutoff beta) taps)
