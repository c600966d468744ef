-- Parts of a chain follow one another, and a loop over them ends. Assumes nothing.
use Rattle.std.proofs.Common.{◌≡◌, ℕ, ◌+◌, ◌-◌, ◌<◌, ◌≤◌, T, List, sym, ◌∙◌, subst, inl, inr, arith}
use lib.Ieee.{Float, binary32, fits}
use Rattle.loop_laws.proofs.Folds.{turn, none}
use Rattle.rounding.specs.Operations.{narrowed}
use Rattle.rounding.proofs.NumberOrders.{lt-or-ge}
use Rattle.rounding.proofs.Fusing.{fused-fits}
use Rattle.rounding.proofs.RoundsToItself.{narrowed-own}
use Rattle.fused_chain.specs.Chain.{turn_of, chain_of}
use Rattle.fused_chain.specs.Blocks.{Carries}

-- After a run up to r and then some turns up to e, fewer turns are left.
pub less : (k r e n : ℕ) → k < n → k ≤ r → r ≤ n → r ≤ e → e ≤ n → (r < n → r < e) → n - e < n - k
less k r e n a b c d f g = elim (lt-or-ge r n) [
  | inl l ↦ let x : r < e = g l in omega arith
  | inr l ↦ omega arith
]

module _ (xs row0 row1 : List Float) (blend : Float) where
  pub stay : (k : ℕ) (s : Float) → T (fits binary32 s) → Carries xs row0 row1 blend k k s s
  stay k s h = record { held = h; is = λ a e. e }

  pub on : {i j k : ℕ} {a b c : Float} → Carries xs row0 row1 blend i j a b → Carries xs row0 row1 blend j k b c
      → Carries xs row0 row1 blend i k a c
  on p q = record { held = q.held; is = λ z e. q.is z (p.is z e) }

  pub once : (k j : ℕ) (s r : Float) → k + 1 ≡ j → r ≡ turn_of xs row0 row1 blend k s
      → Carries xs row0 row1 blend k j s r
  once k j s r e h = record {
    held = subst (λ (z : Float). T (fits binary32 z)) (sym h) (fused-fits binary32 _ _ _);
    is =
        λ a is. subst (λ (z : ℕ). r ≡ chain_of xs row0 row1 blend a z) e
        (turn (turn_of xs row0 row1 blend) a k s r is h);
  }

  -- If all turns are carried from the start, narrowing the sum changes nothing, because it already is an f32.
  pub whole : (n : ℕ) (a s r : Float) → r ≡ narrowed s → Carries xs row0 row1 blend 0 n a s
      → r ≡ chain_of xs row0 row1 blend a n
  whole n a s r e h = e ∙ narrowed-own s h.held ∙ h.is a (none (turn_of xs row0 row1 blend) a)
