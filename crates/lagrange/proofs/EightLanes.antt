-- Two turns of the inner loop over eight lanes are two factors for each of eight weights. The difference of two nodes
-- depends only on their distance, since whole numbers are subtracted exactly. Assumes nothing.
use mathlib.Core.Path.{◌≡◌, refl, sym, ap, ◌∙◌}
use mathlib.Core.Bool.{Bool, true, false, cond}
use mathlib.Core.List.{List, [], ◌∷◌}
use Prim.Native.Nat.{ℕ, zero, suc, ◌+◌, ◌-◌, ◌<◌, ◌≤◌}
use native.Mathlib.Nat.{le_trans}
use native.Mathlib.Omega.{arith}
use borrow.Author.Tests.{eqb-true, eqb-false, ltb-true, ltb-false, lt-ltb, le-ltb, eq-eqb, ne_eqb}
use lib.Dec.{eqb, ltb, lit≤}
use lib.IntN.{pos, negsuc, sub_ℕ}
use lib.ListN.{get_or}
use lib.Ieee.{Float, nan, binary64, sub, mul, div, of_int}
use Rattle.magnitude.proofs.WholeFloats.{whole-value, whole-difference}
use Rattle.lagrange.specs.Kernel.{num, weight_of}
use Rattle.lagrange_factors.specs.Weight.{floats}
use Rattle.lagrange_factors.proofs.Turns.{none, turn}
use Rattle.lagrange_factors.specs.Lanes.{eight, above_of, below_of, gap_in, lane_of, turned, passed}
use Rattle.lagrange.specs.Eights.{Nodes, Weights}

-- ---- a lane of eight
pub lane : (f : ℕ → Float) (k : ℕ) → k < 8 → get_or (eight f) k nan ≡ f k
lane f zero h = refl
lane f (suc zero) h = refl
lane f (suc (suc zero)) h = refl
lane f (suc (suc (suc zero))) h = refl
lane f (suc (suc (suc (suc zero)))) h = refl
lane f (suc (suc (suc (suc (suc zero))))) h = refl
lane f (suc (suc (suc (suc (suc (suc zero)))))) h = refl
lane f (suc (suc (suc (suc (suc (suc (suc zero))))))) h = refl
lane f (suc (suc (suc (suc (suc (suc (suc (suc k)))))))) h = absurd (omega arith)

pub lanes : (f : ℕ → Float) {a b c d e g h i : Float} → a ≡ f 0 → b ≡ f 1 → c ≡ f 2 → d ≡ f 3 → e ≡ f 4 → g ≡ f 5
    → h ≡ f 6 → i ≡ f 7 → (k : ℕ) → k < 8 → get_or (a ∷ b ∷ c ∷ d ∷ e ∷ g ∷ h ∷ i ∷ []) k nan ≡ f k
lanes f {a} {b} {c} {d} {e} {g} {h} {i} p0 p1 p2 p3 p4 p5 p6 p7 k l =
    let s : (a ∷ b ∷ c ∷ d ∷ e ∷ g ∷ h ∷ i ∷ []) ≡ eight f = cc in
    ap (λ l. get_or l k nan) s ∙ lane f k l

-- ---- the difference of two nodes
shift : (c a b : ℕ) → sub_ℕ a b ≡ sub_ℕ (c + a) (c + b)
shift c a b = go (ltb a b) refl
  where
    go : (t : Bool) → ltb a b ≡ t → cond t (negsuc (b - suc a)) (pos (a - b)) ≡ sub_ℕ (c + a) (c + b)
    go true h = let l = ltb-true a b h in rw (lt-ltb (c + a) (c + b) (omega arith)) (ap negsuc (omega arith))
    go false h = let l = ltb-false a b h in rw (le-ltb (c + a) (c + b) (omega arith)) (ap pos (omega arith))

differ : (a b : ℕ) → a ≤ 32 → b ≤ 32 → sub binary64 (num a) (num b) ≡ of_int binary64 (sub_ℕ a b)
differ a b l m =
    whole-difference binary64 (num a) (num b) a b (whole-value binary64 (pos a) (le_trans l (lit≤ tt)))
    (whole-value binary64 (pos b) (le_trans m (lit≤ tt)))

same_gap : (c a b : ℕ) {a' b' : ℕ} → c + a ≡ a' → c + b ≡ b' → a' ≤ 32 → b' ≤ 32
    → sub binary64 (num a) (num b) ≡ sub binary64 (num a') (num b')
same_gap c a b {a'} {b'} e f l m =
    differ a b (omega arith) (omega arith) ∙ ap (of_int binary64) (shift c a b ∙ rw (e, f)) ∙ sym (differ a' b' l m)

-- ---- one factor, and none at the weight's own node
more : (local : Float) (k j : ℕ) {n : ℕ} {w x d : Float} → (j ≡ k → ⊥) → j + 1 ≡ n
    → w ≡ weight_of j local k → x ≡ sub binary64 local (num j) → d ≡ sub binary64 (num k) (num j)
    → mul binary64 w (div binary64 x d) ≡ weight_of n local k
more local k j h e p q r = turn floats local k j p (rw (ne_eqb j k h, q, r)) ∙ ap (λ (m : ℕ). weight_of m local k) e

own-skipped : (local : Float) (k j : ℕ) {n : ℕ} {w : Float} → j ≡ k → j + 1 ≡ n
    → w ≡ weight_of j local k → w ≡ weight_of n local k
own-skipped local k j h e p = turn floats local k j p (rw (eq-eqb j k h)) ∙ ap (λ (m : ℕ). weight_of m local k) e

module _ (local : Float) (first : ℕ) (small : first ≤ 16) (own : List Float) (nodes : Nodes first own) where
  gap : (k j : ℕ) → k < 8 → j < 8
      → gap_in (above_of own) (below_of own) k j ≡ sub binary64 (num (first + k)) (num (first + j))
  gap k j h l = go (ltb k j) refl
    where
      go : (t : Bool) → ltb k j ≡ t
          → cond t (get_or (below_of own) (j - k) nan) (get_or (above_of own) (k - j) nan)
          ≡ sub binary64 (num (first + k)) (num (first + j))
      go true e =
          let b = ltb-true k j e in
          lane (λ i. sub binary64 (get_or own 0 nan) (get_or own i nan)) (j - k) (omega arith)
          ∙ rw (nodes.node 0 (omega arith), nodes.node (j - k) (omega arith))
          (same_gap k (first + 0) (first + (j - k)) (omega arith) (omega arith) (omega arith) (omega arith))
      go false e =
          let b = ltb-false k j e in
          lane (λ i. sub binary64 (get_or own i nan) (get_or own 0 nan)) (k - j) (omega arith)
          ∙ rw (nodes.node (k - j) (omega arith), nodes.node 0 (omega arith))
          (same_gap j (first + (k - j)) (first + 0) (omega arith) (omega arith) (omega arith) (omega arith))

  -- ---- two nodes of the eight
  module _ (p : ℕ) (inside : p + 1 < 8) (a b : Float) (da : a ≡ sub binary64 local (get_or own p nan))
      (db : b ≡ sub binary64 local (get_or own (p + 1) nan)) (w : List Float)
      (ws : Weights local first (first + p) w) where
    at_p : a ≡ sub binary64 local (num (first + p))
    at_p = da ∙ ap (sub binary64 local) (nodes.node p (omega arith))

    at_next : b ≡ sub binary64 local (num (first + (p + 1)))
    at_next = db ∙ ap (sub binary64 local) (nodes.node (p + 1) inside)

    two : (k : ℕ) → k < 8 → lane_of (above_of own) (below_of own) a b p w k
        ≡ weight_of (first + (p + 2)) local (first + k)
    two k h = go (eqb k p) (eqb k (p + 1)) refl refl
      where
        go : (s t : Bool) → eqb k p ≡ s → eqb k (p + 1) ≡ t
            → cond s (mul binary64 (get_or w k nan) (div binary64 b (gap_in (above_of own) (below_of own) k (p + 1))))
            (cond t (mul binary64 (get_or w k nan) (div binary64 a (gap_in (above_of own) (below_of own) k p)))
            (mul binary64 (mul binary64 (get_or w k nan) (div binary64 a (gap_in (above_of own) (below_of own) k p)))
            (div binary64 b (gap_in (above_of own) (below_of own) k (p + 1)))))
            ≡ weight_of (first + (p + 2)) local (first + k)
        go true t e f =
            let i = eqb-true k p e in
            more local (first + k) (first + (p + 1)) (λ z. omega arith) (omega arith)
            (own-skipped local (first + k) (first + p) (omega arith) (omega arith) (ws.weight k h)) at_next
            (gap k (p + 1) h inside)
        go false true e f =
            let i = eqb-true k (p + 1) f in
            own-skipped local (first + k) (first + (p + 1)) (omega arith) (omega arith)
            (more local (first + k) (first + p) (λ z. omega arith) (omega arith) (ws.weight k h) at_p
            (gap k p h (omega arith)))
        go false false e f =
            let i = eqb-false k p e in
            let j = eqb-false k (p + 1) f in
            more local (first + k) (first + (p + 1)) (λ z. j (omega arith)) (omega arith)
            (more local (first + k) (first + p) (λ z. i (omega arith)) (omega arith) (ws.weight k h) at_p
            (gap k p h (omega arith)))
            at_next (gap k (p + 1) h inside)

    pub pair : {r : List Float} → r ≡ turned (above_of own) (below_of own) a b p w
        → Weights local first (first + (p + 2)) r
    pair e =
        record {
          weight =
              λ k h. ap (λ l. get_or l k nan) e ∙ lane (lane_of (above_of own) (below_of own) a b p w) k h ∙ two k h;
        }

  -- ---- two other nodes
  module _ (j : ℕ) (away : (k : ℕ) → k < 8 → (j ≡ first + k → ⊥) × (j + 1 ≡ first + k → ⊥)) (other next : Float)
      (o : other ≡ num j) (x : next ≡ num (j + 1)) (w : List Float) (ws : Weights local first j w) where
    pub pass : {r : List Float} → r ≡ passed own other next (sub binary64 local other) (sub binary64 local next) w
        → Weights local first (j + 2) r
    pass e =
        record {
          weight = λ k h.
              ap (λ l. get_or l k nan) e
              ∙ lane (λ i. mul binary64 (mul binary64 (get_or w i nan)
              (div binary64 (sub binary64 local other) (sub binary64 (get_or own i nan) other)))
              (div binary64 (sub binary64 local next) (sub binary64 (get_or own i nan) next))) k h
              ∙ more local (first + k) (j + 1) {d = sub binary64 (get_or own k nan) next} (away k h).1 (omega arith)
              (more local (first + k) j {d = sub binary64 (get_or own k nan) other} (away k h).0 refl (ws.weight k h)
              (ap (sub binary64 local) o) (rw (nodes.node k h, o)))
              (ap (sub binary64 local) x) (rw (nodes.node k h, x));
        }

-- ---- before any factor
pub ones : (local : Float) (first : ℕ) {o : Float} → o ≡ floats.one → Weights local first 0 (eight (λ k. o))
ones local first {o} e = record { weight = λ k h. lane (λ k. o) k h ∙ e ∙ none floats local (first + k) }
