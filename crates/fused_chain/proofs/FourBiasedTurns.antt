-- Four turns of a biased sum. Assumes nothing.
use Rattle.std.proofs.Common.{◌≡◌, ℕ, ◌+◌, ◌≤◌, true, List, get_or, sym, refl, subst, arith}
use lib.Ieee.{Float, nan, binary64, add, sub, lt}
use Rattle.biased_sum.specs.Biased.{Biased}
use Rattle.biased_sum.specs.Sums.{Between, Advanced}
use Rattle.biased_sum.proofs.Steps.{step, back}
use Rattle.fused_chain.specs.Chain.{coefficient_of, turn_of}
use Rattle.fused_chain.specs.Blocks.{Carries, Runs, Product, TapProduct, Multiplied}
use Rattle.fused_chain.proofs.ChainParts.{on, once}

-- The product with equal factors in the place of its own.
pub renamed : {x y c d p : Float} → x ≡ y → c ≡ d → Product x c p → Product y d p
renamed {x} {y} {c} {d} {p} e f h = subst (λ (z : Float). Product y z p) f (subst (λ (z : Float). Product z c p) e h)

module _ (xs row0 row1 : List Float) (blend bias low high : Float) where
  -- ---- one turn
  one : (k : ℕ) (p s q : Float) → TapProduct xs row0 row1 blend k p → Between low high p s → Biased bias low high s q
      → Biased bias low high (add binary64 p s) (turn_of xs row0 row1 blend k q)
  one k p s q h b B =
      let x = get_or xs k nan in
      let c = coefficient_of blend (get_or row0 k nan) (get_or row1 k nan) in
      subst (λ (z : Float). Biased bias low high (add binary64 z s) (turn_of xs row0 row1 blend k q)) (sym h.is)
      (step bias low high s q B x c h.sample h.coefficient
      (subst (λ (z : Float). lt low (add binary64 z s) ≡ true) h.is b.lower)
      (subst (λ (z : Float). lt (add binary64 z s) high ≡ true) h.is b.upper))

  -- The sum q for which a biased sum s stands, from a chain's start on.
  abbrev pub Stands : ℕ → Float → ℕ → Float → Type 0
  Stands from sum k s = (q : Float) × (Biased bias low high s q) × (Carries xs row0 row1 blend from k sum q)

  pub four : (from : ℕ) (sum : Float) (k : ℕ) (s a b c d r : Float) → Multiplied xs row0 row1 blend k a b c d
      → Advanced low high s a b c d r → Stands from sum k s → Stands from sum (k + 4) r
  four from sum k s a b c d r M A (q, B, C) =
      let q1 = turn_of xs row0 row1 blend k q in
      let q2 = turn_of xs row0 row1 blend (k + 1) q1 in
      let q3 = turn_of xs row0 row1 blend (k + 2) q2 in
      let q4 = turn_of xs row0 row1 blend (k + 3) q3 in
      let s1 = add binary64 a s in
      let s2 = add binary64 b s1 in
      let s3 = add binary64 c s2 in
      let B1 = one k a s q M.first A.first B in
      let B2 = one (k + 1) b s1 q1 M.second A.second B1 in
      let B3 = one (k + 2) c s2 q2 M.third A.third B2 in
      let B4 = one (k + 3) d s3 q3 M.fourth A.fourth B3 in
      let C1 = once xs row0 row1 blend k (k + 1) q q1 refl refl in
      let C2 = once xs row0 row1 blend (k + 1) (k + 2) q1 q2 (omega arith) refl in
      let C3 = once xs row0 row1 blend (k + 2) (k + 3) q2 q3 (omega arith) refl in
      let C4 = once xs row0 row1 blend (k + 3) (k + 4) q3 q4 (omega arith) refl in (
        q4,
        subst (λ (z : Float). Biased bias low high z q4) (sym A.is) B4,
        on xs row0 row1 blend (on xs row0 row1 blend (on xs row0 row1 blend (on xs row0 row1 blend C C1) C2) C3) C4,
      )

  -- ---- what it stands for comes back
  pub ended : (from to : ℕ) (sum : Float) (k : ℕ) (s : Float) → from ≤ k → k ≤ to → Stands from sum k s
      → Runs xs row0 row1 blend from to sum k (sub binary64 s bias)
  ended from to sum k s a b (q, B, C) =
      record {
        first = a;
        last = b;
        carried = subst (λ (z : Float). Carries xs row0 row1 blend from k sum z) (sym (back bias low high s q B)) C;
      }
