-- W10. A loop over the table: the entries that are left give the same answer as all, for any function of the entries;
-- and all are small if each is. Assumes nothing.
use mathlib.Core.Path.{◌≡◌, refl, ap, ◌∙◌}
use mathlib.Core.Bool.{Bool, ◌&&◌}
use mathlib.Core.List.{List, [], ◌∷◌}
use Prim.Native.Nat.{ℕ, zero, suc, ◌+◌, ◌-◌, ◌*◌, ◌≤◌, ◌<◌}
use native.Mathlib.Omega.{arith}
use lib.Dec.{leb}
use Rattle.std.specs.List.{list_all, range_with_len}
use Rattle.true_sizes.specs.declared.Entry.{Entry}
use Rattle.true_sizes.specs.Sizes.{largest, entry_at, entries_from, all_small}

-- The entries behind the first k of n give the same answer as all n.
abbrev pub Left : {T : Type 0} → (List Entry → T) → List ℕ → ℕ → ℕ → Type 0
Left ask b n k = ask (entries_from b n 48) ≡ ask (entries_from b (n - k) (48 + 12 * k))

module _ {T : Type 0} (ask : List Entry → T) (b : List ℕ) (n k : ℕ) (l : Left ask b n k) where
  pub at_next : k < n
      → ask (entries_from b n 48) ≡ ask (entry_at b (48 + 12 * k) ∷ entries_from b (n - (k + 1)) (48 + 12 * (k + 1)))
  unfolding entries_from
  at_next h =
      let e : n - k ≡ suc (n - (k + 1)) = omega arith in
      let f : 48 + 12 * k + 12 ≡ 48 + 12 * (k + 1) = omega arith in
      l ∙ ap (λ (m : ℕ). ask (entries_from b m (48 + 12 * k))) e
      ∙ ap (λ (at : ℕ). ask (entry_at b (48 + 12 * k) ∷ entries_from b (n - (k + 1)) at)) f

  pub all-passed : n ≤ k → ask (entries_from b n 48) ≡ ask []
  unfolding entries_from
  all-passed h =
      let e : n - k ≡ 0 = omega arith in
      l ∙ ap (λ (m : ℕ). ask (entries_from b m (48 + 12 * k))) e

-- Entry k, counted from 0, is small.
abbrev pub is_small : List ℕ → ℕ → Bool
is_small b k = leb (entry_at b (48 + 12 * k)).size largest

pub each-small : (b : List ℕ) (n k : ℕ)
    → list_all (is_small b) (range_with_len k n) ≡ all_small (entries_from b n (48 + 12 * k))
unfolding entries_from all_small
each-small b zero k = refl
each-small b (suc n) k =
    let f : 48 + 12 * (k + 1) ≡ 48 + 12 * k + 12 = omega arith in
    ap (λ (t : Bool). is_small b k && t)
    (each-small b n (k + 1) ∙ ap (λ (at : ℕ). all_small (entries_from b n at)) f)
