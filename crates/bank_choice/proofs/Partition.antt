-- The first set that is not slower, from what is known of it: every set before it is slower, and it is not, or there is
-- none left. Assumes nothing.
use Rattle.std.proofs.Common.{
  ◌≡◌,
  ℕ,
  zero,
  suc,
  ◌+◌,
  ◌<◌,
  ◌≤◌,
  Bool,
  true,
  false,
  cond,
  sym,
  ap,
  ◌∙◌,
  inl,
  inr,
  eq-or-lt_of_le,
  arith,
}
use Rattle.bank_choice.specs.Choosing.{first_from}

module _ (slower : ℕ → Bool) where
  -- All sets from k to p are slower, and p is the end or is not slower.
  found_from : (k n p : ℕ) → k ≤ p → p ≤ k + n → ((j : ℕ) → k ≤ j → j < p → slower j ≡ true)
      → (p < k + n → slower p ≡ false) → p ≡ first_from slower k n
  unfolding first_from
  found_from k zero p a b h e = omega arith
  found_from k (suc n) p a b h e = elim (eq-or-lt_of_le a) [
    | inl q ↦ let s : slower k ≡ false = ap slower q ∙ e (omega arith) in rw s (sym q)
    | inr l ↦ let s = h k (omega arith) l in
        rw s (found_from (suc k) n p l (omega arith) (λ j c d. h j (omega arith) d) (λ d. e (omega arith)))
  ]

  pub found : (n p : ℕ) → p ≤ n → ((j : ℕ) → j < p → slower j ≡ true) → (p < n → slower p ≡ false)
      → p ≡ first_from slower 0 n
  found n p b h e = found_from 0 n p (omega arith) (omega arith) (λ j c d. h j d) (λ d. e (omega arith))

  bound-from : (k n : ℕ) → first_from slower k n ≤ k + n
  unfolding first_from
  bound-from k zero = omega arith
  bound-from k (suc n) = go (slower k) (bound-from (suc k) n)
    where
      go : (b : Bool) → first_from slower (suc k) n ≤ suc k + n → cond b (first_from slower (suc k) n) k ≤ k + suc n
      go true h = omega arith
      go false h = omega arith

  pub bound : (n : ℕ) → first_from slower 0 n ≤ n
  bound n = omega (arith, bound-from 0 n)

  later-from : (k n : ℕ) → k ≤ first_from slower k n
  unfolding first_from
  later-from k zero = omega arith
  later-from k (suc n) = go (slower k) (later-from (suc k) n)
    where
      go : (b : Bool) → suc k ≤ first_from slower (suc k) n → k ≤ cond b (first_from slower (suc k) n) k
      go true h = omega arith
      go false h = omega arith

  -- If all sets before p are slower, it is p or later.
  reached-from : (k n p : ℕ) → k ≤ p → p ≤ k + n → ((j : ℕ) → k ≤ j → j < p → slower j ≡ true)
      → p ≤ first_from slower k n
  unfolding first_from
  reached-from k zero p a b h = omega arith
  reached-from k (suc n) p a b h = elim (eq-or-lt_of_le a) [
    | inl q ↦ rw (← q) (later-from k (suc n))
    | inr l ↦ let s = h k (omega arith) l in
        rw s (reached-from (suc k) n p l (omega arith) (λ j c d. h j (omega arith) d))
  ]

  pub reached : (n p : ℕ) → p ≤ n → ((j : ℕ) → j < p → slower j ≡ true) → p ≤ first_from slower 0 n
  reached n p b h = reached-from 0 n p (omega arith) (omega arith) (λ j c d. h j d)
