-- W10. Entries behind the lent bytes are zeros, and the first of several such entries gives the same answer as all of
-- them. So a loop over the table reads at most two entries behind the last whole one. Assumes nothing.
use mathlib.Core.Path.{◌≡◌, refl, sym, ap, ◌∙◌}
use mathlib.Core.Bool.{Bool, true, false, cond, ◌&&◌}
use mathlib.Core.List.{List, [], ◌∷◌}
use Prim.Native.Nat.{ℕ, zero, suc, ◌+◌, ◌-◌, ◌*◌, ◌/◌, ◌≤◌, min}
use native.Mathlib.Nat.{min-eq_left, min-eq_right}
use native.Mathlib.Omega.{arith}
use borrow.Author.Tests.{leb-true, leb-false}
use lib.Dec.{eqb, leb}
use lib.ListN.{length, take, drop_of_length-le}
use Rattle.word_bytes.specs.Bytes.{bytes_value}
use Rattle.wav_format.specs.Format.{number}
use Rattle.true_sizes.specs.declared.Entry.{Entry}
use Rattle.true_sizes.specs.Sizes.{largest, entry_at, entries_from, size_in, all_small}

-- An entry of which no byte is lent.
abbrev blank : Entry
blank = record { id = 0; size = 0 }

module _ (b : List ℕ) where
  nothing : (k at : ℕ) → length b ≤ at → number k b at ≡ 0
  unfolding bytes_value
  nothing k at h = rw (drop_of_length-le b {i = at} h) (empty k)
    where
      empty : (k : ℕ) → bytes_value (take k []) ≡ 0
      empty zero = refl
      empty (suc k) = refl

  entry-blank : (at : ℕ) → length b ≤ at → entry_at b at ≡ blank
  entry-blank at h = rw (nothing 4 at h, nothing 8 (at + 4) (omega arith))

  -- Let `ask` be a fold over the entries, for which a second blank entry changes nothing.
  module _ {T : Type 0} (ask : List Entry → T) (put : Entry → T → T)
      (folds : (e : Entry) (es : List Entry) → ask (e ∷ es) ≡ put e (ask es))
      (once : (t : T) → put blank (put blank t) ≡ put blank t) where
    all-blank : (n at : ℕ) → length b ≤ at → ask (entries_from b (suc n) at) ≡ put blank (ask [])
    unfolding entries_from
    all-blank zero at h = folds (entry_at b at) [] ∙ ap (λ (e : Entry). put e (ask [])) (entry-blank at h)
    all-blank (suc n) at h =
        folds (entry_at b at) (entries_from b (suc n) (at + 12))
        ∙ ap (λ (e : Entry). put e (ask (entries_from b (suc n) (at + 12)))) (entry-blank at h)
        ∙ ap (put blank) (all-blank n (at + 12) (omega arith))
        ∙ once (ask [])

    cut : (m n at : ℕ) → m ≤ n → length b ≤ at + 12 * m
        → ask (entries_from b (suc n) at) ≡ ask (entries_from b (suc m) at)
    unfolding entries_from
    cut zero n at s h = all-blank n at (omega arith) ∙ sym (all-blank zero at (omega arith))
    cut (suc m) zero at s h = absurd (omega arith)
    cut (suc m) (suc n) at s h =
        folds (entry_at b at) (entries_from b (suc n) (at + 12))
        ∙ ap (put (entry_at b at)) (cut m n (at + 12) (omega arith) (omega arith))
        ∙ sym (folds (entry_at b at) (entries_from b (suc m) (at + 12)))

    -- The entries that the loop reads give the same answer as all entries.
    pub cut-same : (n : ℕ) → ask (entries_from b (min n ((length b - 48) / 12 + 2)) 48) ≡ ask (entries_from b n 48)
    cut-same n = by n (leb n ((length b - 48) / 12 + 2)) refl
      where
        by : (n : ℕ) (t : Bool) → leb n ((length b - 48) / 12 + 2) ≡ t
            → ask (entries_from b (min n ((length b - 48) / 12 + 2)) 48) ≡ ask (entries_from b n 48)
        by n true e =
            ap (λ (m : ℕ). ask (entries_from b m 48)) (min-eq_left (leb-true n ((length b - 48) / 12 + 2) e))
        by zero false e = ap (λ (m : ℕ). ask (entries_from b m 48)) (min-eq_left (omega arith))
        by (suc n) false e =
            let q = (length b - 48) / 12 in
            let l = leb-false (suc n) (q + 2) e in
            let two : q + 2 ≡ suc (q + 1) = omega arith in
            ap (λ (m : ℕ). ask (entries_from b m 48)) (min-eq_right (omega (arith, l)) ∙ two)
            ∙ sym (cut (q + 1) n 48 (omega (arith, l)) (omega arith))

-- The same for the two functions of the table.
pub size-cut : (b : List ℕ) (id n : ℕ) → size_in id (entries_from b (min n ((length b - 48) / 12 + 2)) 48)
    ≡ size_in id (entries_from b n 48)
unfolding size_in
size-cut b id n = cut-same b (size_in id) put folds once n
  where
    put : Entry → ℕ → ℕ
    put e t = cond (eqb e.id id) e.size t

    folds : (e : Entry) (es : List Entry) → size_in id (e ∷ es) ≡ put e (size_in id es)
    folds e es = refl

    once : (t : ℕ) → put blank (put blank t) ≡ put blank t
    once t = by (eqb 0 id)
      where
        by : (f : Bool) → cond f 0 (cond f 0 t) ≡ cond f 0 t
        by true = refl
        by false = refl

pub small_cut : (b : List ℕ) (n : ℕ) → all_small (entries_from b (min n ((length b - 48) / 12 + 2)) 48)
    ≡ all_small (entries_from b n 48)
unfolding all_small
small_cut b n = cut-same b all_small put folds (λ t. refl) n
  where
    put : Entry → Bool → Bool
    put e t = leb e.size largest && t

    folds : (e : Entry) (es : List Entry) → all_small (e ∷ es) ≡ put e (all_small es)
    folds e es = refl
