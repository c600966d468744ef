-- W10b. An opening that is long enough gives the same in every longer one: in each step the bytes that are looked at
-- are there. Assumes nothing.
use mathlib.Core.Path.{◌≡◌, refl, sym, ap, ◌∙◌}
use mathlib.Core.Bool.{Bool, true, false, cond, ◌&&◌}
use mathlib.Core.List.{List}
use Prim.Native.Nat.{ℕ, ◌+◌, ◌*◌, ◌≤◌, ◌<◌}
use native.Mathlib.Omega.{arith}
use borrow.Author.Tests.{leb-true, leb-false, le-leb, lt-leb}
use lib.Dec.{leb}
use lib.ListN.{length}
use Rattle.refusal_order.specs.Order.{first_of}
use Rattle.wav_format.specs.Format.{number}
use Rattle.wav.specs.Wave.{riff_size}
use Rattle.true_sizes.specs.Sizes.{is_long, ds64_size, entry_count, true_size}
use Rattle.true_sizes.proofs.Same.{same-long, same_count, same-small, same_size}
use Rattle.wav_opening.specs.Opening.{has_letters, has_ds64, true_riff, end_of, asks, opening_needs, opening_tests}

-- A step that is made and needs no more has its bytes.
asked : (n : ℕ) (made : Bool) (reach later : ℕ) → made ≡ true → 0 < reach → asks n made reach later ≡ 0
    → (reach ≤ n) × (later ≡ 0)
asked n made reach later m p z = by (leb reach n) refl (sym (rw m) ∙ z)
  where
    by : (t : Bool) → leb reach n ≡ t → cond (leb reach n) later reach ≡ 0 → (reach ≤ n) × (later ≡ 0)
    by true e h = (leb-true reach n e, sym (rw e) ∙ h)
    by false e h = let r : reach ≡ 0 = sym (rw e) ∙ h in absurd (omega arith)

pub unmade : (n : ℕ) (made : Bool) (reach later : ℕ) → made ≡ false → asks n made reach later ≡ 0
unmade n made reach later e = rw e

pub met : (n : ℕ) (made : Bool) (reach later : ℕ) → reach ≤ n → later ≡ 0 → asks n made reach later ≡ 0
met n true reach later h z = rw (le-leb reach n h) z
met n false reach later h z = refl

-- The steps of an opening, the last first.
abbrev pub table_of : List ℕ → ℕ → ℕ
table_of b size = asks (length b) (leb 4 (true_riff b size)) (48 + 12 * entry_count b) 0

abbrev pub fixed_of : List ℕ → ℕ → ℕ
fixed_of b size = asks (length b) (has_ds64 b size) 48 (table_of b size)

abbrev pub head_of : List ℕ → ℕ → ℕ
head_of b size = asks (length b) (has_letters b && (is_long b && leb 20 size)) 20 (fixed_of b size)

pub met-12 : (b : List ℕ) (size : ℕ) → 12 ≤ length b → head_of b size ≡ 0 → opening_needs b size ≡ 0
met-12 b size = met (length b) (leb 12 size) 12 (head_of b size)

pub met-20 : (b : List ℕ) (size : ℕ) → 20 ≤ length b → fixed_of b size ≡ 0 → head_of b size ≡ 0
met-20 b size = met (length b) (has_letters b && (is_long b && leb 20 size)) 20 (fixed_of b size)

pub met-48 : (b : List ℕ) (size : ℕ) → 48 ≤ length b → table_of b size ≡ 0 → fixed_of b size ≡ 0
met-48 b size = met (length b) (has_ds64 b size) 48 (table_of b size)

pub and-false : (a : Bool) → a && false ≡ false
and-false true = refl
and-false false = refl

nine-or-18 : (t : Bool) → ◌≡◌ {A = ℕ} (cond t 18 9) 0 → ⊥
nine-or-18 true e = omega (arith, e)
nine-or-18 false e = omega (arith, e)

pub record Opens (b c : List ℕ) (size : ℕ) : Type 0 where
  pub needs : opening_needs c size ≡ 0
  pub due : first_of (opening_tests b size) ≡ first_of (opening_tests c size)
  pub ends : first_of (opening_tests b size) ≡ 0 → end_of b size ≡ end_of c size
  pub sizes : first_of (opening_tests b size) ≡ 0 → (id field : ℕ) → true_size b id field ≡ true_size c id field

refused-both : (b c : List ℕ) (size : ℕ) → first_of (opening_tests b size) ≡ first_of (opening_tests c size)
    → (first_of (opening_tests b size) ≡ 0 → ⊥) → opening_needs c size ≡ 0 → Opens b c size
refused-both b c size e h n =
    record { needs = n; due = e; ends = λ z. absurd (h z); sizes = λ z. absurd (h z) }

module _ (b c : List ℕ) (size : ℕ) (longer : length b ≤ length c)
    (same : (k at : ℕ) → at + k ≤ length b → number k b at ≡ number k c at) where
  -- ---- the steps from the last to the first
  -- The fixed part of a `ds64` is there.
  module _ (s : leb 12 size ≡ true) (p : has_letters b ≡ true) (q : has_letters c ≡ true) (l : is_long b ≡ true)
      (m : is_long c ≡ true) (d : has_ds64 b size ≡ true) (e : has_ds64 c size ≡ true) (h : 48 ≤ length b) where
    riff : true_riff b size ≡ true_riff c size
    riff = rw (l, m, d, e, same 4 4 (omega arith), same 8 20 (omega arith))

    with-table : (t : Bool) → leb 4 (true_riff b size) ≡ t
        → table_of b size ≡ 0 → Opens b c size
    with-table false f z =
        let g : leb 4 (true_riff c size) ≡ false = sym (ap (leb 4) riff) ∙ f in
        let nine : first_of (opening_tests b size) ≡ 9 = rw (f, p, s) in
        refused-both b c size (nine ∙ rw (g, q, s)) (λ y. absurd (omega (arith, nine, y)))
        (met-12 c size (omega arith) (met-20 c size (omega arith) (met-48 c size (omega arith)
        (unmade (length c) (leb 4 (true_riff c size)) (48 + 12 * entry_count c) 0 g))))
    with-table true f z =
        let table = (asked (length b) (leb 4 (true_riff b size)) (48 + 12 * entry_count b) 0 f (omega arith) z).0 in
        let count = same_count b c (length b) same h in
        record {
          needs =
              met-12 c size (omega arith)
              (met-20 c size (omega arith)
              (met-48 c size (omega arith)
              (met (length c) (leb 4 (true_riff c size)) (48 + 12 * entry_count c) 0 (omega
              (arith, table, count, longer)) refl)));
          due = rw (riff, p, q, l, m, d, e, same-small b c (length b) same h table);
          ends = λ y. ap (λ (n : ℕ). 8 + n) riff;
          sizes = λ y. same_size b c (length b) same h table;
        }

  -- There is no `ds64`.
  without : leb 12 size ≡ true → 12 ≤ length b → has_letters b ≡ true → has_letters c ≡ true → is_long b ≡ true
      → is_long c ≡ true → has_ds64 b size ≡ false → has_ds64 c size ≡ false → opening_needs c size ≡ 0 → Opens b c size
  without s h p q l m d e n =
      let due : first_of (opening_tests b size) ≡ cond (leb 4 (riff_size b)) 18 9 = rw (p, l, d, s) in
      refused-both b c size (due ∙ rw (same 4 4 (omega arith)) (sym (rw (q, m, e, s))))
      (λ y. nine-or-18 (leb 4 (riff_size b)) (sym due ∙ y)) n

  -- The file is RF64 or BW64.
  module _ (s : leb 12 size ≡ true) (h : 12 ≤ length b) (p : has_letters b ≡ true) (q : has_letters c ≡ true)
      (l : is_long b ≡ true) (m : is_long c ≡ true) where
    too_short : leb 20 size ≡ false → (f : List ℕ) → has_ds64 f size ≡ false
    too_short e f =
        rw (lt-leb (20 + ds64_size f) size (omega (arith, leb-false 20 size e)), and-false, and-false)

    with-ds64 : (t : Bool) → has_ds64 b size ≡ t → 20 ≤ length b
        → fixed_of b size ≡ 0
        → Opens b c size
    with-ds64 t d g z = by t d
      where
        alike : has_ds64 b size ≡ has_ds64 c size
        alike = rw (same 4 12 (omega arith), same 4 16 (omega arith))

        by : (t : Bool) → has_ds64 b size ≡ t → Opens b c size
        by false d =
            let e = sym alike ∙ d in
            without s h p q l m d e
            (met-12 c size (omega arith) (met-20 c size (omega arith) (unmade (length c) (has_ds64 c size) 48
            (table_of c size) e)))
        by true d =
            let a = asked (length b) (has_ds64 b size) 48 (table_of b size) d (omega arith) z in
            with-table s p q l m d (sym alike ∙ d) a.0 (leb 4 (true_riff b size)) refl a.1

    long : (t : Bool) → leb 20 size ≡ t
        → head_of b size ≡ 0 → Opens b c size
    long false e z =
        without s h p q l m (too_short e b) (too_short e c)
        (met-12 c size (omega arith)
        (unmade (length c) (has_letters c && (is_long c && leb 20 size)) 20 (fixed_of c size) (rw (q, m, e))))
    long true e z =
        let a = asked (length b) (has_letters b && (is_long b && leb 20 size)) 20 (fixed_of b size) (rw (p, l, e))
        (omega arith) z in
        with-ds64 (has_ds64 b size) refl a.0 a.1

  -- The letters are there.
  module _ (s : leb 12 size ≡ true) (h : 12 ≤ length b) (z : head_of b size ≡ 0) where
    letters : has_letters b ≡ has_letters c
    letters = rw (same 4 0 (omega arith), same 4 8 (omega arith))

    longs : is_long b ≡ is_long c
    longs = same-long b c (length b) same (omega arith)

    with-letters : (t u : Bool) → has_letters b ≡ t → is_long b ≡ u → Opens b c size
    with-letters false u p l =
        let q = sym letters ∙ p in
        let nine : first_of (opening_tests b size) ≡ 9 = rw (p, s) in
        refused-both b c size (nine ∙ rw (q, s)) (λ y. absurd (omega (arith, nine, y)))
        (met-12 c size (omega arith)
        (unmade (length c) (has_letters c && (is_long c && leb 20 size)) 20 (fixed_of c size) (rw q)))
    with-letters true false p l =
        let q = sym letters ∙ p in
        let m = sym longs ∙ l in
        let r = same 4 4 (omega arith) in
        record {
          needs =
              met-12 c size (omega arith)
              (unmade (length c) (has_letters c && (is_long c && leb 20 size)) 20 (fixed_of c size) (rw (q, m)));
          due = rw (p, q, l, m, s, r);
          ends = λ y. rw (l, m, r);
          sizes = λ y id field. rw (l, m);
        }
    with-letters true true p l = long s h p (sym letters ∙ p) l (sym longs ∙ l) (leb 20 size) refl z

  pub opens : opening_needs b size ≡ 0 → Opens b c size
  opens z = by (leb 12 size) refl
    where
      by : (t : Bool) → leb 12 size ≡ t → Opens b c size
      by false s =
          let nine : first_of (opening_tests b size) ≡ 9 = rw s in
          refused-both b c size (nine ∙ rw s) (λ y. absurd (omega (arith, nine, y))) (unmade (length c)
          (leb 12 size) 12 (head_of c size) s)
      by true s =
          let a = asked (length b) (leb 12 size) 12 (head_of b size) s (omega arith) z in
          with-letters s a.0 a.1 (has_letters b) (is_long b) refl refl
