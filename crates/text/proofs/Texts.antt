-- Texts that are put one after the other are one text put at once, and past the end nothing is put. By induction over
-- the bytes of the text. Assumes nothing.
use borrow.Rule.Slice.PartMut.{put_mid}
use Rattle.std.proofs.lemmas.List.{take-append-drop}
use Rattle.std.proofs.lemmas.List.Edits.{sets-eq}
use Rattle.std.proofs.lemmas.Slice.{put_mid-paste}
use mathlib.Core.Path.{◌≡◌, refl, sym, ap, ◌∙◌}
use mathlib.Core.Bool.{Bool, true, false}
use mathlib.Core.List.{List, [], ◌∷◌, ◌++◌}
use Prim.Native.Nat.{ℕ, suc, ◌+◌, ◌-◌, ◌≤◌, min}
use native.Mathlib.Nat.{add-zero, add_assoc, min-eq_left, min-eq_right}
use native.Mathlib.Omega.{arith}
use borrow.Author.Tests.{leb-true, leb-false}
use lib.Dec.{leb}
use lib.ListN.{length, take, drop, set, length-append, length-set, length-take, drop_of_length-le}
use lib.Seq.{paste, set_out, length-sets, take_all}
use Rattle.text.specs.Text.{put_at, place_after}

pub put-out : (text xs : List ℕ) (at : ℕ) → length xs ≤ at → put_at xs at text ≡ xs
put-out [] xs at h = refl
put-out (c ∷ cs) xs at h = put-out cs (set xs at c) (suc at) (simp length-set (omega arith)) ∙ set_out xs at c h

put_both : (a b xs : List ℕ) (at : ℕ) → put_at xs at (a ++ b) ≡ put_at (put_at xs at a) (at + length a) b
put_both [] b xs at = rw add-zero
put_both (c ∷ cs) b xs at =
    let e : suc at + length cs ≡ at + suc (length cs) = omega arith in
    put_both cs b (set xs at c) (suc at) ∙ rw e

-- Of a text that is put, the n bytes that there is room for take the place of as many.
module _ (xs text : List ℕ) (at n : ℕ) (inside : at ≤ length xs) (e : n ≡ min (length text) (length xs - at)) where
  front : List ℕ
  front = take n text

  long : length front ≡ n
  unfolding front
  long = simp length-take (omega arith)

  fits : at + length front ≤ length xs
  fits = omega (arith, long)

  rest-cut : put_at (put_at xs at front) (at + length front) (drop n text) ≡ put_at xs at front
  rest-cut = by (leb (length text) (length xs - at)) refl
    where
      by : (t : Bool) → leb (length text) (length xs - at) ≡ t
          → put_at (put_at xs at front) (at + length front) (drop n text) ≡ put_at xs at front
      by true l =
          let h = leb-true (length text) (length xs - at) l in
          let all : length text ≤ n = omega arith in
          rw (drop_of_length-le text all)
      by false l =
          let h = leb-false (length text) (length xs - at) l in
          let past : length (put_at xs at front) ≤ at + length front = omega (arith, long, length-sets xs at front) in
          put-out (drop n text) (put_at xs at front) (at + length front) past

  front-put : paste xs at front n ≡ put_at xs at front
  front-put =
      let same : take n front ≡ front = take_all n front (omega (arith, long)) in
      let end : at + n ≡ at + length front = omega (arith, long) in
      rw (same, end) (sym (sets-eq front xs at fits))

  pub put-cut : {k : ℕ} {ys : List ℕ} → k ≡ n → ys ≡ take n text → put_mid at k xs ys ≡ put_at xs at text
  unfolding front
  put-cut {k} {ys} g h =
      let whole : put_at xs at text ≡ put_at xs at front =
      ap (put_at xs at) (sym (take-append-drop n text)) ∙ put_both front (drop n text) xs at ∙ rest-cut in
      put_mid-paste at k xs ys front n h (sym g) (sym long) ∙ front-put ∙ sym whole

-- The place r and the bytes ys are what putting a text at a place of xs leaves.
abbrev pub Puts : List ℕ → ℕ → List ℕ → ℕ → List ℕ → Type 0
Puts xs at text r ys = record { value : r ≡ place_after (length xs) at text; out_after : ys ≡ put_at xs at text }

pub then : (xs a b : List ℕ) (at : ℕ) {r q : ℕ} {ys zs : List ℕ} → Puts xs at a r ys → Puts ys r b q zs
    → Puts xs at (a ++ b) q zs
then xs a b at {r} {q} {ys} {zs} p s = by (leb (at + length a) (length xs)) refl
  where
    long : length ys ≡ length xs
    long = rw p.out_after (length-sets xs at a)

    by : (t : Bool) → leb (at + length a) (length xs) ≡ t → Puts xs at (a ++ b) q zs
    by true e =
        let h : at + length a ≤ length xs = leb-true (at + length a) (length xs) e in
        let here : r ≡ at + length a = p.value ∙ min-eq_right h in record {
          value = s.value ∙ rw (long, here, length-append a b, add_assoc at (length a) (length b));
          out_after = s.out_after ∙ rw (p.out_after, here) (sym (put_both a b xs at));
        }
    by false e =
        let h : length xs ≤ at + length a = omega (arith, leb-false (at + length a) (length xs) e) in
        let end : r ≡ length xs = p.value ∙ min-eq_left h in
        let past : (k : ℕ) → length xs ≤ k → put_at (put_at xs at a) k b ≡ put_at xs at a =
        λ k g. put-out b (put_at xs at a) k (rw (length-sets xs at a) g) in record {
          value = s.value ∙ rw (long, end, length-append a b)
              (min-eq_left (omega arith) ∙ sym (min-eq_left (omega arith)));
          out_after =
              s.out_after
              ∙ rw (p.out_after, end) (past (length xs) (omega arith)
              ∙ sym (put_both a b xs at ∙ past (at + length a) h));
        }
