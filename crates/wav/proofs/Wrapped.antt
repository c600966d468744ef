-- W1. The two readings compared. If the tag is not FFFE they answer alike; the one that unwraps finds whatever the
-- plain one finds, and what it finds beyond that the plain one refuses by 13. By the tag, which is all that they read
-- differently. Assumes nothing.
use mathlib.Core.Path.{◌≡◌, refl, sym, ap, ◌∙◌}
use mathlib.Core.Bool.{Bool, true, false, true≢false, cond}
use mathlib.Core.List.{List, [], ◌∷◌}
use Prim.Native.Nat.{ℕ}
use native.Mathlib.Omega.{arith}
use borrow.Author.Tests.{eqb-true}
use lib.Dec.{eqb}
use Rattle.refusal_order.specs.Order.{◌unless◌, first_of}
use Rattle.refusal_order.proofs.First.{none}
use Rattle.wav.specs.declared.Found.TheVariants as found
use Rattle.wav.specs.declared.Wave.{Wave}
use Rattle.wav_format.specs.Format.{tag, bits, listed, format_ok}
use Rattle.wav_format.specs.Tags.{plain_tag, wrapper, wraps, wrapped_tag}
use Rattle.wav.specs.Wave.{walk_in, fmt_of, is_wave, within, tests, verdict, wave_in, answered, found_in, found_wrapped}
use Rattle.wav.proofs.Passed.{formatted, all-passed}
use Rattle.wav.proofs.Promised.{wave-of}
use Rattle.wav.proofs.Answers.{by-tag}

pub not-wrapped : (b : List ℕ) → eqb (tag (fmt_of b)) wrapper ≡ false → found_wrapped b ≡ found_in b
unfolding wraps
not-wrapped b e = by-tag wrapped_tag plain_tag b (rw e)

-- No listed kind has the tag FFFE.
listed_plain : (t n : ℕ) → listed t n ≡ true → eqb t wrapper ≡ false
listed_plain t n h = by (eqb t wrapper) refl
  where
    by : (u : Bool) → eqb t wrapper ≡ u → eqb t wrapper ≡ false
    by false e = e
    by true e = absurd (true≢false (sym h ∙ rw (eqb-true t wrapper e)))

pub finds-as-plain : (b : List ℕ) (w : Wave) → found_in b ≡ found.Wave w → found_wrapped b ≡ found.Wave w
finds-as-plain b w e =
    let z = (wave-of (verdict plain_tag b) (wave_in plain_tag b) w e).0 in
    let f = formatted _ _ _ _ (all-passed plain_tag b z).format-ok in
    not-wrapped b (listed_plain (tag (fmt_of b)) (bits (fmt_of b)) f.is-listed) ∙ e

-- If the tests before it pass, the refusal is 13 or none.
last-due : (t9 t10 t11 t12 t13 : Bool) → t9 ≡ true → t10 ≡ true → t11 ≡ true → t12 ≡ true
    → first_of (9 unless t9 ∷ 10 unless t10 ∷ 11 unless t11 ∷ 12 unless t12 ∷ 13 unless t13 ∷ []) ≡ cond t13 0 13
last-due t9 t10 t11 t12 t13 p q r s = rw (p, q, r, s)

refused-last : (t13 : Bool) (w : Wave) (k : ℕ) → answered (cond t13 0 13) w ≡ found.Refused k → k ≡ 13
refused-last true w k e = let z : ◌≡◌ {A = ℕ} 0 1 = cc in absurd (omega arith)
refused-last false w k e = cc

-- If the one that unwraps finds samples and the plain one does not, the plain one refuses by 13.
pub else-thirteen : (b : List ℕ) (w : Wave) (k : ℕ) → found_wrapped b ≡ found.Wave w → found_in b ≡ found.Refused k
    → k ≡ 13
else-thirteen b w k e r =
    let z = (wave-of (verdict wrapped_tag b) (wave_in wrapped_tag b) w e).0 in
    let test = (none (tests wrapped_tag b) refl).0 z in
    let ok = format_ok (tag (fmt_of b)) (fmt_of b) (walk_in b).format.size (walk_in b).samples.size in
    let v =
    last-due (is_wave b) (within b) (walk_in b).format.found (walk_in b).samples.found ok
    (test 0) (test 1) (test 2) (test 3) in
    refused-last ok (wave_in plain_tag b) k (sym (ap (λ (n : ℕ). answered n (wave_in plain_tag b)) v) ∙ r)
