-- Whether all samples fit, of any kind: by a fold over them, and for each. Assumes nothing.
use mathlib.Core.Path.{◌≡◌, refl, sym, ap, ◌∙◌}
use mathlib.Core.Bool.{Bool, true, false, cond, ◌&&◌, true≢false}
use mathlib.Core.List.{List, [], ◌∷◌}
use Prim.Native.Nat.{ℕ, zero, suc, ◌-◌, ◌<◌}
use native.Mathlib.Omega.{arith}
use lib.ListN.{length, take, drop, get_or, length-drop}
use lib.Seq.{take_all}
use lib.Ieee.{Float}
use Rattle.std.specs.List.{fold, list_all}
use Rattle.sample_kind.specs.declared.SampleKind.{SampleKind}
use Rattle.stored_samples.specs.Stored.{fits_in}
use Rattle.wav_store.specs.Inner.{Seen}
use Rattle.wav_store.specs.Storing.{all_fit}

pub and_assoc : (a b c : Bool) → ((a && b) && c) ≡ (a && (b && c))
and_assoc true b c = refl
and_assoc false b c = refl

and-true : (a : Bool) → (a && true) ≡ a
and-true true = refl
and-true false = refl

folds : {A : Type 0} (test : A → Bool) (ok : Bool) (xs : List A)
    → fold (λ (t : Bool) (x : A). t && test x) ok xs ≡ (ok && list_all test xs)
folds test ok [] = sym (and-true ok)
folds test ok (x ∷ xs) = folds test (ok && test x) xs ∙ and_assoc ok (test x) (list_all test xs)

-- Every element is tested, without an early exit.
pub all-folded : {A : Type 0} (test : A → Bool) (xs : List A)
    → fold (λ (t : Bool) (x : A). t && test x) true xs ≡ list_all test xs
all-folded test xs = folds test true xs

pub fits-each : (kind : SampleKind) (xs : List Float) → list_all (fits_in kind) xs ≡ all_fit kind xs
unfolding all_fit
fits-each kind [] = refl
fits-each kind (x ∷ xs) = ap (λ (b : Bool). fits_in kind x && b) (fits-each kind xs)

-- ---- each sample
left : (a b : Bool) → (a && b) ≡ true → a ≡ true
left true b e = refl
left false b e = e

right : (a b : Bool) → (a && b) ≡ true → b ≡ true
right true b e = e
right false b e = absurd (true≢false (sym e))

pub each_fits : (kind : SampleKind) (xs : List Float) (i : ℕ) (d : Float) → all_fit kind xs ≡ true → i < length xs
    → fits_in kind (get_or xs i d) ≡ true
unfolding all_fit
each_fits kind [] i d e h = absurd (omega arith)
each_fits kind (x ∷ xs) zero d e h = left (fits_in kind x) (all_fit kind xs) e
each_fits kind (x ∷ xs) (suc i) d e h = each_fits kind xs i d (right (fits_in kind x) (all_fit kind xs) e) (omega arith)

rest_fit : (kind : SampleKind) (xs : List Float) (m : ℕ) → all_fit kind xs ≡ true → all_fit kind (drop m xs) ≡ true
unfolding all_fit
rest_fit kind xs zero e = e
rest_fit kind [] (suc m) e = e
rest_fit kind (x ∷ xs) (suc m) e = rest_fit kind xs m (right (fits_in kind x) (all_fit kind xs) e)

-- Each sample from the m-th on.
pub tail_fits : (kind : SampleKind) (xs : List Float) (m k : ℕ) (d : Float) → all_fit kind xs ≡ true
    → k < length (take (length xs - m) (drop m xs))
    → fits_in kind (get_or (take (length xs - m) (drop m xs)) k d) ≡ true
tail_fits kind xs m k d e h =
    let t : take (length xs - m) (drop m xs) ≡ drop m xs =
    take_all (length xs - m) (drop m xs) (omega (arith, length-drop m xs)) in
    each_fits kind (take (length xs - m) (drop m xs)) k d (ap (all_fit kind) t ∙ rest_fit kind xs m e) h

-- ---- the number that stands for the result
pub seen_by : (kind : SampleKind) (xs : List Float) (ok : Bool) → ok ≡ all_fit kind xs → Seen kind xs (cond ok 1 0)
seen_by kind xs true e = sym e
seen_by kind xs false e = sym e
