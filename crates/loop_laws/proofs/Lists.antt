-- A list that a loop writes by a rule, from the front on, and its elements. Assumes nothing.
use mathlib.Core.Path.{◌≡◌, refl, sym, ◌∙◌, ap, subst}
use mathlib.Core.List.{List, [], ◌∷◌, ◌++◌}
use mathlib.Core.Logic.{⊎_elim}
use Prim.Native.Nat.{ℕ, zero, suc, ◌+◌, ◌≤◌, ◌<◌}
use native.Mathlib.Nat.{le_refl, eq-or-lt_of_le, le_of_suc-le-suc}
use native.Mathlib.Numerals.{add-one}
use native.Mathlib.Omega.{arith}
use lib.ListN.{length, get_or, take, set, length-append, get_or-append}
use lib.Seq.{take-suc, take-suc-set, get_or_at, take_all}
use Rattle.loop_laws.specs.Loops.{list_of}

pub length-list : {A : Type 0} (f : ℕ → A) (n : ℕ) → length (list_of f n) ≡ n
unfolding list_of
length-list f zero = refl
length-list f (suc n) = length-append (list_of f n) (f n ∷ []) ∙ simp (length-list f n) (omega arith)

pub element : {A : Type 0} (f : ℕ → A) (n j : ℕ) (d : A) → j < n → get_or (list_of f n) j d ≡ f j
unfolding list_of
element f zero j d h = absurd (omega arith)
element f (suc n) j d h =
    ⊎_elim
    (λ (e : j ≡ n). ap (λ (i : ℕ). get_or (list_of f n ++ (f n ∷ [])) i d) e
    ∙ get_or_at (list_of f n) (f n) [] d n (length-list f n) ∙ ap f (sym e))
    (λ (l : j < n). get_or-append (list_of f n) (f n ∷ []) d j (subst (λ (z : ℕ). j < z) (sym (length-list f n)) l)
    ∙ element f n j d l)
    (eq-or-lt_of_le (le_of_suc-le-suc h))

pub same-list : {A : Type 0} (f g : ℕ → A) (n : ℕ) → ((k : ℕ) → k < n → f k ≡ g k) → list_of f n ≡ list_of g n
unfolding list_of
same-list f g zero h = refl
same-list f g (suc n) h = rw (same-list f g n (λ k l. h k (omega arith)), h n (omega arith))

-- ---- the loop: nothing written, one more element, all of them
pub nothing : {A : Type 0} (f : ℕ → A) (xs : List A) → take 0 xs ≡ list_of f 0
unfolding list_of
nothing f xs = refl

pub written : {A : Type 0} (f : ℕ → A) (xs : List A) (k : ℕ) (v : A) → k < length xs → take k xs ≡ list_of f k → v ≡ f k
    → take (k + 1) (set xs k v) ≡ list_of f (k + 1)
unfolding list_of
written f xs k v l h e = rw add-one (take-suc-set xs k v l ∙ rw (h, e))

pub whole : {A : Type 0} (f : ℕ → A) (xs : List A) (n : ℕ) → n ≡ length xs → take n xs ≡ list_of f n → xs ≡ list_of f n
whole f xs n l h = sym (take_all n xs (omega arith)) ∙ h

-- ---- any list by its elements
front-elements : {A : Type 0} (xs : List A) (d : A) (k : ℕ) → k ≤ length xs → take k xs
    ≡ list_of (λ (i : ℕ). get_or xs i d) k
unfolding list_of
front-elements xs d zero h = refl
front-elements xs d (suc k) h = take-suc xs k d h ∙ rw (front-elements xs d k (omega arith))

pub elements : {A : Type 0} (xs : List A) (d : A) → xs ≡ list_of (λ (i : ℕ). get_or xs i d) (length xs)
elements xs d = whole (λ (i : ℕ). get_or xs i d) xs (length xs) refl
    (front-elements xs d (length xs) (le_refl (length xs)))
