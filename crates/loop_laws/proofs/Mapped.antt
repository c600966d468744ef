-- One function applied to every element: of a list that is given by a rule, of a table by its rows, and of a list that
-- a loop changes in place. Assumes nothing.
use mathlib.Core.Path.{◌≡◌, refl, sym, ◌∙◌, ap}
use mathlib.Core.List.{List, [], ◌∷◌, ◌++◌, map, append_assoc, append-nil}
use Prim.Native.Nat.{ℕ, zero, suc, ◌+◌, ◌<◌}
use native.Mathlib.Numerals.{add-one}
use native.Mathlib.Omega.{arith}
use lib.ListN.{length, get_or, take, drop, set, length-append, length-take, length-drop, length-map}
use lib.Seq.{drop-cons, take-suc, set_at, get_or_at, take-length, drop-length, length-take-le}
use lib.Ieee.{Float}
use Rattle.loop_laws.specs.Loops.{list_of, rows}

module _ (f : Float → Float) where
  map-append : (xs ys : List Float) → map f (xs ++ ys) ≡ map f xs ++ map f ys
  map-append [] ys = refl
  map-append (x ∷ xs) ys = ap (λ (l : List Float). f x ∷ l) (map-append xs ys)

  pub map-list : (g : ℕ → Float) (n : ℕ) → map f (list_of g n) ≡ list_of (λ (k : ℕ). f (g k)) n
  unfolding list_of
  map-list g zero = refl
  map-list g (suc n) = map-append (list_of g n) (g n ∷ []) ∙ ap (λ (l : List Float). l ++ (f (g n) ∷ [])) (map-list g n)

  pub map_rows : (g : ℕ → List Float) (n : ℕ) → map f (rows g n) ≡ rows (λ (p : ℕ). map f (g p)) n
  unfolding rows
  map_rows g zero = refl
  map_rows g (suc n) = map-append (rows g n) (g n) ∙ ap (λ (l : List Float). l ++ map f (g n)) (map_rows g n)

  map-take : (k : ℕ) (xs : List Float) → take k (map f xs) ≡ map f (take k xs)
  map-take zero xs = refl
  map-take (suc k) [] = refl
  map-take (suc k) (x ∷ xs) = ap (λ (l : List Float). f x ∷ l) (map-take k xs)

  map-drop : (k : ℕ) (xs : List Float) → drop k (map f xs) ≡ map f (drop k xs)
  map-drop zero xs = refl
  map-drop (suc k) [] = refl
  map-drop (suc k) (x ∷ xs) = map-drop k xs

  pub map-part : (xs : List Float) (a k : ℕ) → take k (drop a (map f xs)) ≡ map f (take k (drop a xs))
  map-part xs a k = ap (take k) (map-drop a xs) ∙ map-take k (drop a xs)

  -- The list with its first k elements changed.
  abbrev pub halfway : List Float → ℕ → List Float
  halfway xs k = map f (take k xs) ++ drop k xs

  pub at_first : (xs : List Float) → xs ≡ halfway xs 0
  at_first xs = refl

  pub length-halfway : (xs : List Float) (k : ℕ) → length (halfway xs k) ≡ length xs
  length-halfway xs k = simp (length-append, length-map, length-take, length-drop) (omega arith)

  front : (xs : List Float) (k : ℕ) → k < length xs → length (map f (take k xs)) ≡ k
  front xs k l = length-map (take k xs) f ∙ length-take-le k xs (omega arith)

  pub not_yet : (xs : List Float) (k : ℕ) (d : Float) → k < length xs → get_or (halfway xs k) k d ≡ get_or xs k d
  not_yet xs k d l =
      rw (drop-cons xs k d) (get_or_at (map f (take k xs)) (get_or xs k d) (drop (suc k) xs) d k (front xs k l))

  pub one_more : (xs : List Float) (k : ℕ) (d : Float) → k < length xs
      → set (halfway xs k) k (f (get_or xs k d)) ≡ halfway xs (k + 1)
  one_more xs k d l =
      ap (λ (t : List Float). set (map f (take k xs) ++ t) k (f (get_or xs k d))) (drop-cons xs k d l)
      ∙ set_at (map f (take k xs)) (get_or xs k d) (drop (suc k) xs) _ k (front xs k l)
      ∙ sym (append_assoc (map f (take k xs)) (f (get_or xs k d) ∷ []) (drop (suc k) xs))
      ∙ ap (λ (t : List Float). t ++ drop (suc k) xs)
      (sym (ap (map f) (take-suc xs k d l) ∙ map-append (take k xs) (get_or xs k d ∷ [])))
      ∙ ap (halfway xs) (sym (add-one k))

  pub at_last : (xs : List Float) (k : ℕ) → k ≡ length xs → halfway xs k ≡ map f xs
  at_last xs k e = ap (halfway xs) e ∙ rw (take-length, drop-length) (append-nil (map f xs))
