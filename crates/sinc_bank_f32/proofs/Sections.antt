-- A slice that is written section by section, each from where the last one ended, and what it holds before that end.
-- Assumes nothing.
use mathlib.Core.Path.{◌≡◌, refl, sym, ◌∙◌, ap}
use mathlib.Core.List.{List, [], ◌++◌, append_assoc}
use Prim.Native.Nat.{ℕ, ◌-◌, ◌≤◌}
use native.Mathlib.Omega.{arith}
use lib.ListN.{length, take, drop, length-append, length-drop}
use lib.Seq.{take_at, length-take-le, take_all}
use lib.Ieee.{Float}
use Rattle.sinc_bank_f32.specs.Sets.{with_part}

module _ (start end : ℕ) (ys xs : List Float) (order : start ≤ end) (fits : end ≤ length xs)
    (long : length ys ≡ end - start) where
  head : length (take start xs) ≡ start
  head = length-take-le start xs (omega arith)

  pub same_length : length (with_part start end ys xs) ≡ length xs
  unfolding with_part
  same_length = simp (length-append, length-drop, head, long) (omega arith)

  pub one_more : (front : List Float) → take start xs ≡ front → take end (with_part start end ys xs) ≡ front ++ ys
  unfolding with_part
  one_more front e =
      ap (take end) (sym (append_assoc (take start xs) ys (drop (end - start) (drop start xs))))
      ∙ take_at (take start xs ++ ys) _ end (simp (length-append, head, long) (omega arith))
      ∙ ap (λ (l : List Float). l ++ ys) e

-- Three sections, from 0 to the length.
pub three : (a b c : ℕ) (x y z xs u v w : List Float) → a ≤ b → b ≤ c → length xs ≡ c → length x ≡ a - 0
    → length y ≡ b - a → length z ≡ c - b
    → u ≡ with_part 0 a x xs → v ≡ with_part a b y u → w ≡ with_part b c z v → w ≡ x ++ (y ++ z)
three a b c x y z xs u v w ab bc lxs lx ly lz eu ev ew =
    let lu : length u ≡ c = ap length eu ∙ same_length 0 a x xs (omega arith) (omega arith) lx ∙ lxs in
    let lv : length v ≡ c = ap length ev ∙ same_length a b y u ab (omega arith) ly ∙ lu in
    let lw : length w ≡ c = ap length ew ∙ same_length b c z v bc (omega arith) lz ∙ lv in
    let tu : take a u ≡ x = ap (take a) eu ∙ one_more 0 a x xs (omega arith) (omega arith) lx [] refl in
    let tv : take b v ≡ x ++ y = ap (take b) ev ∙ one_more a b y u ab (omega arith) ly x tu in
    let tw : take c w ≡ (x ++ y) ++ z = ap (take c) ew ∙ one_more b c z v bc (omega arith) lz (x ++ y) tv in
    sym (take_all c w (omega arith)) ∙ tw ∙ append_assoc x y z
