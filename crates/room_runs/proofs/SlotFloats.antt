-- W4c, W4f. A set that is written into its slot: the slot has its floats, and every other slot those that it had. It is
-- shown for slots of any width. Assumes nothing.
use mathlib.Core.Path.{◌≡◌, sym, ◌∙◌, ap}
use mathlib.Core.List.{List, ◌++◌, append_assoc}
use Prim.Native.Nat.{ℕ, ◌+◌, ◌-◌, ◌*◌, ◌≤◌, ◌<◌}
use native.Mathlib.Nat.{add-mul, one-mul, mul-le-mul_right}
use native.Mathlib.Omega.{arith}
use lib.ListN.{length, take, drop, length-append, length-drop, take-append-drop}
use lib.Seq.{take_at, drop_at, take-append-le, drop-append-le, drop-append-add, drop-drop, length-take-le}
use lib.Ieee.{Float}
use Rattle.constants.specs.Numbers.{set_length}
use Rattle.sinc_bank_f32.specs.Sets.{with_part}
use Rattle.set_room.specs.Room.{slot_of, with_set}

module _ (width : ℕ) (xs : List Float) where
  -- A part that ends before `start` is a part of what stands there.
  front : (a start : ℕ) (zs : List Float) → a + width ≤ start → start ≤ length xs
      → take width (drop a (take start xs ++ zs)) ≡ take width (drop a (take start xs))
  front a start zs h l =
      let n = length-take-le start xs l in
      ap (take width) (drop-append-le a (take start xs) zs (omega arith))
      ∙ take-append-le width (drop a (take start xs)) zs (simp length-drop (omega arith))

  before : (a start : ℕ) (zs : List Float) → a + width ≤ start → start ≤ length xs
      → take width (drop a (take start xs ++ zs)) ≡ take width (drop a xs)
  before a start zs h l =
      front a start zs h l
      ∙ sym (front a start (drop start xs) h l)
      ∙ ap (λ (ys : List Float). take width (drop a ys)) (take-append-drop start xs)

  -- What stands behind `end` is still there.
  behind : (a end : ℕ) (ys : List Float) → length ys ≡ end → end ≤ a
      → take width (drop a (ys ++ drop end xs)) ≡ take width (drop a xs)
  behind a end ys l h =
      let e : a ≡ length ys + (a - end) = omega arith in
      let f : end + (a - end) ≡ a = omega arith in
      ap (take width)
      (ap (λ (n : ℕ). drop n (ys ++ drop end xs)) e
      ∙ drop-append-add ys (drop end xs) (a - end)
      ∙ drop-drop (a - end) end xs
      ∙ ap (λ (n : ℕ). drop n xs) f)

  module _ (k : ℕ) (ys : List Float) (long : length ys ≡ width) (inside : k * width + width ≤ length xs) where
    abbrev written : List Float
    written = take (k * width) xs ++ (ys ++ drop (k * width + width - k * width) (drop (k * width) xs))

    head : length (take (k * width) xs) ≡ k * width
    head = length-take-le (k * width) xs (omega arith)

    ends : (i j : ℕ) → i < j → i * width + width ≤ j * width
    ends i j h =
        let g : i + 1 ≤ j = omega arith in omega (arith, add-mul i 1 width, one-mul width, mul-le-mul_right width g)

    there : take width (drop (k * width) written) ≡ ys
    there =
        ap (take width) (drop_at (take (k * width) xs)
        (ys ++ drop (k * width + width - k * width) (drop (k * width) xs))
        (k * width) head)
        ∙ take_at ys (drop (k * width + width - k * width) (drop (k * width) xs)) width long

    length-written : length written ≡ length xs
    length-written = simp (length-append, length-drop, head, long) (omega arith)

    earlier : (i : ℕ) → i < k → take width (drop (i * width) written) ≡ take width (drop (i * width) xs)
    earlier i h =
        before (i * width) (k * width) (ys ++ drop (k * width + width - k * width) (drop (k * width) xs)) (ends i k h)
        (omega arith)

    later : (i : ℕ) → k < i → take width (drop (i * width) written) ≡ take width (drop (i * width) xs)
    later i h =
        let n : k * width + (k * width + width - k * width) ≡ k * width + width = omega arith in
        let rest : drop (k * width + width - k * width) (drop (k * width) xs) ≡ drop (k * width + width) xs =
        drop-drop (k * width + width - k * width) (k * width) xs ∙ ap (λ (m : ℕ). drop m xs) n in
        ap (λ (zs : List Float). take width (drop (i * width) zs))
        (ap (λ (zs : List Float). take (k * width) xs ++ (ys ++ zs)) rest
        ∙ sym (append_assoc (take (k * width) xs) ys (drop (k * width + width) xs)))
        ∙ behind (i * width) (k * width + width) (take (k * width) xs ++ ys)
        (length-append (take (k * width) xs) ys ∙ ap (λ (m : ℕ). m + length ys) head ∙ ap
        (λ (m : ℕ). k * width + m) long)
        (ends k i h)

-- ---- for a room's slots
module _ (k : ℕ) (ys xs : List Float) (long : length ys ≡ set_length)
    (inside : k * set_length + set_length ≤ length xs) where
  pub set_there : slot_of k (with_set k ys xs) ≡ ys
  unfolding slot_of with_part
  set_there = there set_length xs k ys long inside

  pub length-same : length (with_set k ys xs) ≡ length xs
  unfolding with_part
  length-same = length-written set_length xs k ys long inside

  pub before-it : (i : ℕ) → i < k → slot_of i (with_set k ys xs) ≡ slot_of i xs
  unfolding slot_of with_part
  before-it i h = earlier set_length xs k ys long inside i h

  pub behind-it : (i : ℕ) → k < i → slot_of i (with_set k ys xs) ≡ slot_of i xs
  unfolding slot_of with_part
  behind-it i h = later set_length xs k ys long inside i h
