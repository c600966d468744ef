-- Where samples stand: the next place, and the place of a lag in each of the two runs. Assumes nothing.
use mathlib.Core.Path.{◌≡◌, sym, ap, ◌∙◌}
use Prim.Native.Nat.{ℕ, ◌+◌, ◌-◌, ◌%◌, ◌≤◌, ◌<◌}
use native.Mathlib.Nat.{mod-eq_of_lt, mod_self, mod-add-mod, add-mod_right}
use native.Mathlib.Omega.{arith}

-- The head may be handed in for the number of pushes.
pub head-place : (pushes len lag : ℕ) → lag < len → (pushes % len + len - lag) % len ≡ (pushes + len - lag) % len
head-place pushes len lag h =
    let a : pushes % len + len - lag ≡ pushes % len + (len - lag) = omega arith in
    let b : pushes + (len - lag) ≡ pushes + len - lag = omega arith in
    ap (λ (n : ℕ). n % len) a ∙ mod-add-mod pushes len (len - lag) ∙ ap (λ (n : ℕ). n % len) b

-- From the head down to place 0.
pub first_run : (head len lag : ℕ) → head < len → lag ≤ head → (head + len - lag) % len ≡ head - lag
first_run head len lag l h =
    let a : head + len - lag ≡ head - lag + len = omega arith in
    ap (λ (n : ℕ). n % len) a ∙ add-mod_right (head - lag) len ∙ mod-eq_of_lt (omega arith)

-- From the last place down.
pub second_run : (head len j : ℕ) → head + 1 + j < len + 1 + head → (head + len - (head + 1 + j)) % len ≡ len - 1 - j
second_run head len j h =
    let a : head + len - (head + 1 + j) ≡ len - 1 - j = omega arith in
    ap (λ (n : ℕ). n % len) a ∙ mod-eq_of_lt (omega arith)

-- The next place, from the head.
pub next-wraps : (pushes len : ℕ) → pushes % len + 1 ≡ len → 0 ≡ (pushes + 1) % len
next-wraps pushes len e = sym (sym (mod-add-mod pushes len 1) ∙ ap (λ (n : ℕ). n % len) e ∙ mod_self len)

pub next-moves : (pushes len : ℕ) → pushes % len + 1 < len → pushes % len + 1 ≡ (pushes + 1) % len
next-moves pushes len l = sym (sym (mod-add-mod pushes len 1) ∙ mod-eq_of_lt l)
