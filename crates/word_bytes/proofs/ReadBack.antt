-- Reading gives back what was written: a number below b ^ k is the number of its k digits to the base b.
-- Assumes nothing.
use mathlib.Core.Path.{◌≡◌, refl, ◌∙◌}
use mathlib.Core.Bool.{Bool, true, false, cond}
use mathlib.Core.List.{List, [], ◌∷◌, ◌++◌}
use Prim.Native.Nat.{ℕ, zero, suc, ◌+◌, ◌*◌, ◌/◌, ◌%◌, ◌^◌, ◌<◌}
use native.Mathlib.Nat.{pow-suc, div-lt_iff_lt-mul, div-add-mod', mod-lt}
use native.Mathlib.Omega.{arith}
use borrow.Author.Tests.{ltb-true, ltb-false, lt-ltb, le-ltb}
use lib.Dec.{ltb, lit≤}
use Rattle.word_bytes.specs.Hex.{glyph, hex_digits, digit_of, hex_value}
use Rattle.word_bytes.specs.Bytes.{low_bytes, bytes_value}

-- The quotient by the base has one digit fewer.
fewer : (b k n : ℕ) → zero < b → n < b ^ suc k → n / b < b ^ k
fewer b k n p h = (div-lt_iff_lt-mul p).1 (rw pow-suc at h)

-- The two cases of the test in `glyph`.
either : (d : ℕ) (small : Bool) → ltb d 10 ≡ small → d < 16 → digit_of (cond small (48 + d) (55 + d)) ≡ d
either d true e h =
    let l = ltb-true d 10 e in
    simp (le-ltb (48 + d) 48 (omega arith), lt-ltb (48 + d) 58 (omega arith)) (omega arith)
either d false e h =
    let l = ltb-false d 10 e in
    simp (
      le-ltb (55 + d) 48 (omega arith),
      le-ltb (55 + d) 58 (omega arith),
      le-ltb (55 + d) 65 (omega arith),
      lt-ltb (55 + d) 71 (omega arith),
    ) (omega arith)

last : (cs : List ℕ) (v c : ℕ) → hex_value v (cs ++ (c ∷ [])) ≡ hex_value v cs * 16 + digit_of c
unfolding hex_value
last [] v c = refl
last (x ∷ cs) v c = last cs (v * 16 + digit_of x) c

pub hex-back : (k n : ℕ) → n < 16 ^ k → hex_value 0 (hex_digits k n) ≡ n
unfolding hex_digits hex_value
hex-back zero n h = omega arith
hex-back (suc k) n h =
    last (hex_digits k (n / 16)) 0 (glyph (n % 16))
    ∙ rw (hex-back k (n / 16) (fewer 16 k n (lit≤ tt) h), either (n % 16) (ltb (n % 16) 10) refl (mod-lt n (lit≤ tt)))
    (div-add-mod' n 16)

pub bytes_back : (k n : ℕ) → n < 256 ^ k → bytes_value (low_bytes k n) ≡ n
unfolding low_bytes bytes_value
bytes_back zero n h = omega arith
bytes_back (suc k) n h = rw (bytes_back k (n / 256) (fewer 256 k n (lit≤ tt) h)) (div-add-mod' n 256)
