-- Texts that are UTF-8 and that XML accepts: the well-formed byte sequences of the Unicode Standard, table 3-7, without
-- U+FFFE and U+FFFF, which XML 1.0 forbids. Definitions only.
use Rattle.std.specs.Prelude.{ℕ, Bool, cond, ◌&&◌, List, [], ◌∷◌, eqb, leb, ltb}

-- The state after a byte, by what may come next. 0: a character begins. 1, 2, 3: that many bytes 80..BF must follow. 4:
-- A0..BF and one more (after E0). 5: 80..9F and one more (after ED). 6: 90..BF and two more (after F0). 7: 80..8F and
-- two more (after F4). 8: 80..BF and one more, where BF is the first half of the two that are forbidden (after EF). 9:
-- 80..BD (after EF BF). 10: nothing may follow.
abbrev pub within : ℕ → ℕ → ℕ → Bool
within low high b = leb low b && leb b high

-- The state after the first byte of a character.
unfoldable pub opens : ℕ → ℕ
opens b =
    cond (ltb b 0x80) 0 (cond (ltb b 0xc2) 10 (cond (ltb b 0xe0) 1 (cond (eqb b 0xe0) 4
    (cond (eqb b 0xed) 5 (cond (eqb b 0xef) 8 (cond (ltb b 0xf0) 2 (cond (eqb b 0xf0) 6
    (cond (ltb b 0xf4) 3 (cond (eqb b 0xf4) 7 10)))))))))

-- The state after a byte that continues a character; `next` if the byte is in range.
unfoldable pub continues : ℕ → ℕ → ℕ → ℕ → ℕ
continues low high next b = cond (within low high b) next 10

-- The state after a byte.
unfoldable pub next_of : ℕ → ℕ → ℕ
next_of place b =
    cond (eqb place 0) (opens b)
    (cond (eqb place 1) (continues 0x80 0xbf 0 b)
    (cond (eqb place 2) (continues 0x80 0xbf 1 b)
    (cond (eqb place 3) (continues 0x80 0xbf 2 b)
    (cond (eqb place 4) (continues 0xa0 0xbf 1 b)
    (cond (eqb place 5) (continues 0x80 0x9f 1 b)
    (cond (eqb place 6) (continues 0x90 0xbf 2 b)
    (cond (eqb place 7) (continues 0x80 0x8f 2 b)
    (cond (eqb place 8) (cond (eqb b 0xbf) 9 (continues 0x80 0xbe 1 b))
    (cond (eqb place 9) (continues 0x80 0xbd 0 b) 10)))))))))

-- The state at the end of a text, from a given state.
unfoldable pub after : ℕ → List ℕ → ℕ
after place [] = place
after place (b ∷ bs) = after (next_of place b) bs

-- A text is valid if it ends where a character could begin.
abbrev pub is_utf8 : List ℕ → Bool
is_utf8 text = eqb (after 0 text) 0
