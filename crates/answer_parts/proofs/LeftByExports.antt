-- What an export leaves, from the contracts of the functions that it calls. The laws are over the kernel's reading, the
-- width and the state's numbers, so that each export cites one of them. Assumes nothing.
use mathlib.Core.Path.{◌≡◌, ap}
use mathlib.Core.List.{List}
use Prim.Native.Nat.{ℕ}
use lib.Ieee.{Float, Format, to_bits}
use Rattle.answer_parts.specs.Left.{Told, tells, Left, leaves, told_in_bits, in_bits, renews}

-- The reading of a kernel; a is the answer.
pub told : {A S : Type 0} (number : A → ℕ) (value : A → S) {a b : A} {n : ℕ} {v : S}
    → a ≡ b → n ≡ number a → v ≡ value a → tells n v ≡ tells (number b) (value b)
told number value e n v = rw (n, v, e)

pub told-in-bits : (f : Format) {n b : ℕ} {v : Float} {t : Told Float}
    → tells n v ≡ t → b ≡ to_bits f v → tells n b ≡ told_in_bits f t
told-in-bits f e h = rw h (ap (told_in_bits f) e)

-- The call of a reader, handed out.
pub left : {P S W : Type 0} (number : P → ℕ) (value : P → S) (count : P → W)
    {p q : P} {n : ℕ} {v : S} {w : W} {xs ys : List Float}
    → (p ≡ q) × (xs ≡ ys) → (n ≡ number p) × ((v ≡ value p) × (w ≡ count p))
    → leaves n v w xs ≡ leaves (number q) (value q) (count q) ys
left number value count e h = rw (h.0, h.1.0, h.1.1, e.0, e.1)

pub in-bits : {W : Type 0} (f : Format) {n b : ℕ} {v : Float} {w : W} {xs : List Float} {l : Left Float W}
    → leaves n v w xs ≡ l → b ≡ to_bits f v → leaves n b w xs ≡ in_bits f l
in-bits f e h = rw h (ap (in_bits f) e)

-- An opening or a reset.
pub renewed : {O W : Type 0} (number : O → ℕ) (count : O → W) {o q : O} {n : ℕ} {w : W} {xs ys : List Float}
    → (o ≡ q) × (xs ≡ ys) → n ≡ number o → w ≡ count o → renews n w xs ≡ renews (number q) (count q) ys
renewed number count e n w = rw (n, w, e.0, e.1)
