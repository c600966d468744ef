-- W3b. What the items of a stretch over a table of f32 give, one by one and two by two. Definitions only.
use Rattle.std.specs.Prelude.{◌≡◌, List, ℕ, ◌+◌, Float}
use Rattle.sinc_read_f32.specs.Reading.{read_of}
use Rattle.variable_delay.specs.Reader.{stored, position_of}
use Rattle.stretch_call.specs.Items.{item_due}
use Rattle.item_f32.specs.Item.{item_stored}

-- An item after i accepted samples gives the number n, and leaves the ring ys. If it is accepted its sample is s.
abbrev pub Served : List Float → ℕ → ℕ → ℕ → List Float → Float → Float → ℕ → Float → List Float → Type 0
Served table taps phases i ring x y n s ys =
    (n ≡ item_due i x y)
    × ((n ≡ 0 → s ≡ read_of table taps phases (stored i ring x) (i + 1) (position_of i y))
    × (ys ≡ item_stored (item_due i x y) i ring x))

-- Two items, the second from the ring that the first left. If the first is refused, nothing more is done.
pub record Neighbours (table : List Float) (taps phases i : ℕ) (ring : List Float) (x y u v : Float) (n m : ℕ)
    (a b : Float) (ys : List Float) : Type 0 where
  pub between : List Float
  pub one : Served table taps phases i ring x y n a between
  pub two : n ≡ 0 → Served table taps phases (i + 1) between u v m b ys
  pub ended : (n ≡ 0 → ⊥) → ys ≡ between
