-- What the exports of the oversampled readers leave, from the contracts of the functions that they call. Assumes
-- nothing.
use mathlib.Core.Path.{◌≡◌}
use mathlib.Core.List.{List}
use Prim.Native.Nat.{ℕ}
use lib.Ieee.{Float}
use Rattle.answer.specs.Answers.{number_of, value_of}
use Rattle.oversampled_delay.specs.declared.Processed as direct-call
use Rattle.oversampled_delay.specs.Reader as direct
use Rattle.cascaded_delay.specs.declared.Processed as cascaded-call
use Rattle.cascaded_delay.specs.Reader as cascaded
use Rattle.oversampled_codes.specs.Codes.{numbers}
use Rattle.oversampled_codes.specs.Left.{leaves, held_once, designs, direct_left, renews}
use Rattle.oversampled_codes.specs.CascadedLeft.{held_twice, designs_twice, cascaded_left}
use Rattle.oversampled_codes.specs.declared.Numbers.{Numbers}

-- A call of the direct reader; p is what it gives.
pub direct-left : {p : direct-call.Processed} {l : direct.Left} {n w : ℕ} {v : Float} {up down ring : List Float}
    → (p ≡ direct.processed_of l) × ((up ≡ l.up) × ((down ≡ l.down) × (ring ≡ l.ring)))
    → (n ≡ number_of p.answer) × ((v ≡ value_of p.answer) × (w ≡ p.state.accepted))
    → leaves n v (numbers w p.state.inner p.state.previous) (held_once up down ring) ≡ direct_left l
direct-left e h = rw (h.0, h.1.0, h.1.1, e.0, e.1.0, e.1.1.0, e.1.1.1)

-- The same for the cascaded reader.
pub cascaded-left : {p : cascaded-call.Processed} {l : cascaded.Left} {n w : ℕ} {v : Float}
    {up1 up2 down2 down1 ring : List Float}
    → (p ≡ cascaded.processed_of l)
    × ((up1 ≡ l.up1) × ((up2 ≡ l.up2) × ((down2 ≡ l.down2) × ((down1 ≡ l.down1) × (ring ≡ l.ring)))))
    → (n ≡ number_of p.answer) × ((v ≡ value_of p.answer) × (w ≡ p.state.accepted))
    → leaves n v (numbers w p.state.inner p.state.previous) (held_twice up1 up2 down2 down1 ring)
    ≡ cascaded_left l
cascaded-left e h =
    rw (h.0, h.1.0, h.1.1, e.0, e.1.0, e.1.1.0, e.1.1.1.0, e.1.1.1.1.0, e.1.1.1.1.1)

-- An opening or a reset of either reader; o is what was opened.
pub renewed : {O H : Type 0} (number : O → ℕ) (after : O → Numbers) {o q : O} {n : ℕ} {w : Numbers} {xs ys : H}
    → o ≡ q → xs ≡ ys → n ≡ number o → w ≡ after o → renews n w xs ≡ renews (number q) (after q) ys
renewed number after e s n w = rw (n, w, e, s)

-- The slices that the readers hold.
pub all_held : {up down ring up' down' ring' : List Float}
    → (up ≡ up') × ((down ≡ down') × (ring ≡ ring')) → held_once up down ring ≡ held_once up' down' ring'
all_held e = rw (e.0, e.1.0, e.1.1)

pub all-held-twice : {up1 up2 down2 down1 ring up1' up2' down2' down1' ring' : List Float}
    → (up1 ≡ up1') × ((up2 ≡ up2') × ((down2 ≡ down2') × ((down1 ≡ down1') × (ring ≡ ring'))))
    → held_twice up1 up2 down2 down1 ring ≡ held_twice up1' up2' down2' down1' ring'
all-held-twice e = rw (e.0, e.1.0, e.1.1.0, e.1.1.1.0, e.1.1.1.1)

-- The same with the coefficients, which an opening writes.
pub designed-held : {c up down ring c' up' down' ring' : List Float}
    → (c ≡ c') × ((up ≡ up') × ((down ≡ down') × (ring ≡ ring')))
    → designs c (held_once up down ring) ≡ designs c' (held_once up' down' ring')
designed-held e = rw (e.0, e.1.0, e.1.1.0, e.1.1.1)

pub designed-twice : {c l up1 up2 down2 down1 ring c' l' up1' up2' down2' down1' ring' : List Float}
    → (c ≡ c') × ((l ≡ l')
    × ((up1 ≡ up1') × ((up2 ≡ up2') × ((down2 ≡ down2') × ((down1 ≡ down1') × (ring ≡ ring'))))))
    → designs_twice c l (held_twice up1 up2 down2 down1 ring)
    ≡ designs_twice c' l' (held_twice up1' up2' down2' down1' ring')
designed-twice e =
    rw (e.0, e.1.0, e.1.1.0, e.1.1.1.0, e.1.1.1.1.0, e.1.1.1.1.1.0, e.1.1.1.1.1.1)
