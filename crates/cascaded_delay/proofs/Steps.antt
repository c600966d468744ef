-- A quarter and a half of a call, from the contracts of the calls within them. Assumes nothing.
use mathlib.Core.Path.{◌≡◌, ap, ◌∙◌}
use mathlib.Core.List.{List}
use Prim.Native.Nat.{ℕ, ◌+◌, ◌*◌}
use lib.Ieee.{Float, binary64, mul}
use Rattle.constants.specs.Numbers.{two-f}
use Rattle.variable_delay.specs.Reader.{Reading, processed}
use Rattle.high_delay.specs.Between.{high_delay}
use Rattle.fir_filter.specs.Filters.{pushed, output_of}
use Rattle.inner_reader.specs.declared.Stepped.{Stepped}
use Rattle.inner_reader.specs.Inner.{stepped_of, ring_stepped}
use Rattle.cascaded_delay.specs.Halves.{Turn, Inner, High, inner_of, high_of, quarter_of, half_of, both_of}
use Rattle.cascaded_delay.specs.declared.CascadedOversampledVariableDelay4x.{CascadedOversampledVariableDelay4x}

-- A quarter: o is what the upsampler gave, y the delay, s what the inner reader gave.
module _ (read : Reading) (d : CascadedOversampledVariableDelay4x) (halfband : List Float) (from delay : Float)
    (p q : ℕ) (up2 : List Float) (h : Inner) {o y : Float} {s : Stepped} {down2 ring : List Float}
    (raised : o ≡ output_of halfband up2 (2 * d.accepted + p + 1) 2 q)
    (delayed : y ≡ high_delay from delay (2 * p + q + 1) 4)
    (stepped : s ≡ stepped_of (processed read (inner_of d h.inner) h.ring (mul binary64 o two-f) y))
    (stored : ring ≡ ring_stepped (inner_of d h.inner) h.ring (mul binary64 o two-f) y)
    (put : down2 ≡ pushed h.down2 (4 * d.accepted + (2 * p + q)) s.sample) where
  pub one-quarter : (s.accepted ≡ (quarter_of read d halfband from delay p q up2 h).inner)
      × ((down2 ≡ (quarter_of read d halfband from delay p q up2 h).down2)
      × (ring ≡ (quarter_of read d halfband from delay p q up2 h).ring))
  unfolding quarter_of
  one-quarter =
      (rw (stepped, raised, delayed), (rw (put, stepped, raised, delayed), rw (stored, raised, delayed)))

-- A half: o is what the first upsampler gave, i, w and g what the first quarter left, and so on for the second.
module _ (t : Turn) (p : ℕ) (h : High) {o low : Float} {i j : ℕ} {up2 w v down1 g r : List Float}
    (raised : o ≡ output_of t.halfband t.up1 (t.state.accepted + 1) 2 p)
    (put : up2 ≡ pushed h.up2 (2 * t.state.accepted + p) (mul binary64 o two-f))
    (first : let a =
    quarter_of t.read t.state t.halfband t.from t.delay p 0 up2
    (high_of h.inner h.down2 h.ring) in
    (i ≡ a.inner) × ((w ≡ a.down2) × (g ≡ a.ring)))
    (second : let b =
    quarter_of t.read t.state t.halfband t.from t.delay p 1 up2 (high_of i w g) in
    (j ≡ b.inner) × ((v ≡ b.down2) × (r ≡ b.ring)))
    (lowered : low ≡ output_of t.halfband v (4 * t.state.accepted + 2 * p + 2) 1 0)
    (last : down1 ≡ pushed h.down1 (2 * t.state.accepted + p) low) where
  abbrev quarter : ℕ → List Float → Inner → Inner
  quarter q u = quarter_of t.read t.state t.halfband t.from t.delay p q u

  abbrev before : Inner
  before = high_of h.inner h.down2 h.ring

  pub one-half : (j ≡ (half_of t p h).inner)
      × ((up2 ≡ (half_of t p h).up2)
      × ((v ≡ (half_of t p h).down2) × ((down1 ≡ (half_of t p h).down1) × (r ≡ (half_of t p h).ring))))
  unfolding half_of
  one-half =
      let a : high_of i w g ≡ quarter 0 up2 before = rw (first.0, first.1.0, first.1.1) in
      let b : high_of j v r ≡ quarter 1 up2 (high_of i w g) = rw (second.0, second.1.0, second.1.1) in
      let u : up2
      ≡ pushed h.up2 (2 * t.state.accepted + p)
      (mul binary64 (output_of t.halfband t.up1 (t.state.accepted + 1) 2 p) two-f) = put ∙ rw raised in
      let e = b ∙ ap (quarter 1 up2) a ∙ ap (λ (z : List Float). quarter 1 z (quarter 0 z before)) u in
      let f = ap (λ (z : Inner). z.down2) e in
      (ap (λ (z : Inner). z.inner) e, (u, (f, (last ∙ rw (lowered, f), ap (λ (z : Inner). z.ring) e))))

-- What is left is h: each of its parts.
abbrev pub Leaves : High → ℕ → List Float → List Float → List Float → List Float → Type 0
Leaves h inner up2 down2 down1 ring =
    (inner ≡ h.inner)
    × ((up2 ≡ h.up2) × ((down2 ≡ h.down2) × ((down1 ≡ h.down1) × (ring ≡ h.ring))))

abbrev pub joined : ℕ → List Float → List Float → List Float → List Float → High
joined inner up2 down2 down1 ring =
    record { inner = inner; up2 = up2; down2 = down2; down1 = down1; ring = ring }

whole : (h : High) (inner : ℕ) (up2 down2 down1 ring : List Float) → Leaves h inner up2 down2 down1 ring
    → joined inner up2 down2 down1 ring ≡ h
whole h inner up2 down2 down1 ring p = rw (p.0, p.1.0, p.1.1.0, p.1.1.1.0, p.1.1.1.1)

pub parts : (h : High) (inner : ℕ) (up2 down2 down1 ring : List Float) → joined inner up2 down2 down1 ring ≡ h
    → Leaves h inner up2 down2 down1 ring
parts h inner up2 down2 down1 ring e = (
  ap (λ (z : High). z.inner) e,
  (
    ap (λ (z : High). z.up2) e,
    (ap (λ (z : High). z.down2) e, (ap (λ (z : High). z.down1) e, ap (λ (z : High). z.ring) e)),
  ),
)

-- Both halves in turn.
pub both_halves : (t : Turn) (h : High) (i j : ℕ) (a b c d a' b' c' d' : List Float) → Leaves (half_of t 0 h) i a b c d
    → Leaves (half_of t 1 (joined i a b c d)) j a' b' c' d' → Leaves (both_of t h) j a' b' c' d'
both_halves t h i j a b c d a' b' c' d' p q =
    parts (both_of t h) j a' b' c' d'
    (whole (half_of t 1 (joined i a b c d)) j a' b' c' d' q ∙ ap (half_of t 1) (whole (half_of t 0 h) i a b c d p))
