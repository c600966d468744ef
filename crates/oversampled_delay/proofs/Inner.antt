-- W11d. Inside an accepted call nothing but 4 can be due: with its settings, its ring, its count and its delay in range
-- the inner reader refuses exactly a sample that is not finite. And what the phases leave: at most one inner sample
-- more for each, and a ring of the same length. Assumes nothing.
use Rattle.std.proofs.Common.{◌≡◌, ℕ, zero, suc, ◌+◌, ◌^◌, ◌<◌, ◌≤◌, true, cond, T, List, length, refl, ap, ◌∙◌}
use Rattle.std.proofs.Common.{mul-le-mul_right, arith, length-set, lt-ltb, eq-eqb, le-leb}
use lib.Ieee.{Float, binary64, le, fits}
use lib.Ieee.Bits.{is_true}
use lib.Ieee.Scale.{finite}
use Rattle.constants.specs.Numbers.{zero-f, limit-f}
use Rattle.ring.specs.Length.{settings_ok, length_for}
use Rattle.interval.proofs.Between.{Between, between}
use Rattle.variable_delay.specs.Reader.{Reading, verdict, ring_after, processed_by}
use Rattle.variable_delay.specs.declared.VariableDelay.{VariableDelay}
use Rattle.high_delay.proofs.Inner.{inner-range}
use Rattle.inner_reader.specs.Inner.{stepped_of, ring_stepped}
use Rattle.oversampled_delay.specs.Phases.{Turn, High, Ready, inner_of, raised_of, delay_of, phase_of, phases_of}
use Rattle.oversampled_delay.specs.Inside.{OnlyFour, Tested}

pub only-four : (d : VariableDelay) (len : ℕ) (x y : Float) → settings_ok d.maximum d.margin ≡ true
    → len ≡ length_for d.maximum d.margin → d.accepted < 2 ^ 36 → Between zero-f limit-f y
    → verdict true true d len x y ≡ cond (finite x) 0 4
only-four d len x y settings long room b =
    rw (
      settings,
      eq-eqb len (length_for d.maximum d.margin) long,
      le-leb d.accepted (2 ^ 36) (omega arith),
      is_true (finite y) b.above.second,
      is_true (le zero-f y) b.above.order,
      is_true (le y limit-f) b.below.order,
      lt-ltb d.accepted (2 ^ 36) room,
    )

-- ---- one inner call, whatever its verdict is
pub one_more : (read : Reading) (v : ℕ) (d : VariableDelay) (xs : List Float) (x y : Float)
    → (stepped_of (processed_by read v d xs x y)).accepted ≤ d.accepted + 1
one_more read zero d xs x y = omega arith
one_more read (suc k) d xs x y = omega arith

same-long : (v : ℕ) (d : VariableDelay) (xs : List Float) (x : Float) → length (ring_after v d xs x) ≡ length xs
same-long zero d xs x = length-set xs _ x
same-long (suc k) d xs x = refl

pub ring_long : (d : VariableDelay) (xs : List Float) (x y : Float) → length (ring_stepped d xs x y) ≡ length xs
ring_long d xs x y = same-long (verdict true true d (length xs) x y) d xs x

-- ---- after n phases
pub phases-inner : (t : Turn) (h : High) (n : ℕ) → (phases_of t h n).inner ≤ h.inner + n
unfolding phases_of phase_of
phases-inner t h zero = omega arith
phases-inner t h (suc n) =
    let g = phases_of t h n in
    let d = inner_of t.state g.inner in
    let a =
    one_more t.read (verdict true true d (length g.ring) (raised_of t n) (delay_of t n)) d g.ring (raised_of t n)
    (delay_of t n) in
    omega (arith, a, phases-inner t h n)

pub phases-ring : (t : Turn) (h : High) (n : ℕ) → length (phases_of t h n).ring ≡ length h.ring
unfolding phases_of phase_of
phases-ring t h zero = refl
phases-ring t h (suc n) =
    let g = phases_of t h n in
    ring_long (inner_of t.state g.inner) g.ring (raised_of t n) (delay_of t n) ∙ phases-ring t h n

-- Before phase n, from what the call has tested. The delay before the first phase is a number of the format, as every
-- f64 is.
pub only-four-inside : (t : Turn) (h : High) → Ready t.state
    → Tested t.state (length h.ring) t.from t.delay → T (fits binary64 t.from)
    → h.inner ≡ t.state.inner
    → (n : ℕ) → n < t.state.factor → {g : High} → g ≡ phases_of t h n
    → OnlyFour (inner_of t.state g.inner) (length g.ring) (delay_of t n)
only-four-inside t h r s f begin n below {g} e =
    let d = t.state in
    let counted : g.inner ≡ (phases_of t h n).inner = ap (λ (z : High). z.inner) e in
    let small = mul-le-mul_right d.accepted r.few in
    let room : g.inner < 2 ^ 36 =
    omega (arith, counted, phases-inner t h n, begin, s.counted, r.room, r.few, small, below) in
    record {
      due = λ x.
          only-four (inner_of d g.inner) (length g.ring) x (delay_of t n) s.settings
          (ap (λ (z : High). length z.ring) e ∙ phases-ring t h n ∙ s.long) room
          (inner-range d.factor s.either t.from t.delay (n + 1) (omega (arith, below)) f
          (between tt tt s.from_low s.from-high) (between tt tt s.delay-low s.delay-high));
    }
