-- If the sides are not displaced, their phases are one float, and so are the offsets. Assumes nothing.
use Rattle.std.proofs.Common.{◌≡◌, Bool, ◌&&◌, T, eqb, sym, ap, ◌∙◌, subst, eqb→eq}
use lib.Ieee.{Float, binary64, fits, eq, neg, add, mul, of_bits, to_bits}
use lib.Ieee.Fits.{and_l, and_r, add-fits}
use Rattle.min_max.specs.Choice.{clamped}
use Rattle.bit_patterns.proofs.Quiet.{float_back}
use Rattle.oscillator_ranges.specs.Constants.{zero, one}
use Rattle.modulation_params.specs.declared.ModulationParams.{ModulationParams}
use Rattle.modulation_engine.specs.declared.ModulationEngine.{ModulationEngine}
use Rattle.modulation_sample.specs.Sample.{side_phase, render_of}

one-float : (a b : Float) → T (fits binary64 a) → T (fits binary64 b)
    → T (eq a b && eqb (to_bits binary64 a) (to_bits binary64 b)) → a ≡ b
one-float a b A B t =
    sym (float_back binary64 a A)
    ∙ ap (of_bits binary64) (eqb→eq _ _ (and_r (eq a b) (eqb (to_bits binary64 a) (to_bits binary64 b)) t))
    ∙ float_back binary64 b B

-- The phases of the two sides are one float, where z is the displacement.
abbrev pub one_float : Float → Float → Bool
one_float phase z =
    let a = add binary64 phase (neg z) in
    let b = add binary64 phase z in
    eq a b && eqb (to_bits binary64 a) (to_bits binary64 b)

phases : (phase z : Float) → T (one_float phase z) → add binary64 phase (neg z) ≡ add binary64 phase z
phases phase z t = one-float _ _ (add-fits binary64 phase (neg z)) (add-fits binary64 phase z) t

-- The f64 next to half of pi.
abbrev quarter : Float
quarter = of_bits binary64 0x3ff9_21fb_5444_2d18

pub one_side : (e : ModulationEngine) (p : ModulationParams) (z : Float) → z ≡ clamped p.stereo_amount zero one
    → T (one_float e.wow_phase (mul binary64 z quarter) && one_float e.flutter_phase (mul binary64 z quarter))
    → render_of e p (side_phase p) ≡ render_of e p (neg (side_phase p))
unfolding render_of
one_side e p z q t =
    let w =
    and_l (one_float e.wow_phase (mul binary64 z quarter))
    (one_float e.flutter_phase (mul binary64 z quarter)) t in
    let f =
    and_r (one_float e.wow_phase (mul binary64 z quarter))
    (one_float e.flutter_phase (mul binary64 z quarter)) t in
    let w' : T (one_float e.wow_phase (side_phase p)) =
    subst (λ (y : Float). T (one_float e.wow_phase (mul binary64 y quarter))) q w in
    let f' : T (one_float e.flutter_phase (side_phase p)) =
    subst (λ (y : Float). T (one_float e.flutter_phase (mul binary64 y quarter))) q f in
    rw (← phases e.wow_phase (side_phase p) w', ← phases e.flutter_phase (side_phase p) f')
