-- `cubic_farrow_f32::single` meets its contract: the pattern of a normal f32 is that of `narrowing`, by `normal-code`,
-- and has no sign. Assumes nothing.
use borrow.Author.Rules.{rules}
use mathlib.Core.Path.{◌≡◌, sym, subst, ◌∙◌, ap}
use mathlib.Core.Bool.{false, not}
use Prim.Native.Nat.{ℕ, ◌+◌, ◌-◌, ◌/◌, ◌^◌}
use native.Mathlib.Nat.{zero-add}
use native.Mathlib.Omega.{arith}
use lib.Dec.{T}
use lib.Bits.{bit_and, mask_lt}
use lib.Ieee.{Float, nan, inf, fin, binary32, binary64, fits, of_bits, to_bits, nan_bits, is_nan}
use lib.Ieee.Bits.{of_bits-to_bits}
use Rattle.magnitude.specs.Bounds.{AtMost}
use Rattle.rounding.specs.Operations.{narrowed}
use Rattle.rounding.proofs.Patterns.{sign-no-nan}
use Rattle.narrowing.specs.Nearest.{Rounds}
use Rattle.narrowing.proofs.Patterns.{normal-code}
use Rattle.cubic_farrow_f32.proofs.single.Statement.{statement}
use Rattle.cubic_farrow_f32.proofs.single.Tie as tie

number : (x : Float) → AtMost 1 x → T (not (is_nan x))
unfolding is_nan
number nan h = absurd h
number (inf s) h = tt
number (fin s m e) h = tt

-- The pattern r of the f32, without a sign.
no_nan : (b r : ℕ) → Rounds b r → T (not (nan_bits binary32 r))
no_nan b r R = subst (λ (z : ℕ). T (not (nan_bits binary32 z))) (zero-add r) (sign-no-nan binary32 false r R.small)

reads : (x : Float) → T (fits binary64 x) → (r : ℕ) → Rounds (to_bits binary64 x) r → of_bits binary32 r ≡ narrowed x
reads x held r R =
    ap (of_bits binary32) (sym (zero-add r))
    ∙ R.reads false
    ∙ ap (λ (z : ℕ). narrowed (of_bits binary64 z)) (zero-add (to_bits binary64 x))
    ∙ ap narrowed (of_bits-to_bits binary64 x held)

float-to-bits-b : tie.Need-float_to_bits-b
float-to-bits-b c = number c.args.x c.requires

abbrev B : tie.Start → ℕ
B c = to_bits binary64 c.args.x

abbrev pattern : ℕ → ℕ
pattern b = (b - 0x3800_0000_0000_0000 + (0x0fff_ffff + bit_and (b / 2 ^ 29) 1)) / 2 ^ 29

rounds : (c : tie.Then-b-lt5183643171103440896) → Rounds (B c.before.before) (pattern (B c.before.before))
rounds c = normal-code (B c.before.before) c.before.if-b-ge4039728865751334912.true c.if-b-lt5183643171103440896.true

held : (c : tie.Start) → T (fits binary64 c.args.x)
held c = subst T (sym c.well_formed.0.1) tt

add_r : tie.Need-overflow_add-r
add_r c = omega (arith, mask_lt (B c.before.before / 2 ^ 29) 1)

add-r-2 : tie.Need-overflow_add-r-then-b-lt5183643171103440896
add-r-2 c = omega (arith, mask_lt (B c.before.before / 2 ^ 29) 1, c.if-b-lt5183643171103440896.true)

cast-result : tie.Need-overflow_cast-result
cast-result c = record { fits = omega (arith, (rounds c).small) }

float-from-bits-result : tie.Need-float_from_bits-result
float-from-bits-result c = no_nan _ _ (rounds c)

returns : tie.Need-returns-then-b-lt5183643171103440896
returns c = reads _ (held c.before.before) _ (rounds c)

pub single_spec : {M : Type 1} → statement M
single_spec =
    tie.close (tie.spec float-to-bits-b (λ c. search rules) add_r add-r-2 cast-result float-from-bits-result returns
    (λ c κs. search rules) (λ c. search rules))
