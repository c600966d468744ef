-- The second upsampler's history at a call's first half, from its history after the call: the sample of the second half
-- stands where the sample of 33 pushes before stood, and with that one put back the first half's history is there.
-- Assumes nothing.
use Rattle.std.proofs.Common.{◌≡◌, ℕ, ◌+◌, ◌*◌, ◌%◌, ◌^◌, ◌<◌, Bool, false, List, length, get_or, set, ap, div-add-mod'}
use Rattle.std.proofs.Common.{arith, length-set, get_or-set_other, set-set, lt-ltb}
use lib.Seq.{set-get_or}
use lib.Ieee.{Float, nan}
use Rattle.fir_filter.specs.Filters.{pushed}
use Rattle.told_oversampled.specs.Reckoned.{accepted_of, accepts_at, saved_of, quarters_accepted}

-- Two pushes that follow each other go to two places.
apart : (a b : ℕ) → b ≡ a + 1 → (b + 1) % 33 ≡ (a + 1) % 33 → ⊥
apart a b h e = omega (arith, div-add-mod' (b + 1) 33, div-add-mod' (a + 1) 33)

pub put_back : (us : List Float) (a b : ℕ) (r s : Float) → b ≡ a + 1 → length us ≡ 33
    → pushed (pushed (pushed us a r) b s) b (get_or us ((b + 1) % 33) nan) ≡ pushed us a r
put_back us a b r s h e =
    let i = (a + 1) % 33 in
    let j = (b + 1) % 33 in
    rw (
      length-set (set us ((a + 1) % length us) r),
      length-set us,
      e,
      set-set (set us i r) j,
      ← get_or-set_other us i j r nan (apart a b h),
    ) (set-get_or (set us i r) j nan)

-- What the code saves before an accepted call.
pub saved-is : (us : List Float) (a : ℕ) → length us ≡ 33 → a < 2 ^ 34
    → saved_of us a ≡ get_or us ((2 * a + 1 + 1) % 33) nan
saved-is us a e h =
    rw (lt-ltb a (2 ^ 34) h, e) (ap (λ (n : ℕ). get_or us (n % 33) nan) (two-more (2 * a)))
  where
    two-more : (n : ℕ) → n + 2 ≡ n + 1 + 1
    two-more n = omega arith

-- What the code tests, and that it leaves the history as it was.
pub both_halves : (c us : List Float) (n : ℕ) (x : Float) → length us ≡ 33 → n < 2 ^ 34 → {y : Float}
    {vs ws : List Float} {p q r s : Bool}
    → y ≡ saved_of us n → r ≡ accepts_at c us (2 * n + 2) 2 0 → s ≡ accepts_at c us (2 * n + 2) 2 1
    → vs ≡ pushed us (2 * n + 1) x → p ≡ accepts_at c vs (2 * n + 1) 2 0 → q ≡ accepts_at c vs (2 * n + 1) 2 1
    → ws ≡ pushed vs (2 * n + 1) y
    → (accepted_of p q r s ≡ quarters_accepted false c us n x) × (ws ≡ us)
both_halves c us n x e l ey er es ev ep eq ew =
    let j = (2 * n + 1 + 1) % 33 in (
      rw (ep, eq, er, es, ev),
      rw (ew, ev, ey, saved-is us n e l, length-set us, e, set-set us j) (set-get_or us j nan),
    )
