-- D1c, K8. What a call of a quality reader leaves. A refused call leaves no trace, wherever it stands in a run: the
-- quality that it requested is forgotten too. This includes a call with a bad bank. Assumes nothing.
use mathlib.Core.Path.{◌≡◌, refl, subst}
use mathlib.Core.Bool.{false}
use mathlib.Core.List.{List, ◌∷◌, ◌++◌}
use Prim.Native.Nat.{ℕ, suc}
use lib.Dec.{T}
use lib.ListN.{length}
use Rattle.variable_delay.specs.Reader.{Reading}
use Rattle.runs.proofs.Calls as calls
use Rattle.quality_mode.specs.declared.QualityMode.{QualityMode}
use Rattle.quality_variable_delay.specs.Reader.{verdict, ring_after, processed_by}
use Rattle.quality_variable_delay.proofs.AcceptedCall.{taken}
use Rattle.quality_runs.specs.Runs.{Call, Reader, fit, after_by, due, after, run, accepted}

-- A reader's call leaves `after`, whatever its qualities read: the state in its answer, and the ring.
pub leaves : (read : QualityMode → Reading) (r : Reader) (c : Call)
    → let v = verdict c.bank c.lent r.state (length r.ring) c.input c.delay c.playback-rate in
    ((processed_by read v r.state r.ring c.input c.delay c.quality).state ≡ (after r c).state)
    × (ring_after v r.state r.ring c.input ≡ (after r c).ring)
leaves read r c = (refl, refl)

-- A refused call changes nothing.
pub stays : (k : ℕ) (r : Reader) (c : Call) → after_by (suc k) r c ≡ r
stays k r c = refl

-- A run of the accepted calls alone leaves the same.
pub refused-leave-nothing : (r : Reader) (cs : List Call) → run r (accepted r cs) ≡ run r cs
refused-leave-nothing = calls.refused-leave-nothing due after_by stays

unfit-due : (r : Reader) (c : Call) → fit c ≡ false → due r c ≡ 0 → ⊥
unfit-due r c h e =
    let t = taken c.bank c.lent r.state (length r.ring) c.input c.delay c.playback-rate e in
    let whole : T (fit c) = rw (t.banked, t.lasting) tt in
    subst T h whole

module _ (r : Reader) (xs : List Call) (c : Call) (ys : List Call) where
  pub refused-anywhere : (due (run r xs) c ≡ 0 → ⊥)
      → (run r (xs ++ c ∷ ys) ≡ run r (xs ++ ys)) × (accepted r (xs ++ c ∷ ys) ≡ accepted r (xs ++ ys))
  refused-anywhere = calls.refused-anywhere due after_by stays r xs c ys

  -- A call with a bad bank is refused, whatever the reader.
  pub unfit-anywhere : fit c ≡ false
      → (run r (xs ++ c ∷ ys) ≡ run r (xs ++ ys)) × (accepted r (xs ++ c ∷ ys) ≡ accepted r (xs ++ ys))
  unfit-anywhere h = refused-anywhere (unfit-due (run r xs) c h)
