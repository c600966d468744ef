-- W9f. Once the request stays the same, every call from number 2N on, counted from 0, reads that quality alone, from
-- every state in its ranges, because each call brings the end one step nearer. Assumes nothing.
use mathlib.Core.Path.{◌≡◌, refl, sym, ◌∙◌, subst}
use mathlib.Core.Bool.{Bool, true, false, cond}
use Prim.Native.Nat.{ℕ, zero, suc, ◌+◌, ◌-◌, ◌*◌, ◌≤◌}
use native.Mathlib.Omega.{arith}
use borrow.Author.Tests.{leb-true, leb-false}
use lib.Dec.{leb}
use lib.ListN.{replicate}
use Rattle.quality_mode.specs.declared.QualityMode.{QualityMode}
use Rattle.quality_mode.specs.Quality.{same_q}
use Rattle.quality_mode.proofs.Equal.{same-eq, same_refl}
use Rattle.quality_fade.specs.Fade.{length_ok}
use Rattle.quality_fade.proofs.StaysInRange.{both}
use Rattle.returning_fade.specs.declared.Rule.TheVariants.{Returning}
use Rattle.returning_fade.specs.declared.Direction.{Direction}
use Rattle.returning_fade.specs.declared.Direction.TheVariants.{Onwards, Back}
use Rattle.returning_fade.specs.declared.RuledFade.{RuledFade}
use Rattle.returning_fade.specs.declared.RuledTurn.{RuledTurn}
use Rattle.returning_fade.specs.Rules.{backwards, ruled, valid_of}
use Rattle.returning_fade.specs.Step.{step_of}
use Rattle.returning_fade.specs.Runs.{left_of, PlainIn}
use Rattle.returning_fade.proofs.States.{State, rests, runs, held, Fine, seen}
use Rattle.returning_fade.proofs.OneCall.{stays, at_once, taken}
use Rattle.returning_fade.proofs.StaysInRange.{next, fine-next, reaches}

-- The number of calls requesting q before the first that reads q alone.
abbrev to_go : ℕ → QualityMode → State → ℕ
to_go n q (rests c p) = cond (same_q q c) 0 n
to_go n q (runs c t p direction) =
    cond (same_q q t) (n - p) (cond (same_q q c) p (cond (backwards direction) (p + n) (n - p + n)))

at_most : (n : ℕ) (q : QualityMode) (s : State) → Fine n s → to_go n q s ≤ 2 * n
at_most n q (rests c p) f = go (same_q q c)
  where
    go : (a : Bool) → cond a 0 n ≤ 2 * n
    go true = omega arith
    go false = omega arith
at_most n q (runs c t p direction) f = go (same_q q t) (same_q q c) (backwards direction)
  where
    go : (a b d : Bool) → cond a (n - p) (cond b p (cond d (p + n) (n - p + n))) ≤ 2 * n
    go true b d = omega arith
    go false true d = omega (arith, f.2)
    go false false true = omega (arith, f.2)
    go false false false = omega arith

nearer : (n : ℕ) (q : QualityMode) (s : State) → Fine n s → to_go n q (next n q s) ≡ to_go n q s - 1
nearer n q (rests c p) f = go (same_q q c) (leb n 1) refl refl
  where
    go : (a b : Bool) → same_q q c ≡ a → leb n 1 ≡ b
        → to_go n q (cond a (rests c p) (cond b (rests q n) (runs c q 1 Onwards))) ≡ cond a 0 n - 1
    go true b e l = rw e
    go false true e l = let m = leb-true n 1 l in rw (same_refl q) (omega arith)
    go false false e l = rw (same_refl q)
nearer n q (runs c t p direction) f = go (same_q q t) (same_q q c) direction (leb p 1) (leb n (p + 1)) refl refl refl
    refl
  where
    go : (a b : Bool) (way : Direction) (d g : Bool) → same_q q t ≡ a → same_q q c ≡ b → leb p 1 ≡ d → leb n (p + 1) ≡ g
        → to_go n q
        (cond (backwards (cond a Onwards (cond b Back way))) (cond d (rests c n) (runs c t (p - 1) Back))
        (cond g (rests t n) (runs c t (p + 1) Onwards)))
        ≡ cond a (n - p) (cond b p (cond (backwards way) (p + n) (n - p + n))) - 1
    go true b way d true e h l m = let o = leb-true n (p + 1) m in rw e (omega arith)
    go true b way d false e h l m = rw e (omega arith)
    go false true way true g e h l m = let o = leb-true p 1 l in rw h (omega arith)
    go false true way false g e h l m = rw (e, h)
    go false false Back true g e h l m = let o = leb-true p 1 l in rw h (omega (arith, f.1))
    go false false Back false g e h l m = let o = leb-false p 1 l in rw (e, h) (omega arith)
    go false false Onwards d true e h l m = let o = leb-true n (p + 1) m in rw e (omega (arith, f.2))
    go false false Onwards d false e h l m = let o = leb-false n (p + 1) m in rw (e, h) (omega arith)

module _ (n : ℕ) (fits : length_ok n ≡ true) (q : QualityMode) where
  arrived : (s : State) → Fine n s → to_go n q s ≡ 0 → PlainIn q (step_of (held n s) q).turn
  arrived (rests c p) f z = go (same_q q c) refl z
    where
      go : (a : Bool) → same_q q c ≡ a → cond a 0 n ≡ 0
          → PlainIn q (step_of (held n (rests c p)) q).turn
      go true e k =
          subst (λ (t : RuledTurn). PlainIn q t.turn) (sym (taken n q (rests c p) fits f ∙ stays n q c p e))
          record { plain = refl; reads = sym (same-eq q c e) }
      go false e k =
          subst (λ (t : RuledTurn). PlainIn q t.turn) (sym (taken n q (rests c p) fits f ∙ at_once n q c p e k))
          record { plain = refl; reads = refl }
  arrived (runs c t p direction) f z = absurd (go (same_q q t) (same_q q c) (backwards direction) z)
    where
      go : (a b d : Bool) → cond a (n - p) (cond b p (cond d (p + n) (n - p + n))) ≡ 0 → ⊥
      go true b d e = omega (arith, f.2)
      go false true d e = omega (arith, f.1)
      go false false true e = omega (arith, f.1)
      go false false false e = omega (arith, f.2)

  near : (k : ℕ) (s : State) → Fine n s → to_go n q s ≤ k
      → PlainIn q (step_of (left_of (held n s) (replicate k q)) q).turn
  unfolding left_of
  near zero s f l = arrived s f (omega arith)
  near (suc k) s f l =
      subst (λ (x : RuledFade). PlainIn q (step_of (left_of x (replicate k q)) q).turn) (sym (reaches n q s fits f))
      (near k (next n q s) (fine-next n q s f) (omega (arith, nearer n q s f)))

-- After k calls that request q, 2N or more, the next reads q alone.
pub settles : (s : RuledFade) → s.rule ≡ Returning → valid_of s ≡ true → (q : QualityMode) (k : ℕ)
    → 2 * s.fade.crossfade_samples ≤ k
    → PlainIn q (step_of (left_of s (replicate k q)) q).turn
settles s e v q k l =
    let n = s.fade.crossfade_samples in
    let i : ruled Returning s.direction s.fade ≡ s = rw (← e) in
    let p = both (length_ok n) _ (subst (λ (x : RuledFade). valid_of x ≡ true) (sym i) v) in
    let z = seen s.direction s.fade p.1 in
    subst (λ (x : RuledFade). PlainIn q (step_of (left_of x (replicate k q)) q).turn) (sym z.is ∙ i)
    (near n p.0 q k z.state z.fine (omega (arith, at_most n q z.state z.fine)))
