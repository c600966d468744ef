-- W9e. There is no jump: from one call to the next no quality's share changes by more than 1 out of the length. A state
-- has shares too, which are those of the call that left it, and a call moves them by at most one step. (At length 0 all
-- shares are 0, and this says nothing.) Assumes nothing.
use mathlib.Core.Path.{◌≡◌, refl, sym, ◌∙◌, ap, subst}
use mathlib.Core.Bool.{Bool, true, false, cond}
use mathlib.Core.List.{List, [], ◌∷◌}
use Prim.Native.Nat.{ℕ, ◌+◌, ◌-◌, ◌≤◌, ◌<◌}
use native.Mathlib.Omega.{arith}
use borrow.Author.Tests.{leb-true, leb-false, eqb-true, eqb-false}
use lib.Dec.{leb, eqb}
use Rattle.quality_mode.specs.declared.QualityMode.{QualityMode}
use Rattle.quality_mode.specs.Quality.{same_q}
use Rattle.quality_fade.specs.Fade.{fade_of, length_ok}
use Rattle.quality_fade.proofs.StaysInRange.{both}
use Rattle.returning_fade.specs.declared.Rule.TheVariants.{Returning}
use Rattle.returning_fade.specs.declared.Direction.TheVariants.{Onwards, Back}
use Rattle.returning_fade.specs.declared.RuledFade.{RuledFade}
use Rattle.returning_fade.specs.declared.RuledTurn.{RuledTurn}
use Rattle.returning_fade.specs.Rules.{backwards, ruled, valid_of}
use Rattle.returning_fade.specs.Step.{aim_of, returning_turn, step_of}
use Rattle.returning_fade.specs.Runs.{turns_of, part, share_of, Close, Smooth}
use Rattle.returning_fade.proofs.States.{State, rests, runs, fade_in, direction_in, held, Fine, seen}
use Rattle.returning_fade.proofs.OneCall.{stays, at_once, starts, on, down, taken}
use Rattle.returning_fade.proofs.StaysInRange.{next, fine-next, reaches}

-- ---- shares of a mixed call at the weight w

abbrev both-parts : Bool → Bool → ℕ → ℕ → ℕ
both-parts a b n w = part a (n - w) + part b w

at-start : (a b : Bool) (n : ℕ) → part a n ≡ both-parts a b n 0
at-start true true n = omega arith
at-start true false n = omega arith
at-start false true n = refl
at-start false false n = refl

at-end : (a b : Bool) (n w : ℕ) → w ≡ n → both-parts a b n w ≡ part b n
at-end true true n w e = omega arith
at-end true false n w e = omega arith
at-end false true n w e = omega arith
at-end false false n w e = refl

up : (a b : Bool) (n w : ℕ) → w < n → Close (both-parts a b n w) (both-parts a b n (w + 1))
up true true n w l = (omega arith, omega arith)
up true false n w l = (omega arith, omega arith)
up false true n w l = (omega arith, omega arith)
up false false n w l = (omega arith, omega arith)

-- ---- shares of a state

abbrev standing : ℕ → State → QualityMode → ℕ
standing n (rests c p) r = part (same_q r c) n
standing n (runs c t p direction) r = both-parts (same_q r c) (same_q r t) n p

-- A call moves the shares by at most one.
moved : (n : ℕ) (q : QualityMode) (s : State) → Fine n s → (r : QualityMode)
    → Close (standing n s r) (standing n (next n q s) r)
moved n q (rests c p) f r = go (same_q q c) (leb n 1) refl
  where
    small : (a b : Bool) → n ≤ 1 → Close (part a n) (part b n)
    small true true l = (omega arith, omega arith)
    small true false l = (omega arith, omega arith)
    small false true l = (omega arith, omega arith)
    small false false l = (omega arith, omega arith)

    go : (a b : Bool) → leb n 1 ≡ b
        → Close (part (same_q r c) n)
        (standing n (cond a (rests c p) (cond b (rests q n) (runs c q 1 Onwards))) r)
    go true b l = (omega arith, omega arith)
    go false true l = small (same_q r c) (same_q r q) (leb-true n 1 l)
    go false false l =
        let m = leb-false n 1 l in
        rw (at-start (same_q r c) (same_q r q) n) (up (same_q r c) (same_q r q) n 0 (omega arith))
moved n q (runs c t p direction) f r =
    go (backwards (aim_of direction (fade_of c t p n) q)) (leb p 1) (leb n (p + 1)) refl refl
  where
    flip : {x y : ℕ} → Close x y → Close y x
    flip h = (h.1, h.0)

    go : (d e g : Bool) → leb p 1 ≡ e → leb n (p + 1) ≡ g
        → Close (both-parts (same_q r c) (same_q r t) n p)
        (standing n (cond d (cond e (rests c n) (runs c t (p - 1) Back))
        (cond g (rests t n) (runs c t (p + 1) Onwards))) r)
    go true true g l m =
        let o = leb-true p 1 l in
        let i : p ≡ 0 + 1 = omega (arith, f.1) in
        rw (i, at-start (same_q r c) (same_q r t) n) (flip (up (same_q r c) (same_q r t) n 0 (omega (arith, f.2))))
    go true false g l m =
        let o = leb-false p 1 l in
        let i : p ≡ p - 1 + 1 = omega arith in
        subst (λ (w : ℕ). Close (both-parts (same_q r c) (same_q r t) n w)
        (both-parts (same_q r c) (same_q r t) n (p - 1)))
        (sym i) (flip (up (same_q r c) (same_q r t) n (p - 1) (omega (arith, f.2))))
    go false e true l m =
        let o = leb-true n (p + 1) m in
        rw (← at-end (same_q r c) (same_q r t) n (p + 1) (omega (arith, f.2)))
        (up (same_q r c) (same_q r t) n p f.2)
    go false e false l m = up (same_q r c) (same_q r t) n p f.2

-- The shares of a call are those of the state that it leaves.
abbrev share : QualityMode → RuledTurn → ℕ
share r t = share_of t.turn r

leaves : (n : ℕ) (q : QualityMode) (s : State) → Fine n s → (r : QualityMode)
    → share r (returning_turn (direction_in s) (fade_in n s) q) ≡ standing n (next n q s) r
leaves n q (rests c p) f r = go (same_q q c) (leb n 1) (eqb n 0) refl refl refl
  where
    go : (a b z : Bool) → same_q q c ≡ a → leb n 1 ≡ b → eqb n 0 ≡ z
        → share r (returning_turn Onwards (fade_of c c p n) q)
        ≡ standing n (cond a (rests c p) (cond b (rests q n) (runs c q 1 Onwards))) r
    go true b z e l k = ap (share r) (stays n q c p e)
    go false true true e l k = ap (share r) (at_once n q c p e (eqb-true n 0 k))
    go false true false e l k =
        let m = eqb-false n 0 k in
        let o = leb-true n 1 l in
        ap (share r) (starts n q c p e (omega arith)) ∙ at-end (same_q r c) (same_q r q) n 1 (omega arith)
    go false false z e l k = let m = leb-false n 1 l in ap (share r) (starts n q c p e (omega arith))
leaves n q (runs c t p direction) f r =
    go (backwards (aim_of direction (fade_of c t p n) q)) (leb p 1) (leb n (p + 1)) refl refl refl
  where
    go : (a b d : Bool) → backwards (aim_of direction (fade_of c t p n) q) ≡ a → leb p 1 ≡ b → leb n (p + 1) ≡ d
        → share r (returning_turn direction (fade_of c t p n) q)
        ≡ standing n (cond a (cond b (rests c n) (runs c t (p - 1) Back))
        (cond d (rests t n) (runs c t (p + 1) Onwards))) r
    go true true d e l m = ap (share r) (down n q c t p direction f.0 e) ∙ rw l
    go true false d e l m = ap (share r) (down n q c t p direction f.0 e) ∙ rw l
    go false b true e l m =
        let o = leb-true n (p + 1) m in
        ap (share r) (on n q c t p direction f.0 e)
        ∙ at-end (same_q r c) (same_q r t) n (p + 1) (omega (arith, f.2))
    go false b false e l m = ap (share r) (on n q c t p direction f.0 e)

-- ---- a run

module _ (n : ℕ) (fits : length_ok n ≡ true) where
  read : (q : QualityMode) (s : State) → Fine n s → (r : QualityMode)
      → share r (step_of (held n s) q) ≡ standing n (next n q s) r
  read q s f r = ap (share r) (taken n q s fits f) ∙ leaves n q s f r

  smooth : (s : State) → Fine n s → (qs : List QualityMode) → Smooth (turns_of (held n s) qs)
  unfolding turns_of Smooth
  smooth s f [] = tt
  smooth s f (q ∷ []) = tt
  smooth s f (q ∷ p ∷ qs) =
      let k = next n q s in
      let g = fine-next n q s f in
      subst (λ (x : RuledFade). Smooth ((step_of (held n s) q).turn ∷ turns_of x (p ∷ qs)))
      (sym (reaches n q s fits f)) (
        (λ r. subst (λ (a : ℕ). Close a (share r (step_of (held n k) p))) (sym (read q s f r))
            (subst (λ (b : ℕ). Close (standing n k r) b) (sym (read p k g r)) (moved n p k g r))),
        smooth k g (p ∷ qs),
      )

pub no_jump : (s : RuledFade) → s.rule ≡ Returning → valid_of s ≡ true → (qs : List QualityMode)
    → Smooth (turns_of s qs)
no_jump s e v qs =
    let n = s.fade.crossfade_samples in
    let i : ruled Returning s.direction s.fade ≡ s = rw (← e) in
    let p = both (length_ok n) _ (subst (λ (x : RuledFade). valid_of x ≡ true) (sym i) v) in
    let k = seen s.direction s.fade p.1 in
    subst (λ (x : RuledFade). Smooth (turns_of x qs)) (sym k.is ∙ i) (smooth n p.0 k.state k.fine qs)
