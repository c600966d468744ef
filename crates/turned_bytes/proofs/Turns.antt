-- One sample is reversed in place, and then one more. By the bytes before the sample and those from it on. Assumes
-- nothing.
use mathlib.Core.Path.{◌≡◌, refl, ap, ◌∙◌}
use mathlib.Core.List.{List, [], ◌∷◌, ◌++◌, reverse, append_assoc}
use mathlib.Core.Logic.{⊎_elim}
use Prim.Native.Nat.{ℕ, zero, suc, ◌+◌, ◌*◌, ◌/◌, ◌≤◌, ◌<◌}
use native.Mathlib.Numerals.{add-one}
use native.Mathlib.Nat.{suc-mul, zero-mul, zero-add, suc-add, mul-le-mul_right, eq-or-lt_of_le, div-add-mod'}
use native.Mathlib.Omega.{arith}
use lib.ListN.{length, take, drop, set, get_or}
use lib.ListN.{length-append, length-take, length-drop, length-reverse, take-append-drop}
use lib.Seq.{length-take-le, get_or-append_seam, get_or-append-add, set-append_seam, take-append-add, drop-append-add}
use Rattle.turned_bytes.specs.Turned.{turned_first, turned_at}

-- ---- two bytes are swapped
set-behind : (p ys : List ℕ) (k a : ℕ) → set (p ++ ys) (length p + k) a ≡ p ++ set ys k a
set-behind [] ys k a = rw zero-add
set-behind (x ∷ p) ys k a = rw suc-add (ap (λ (l : List ℕ). x ∷ l) (set-behind p ys k a))

two-behind : (p q : List ℕ) → 2 ≤ length q
    → set (set (p ++ q) (length p) (get_or (p ++ q) (length p + 1) 0)) (length p + 1) (get_or (p ++ q) (length p) 0)
    ≡ p ++ (reverse (take 2 q) ++ drop 2 q)
two-behind p [] h = absurd (omega arith)
two-behind p (a ∷ []) h = absurd (omega arith)
two-behind p (a ∷ b ∷ r) h =
    rw (get_or-append-add p (a ∷ b ∷ r) 1 0, get_or-append_seam p a (b ∷ r) 0, set-append_seam p a (b ∷ r) b)
    (set-behind p (b ∷ b ∷ r) 1 a)

three-behind : (p q : List ℕ) → 3 ≤ length q
    → set (set (p ++ q) (length p) (get_or (p ++ q) (length p + 2) 0)) (length p + 2) (get_or (p ++ q) (length p) 0)
    ≡ p ++ (reverse (take 3 q) ++ drop 3 q)
three-behind p [] h = absurd (omega arith)
three-behind p (a ∷ []) h = absurd (omega arith)
three-behind p (a ∷ b ∷ []) h = absurd (omega arith)
three-behind p (a ∷ b ∷ c ∷ r) h =
    rw (
      get_or-append-add p (a ∷ b ∷ c ∷ r) 2 0,
      get_or-append_seam p a (b ∷ c ∷ r) 0,
      set-append_seam p a (b ∷ c ∷
          r) c,
    )
    (set-behind p (c ∷ b ∷ c ∷ r) 2 a)

module _ (b : List ℕ) (at : ℕ) where
  two-turned : at + 2 ≤ length b
      → set (set b at (get_or b (at + 1) 0)) (at + 1) (get_or b at 0) ≡ turned_at 2 at b
  two-turned h =
      rw (take-append-drop at b, length-take-le at b (omega arith)) at
      (two-behind (take at b) (drop at b) (simp length-drop (omega arith)))

  three-turned : at + 3 ≤ length b
      → set (set b at (get_or b (at + 2) 0)) (at + 2) (get_or b at 0) ≡ turned_at 3 at b
  three-turned h =
      rw (take-append-drop at b, length-take-le at b (omega arith)) at
      (three-behind (take at b) (drop at b) (simp length-drop (omega arith)))

  -- The last byte stands at i, and is read at j.
  pub turned : (w i j : ℕ) → 2 ≤ w → w ≤ 3 → i + 1 ≡ at + w → j ≡ i → at + w ≤ length b
      → set (set b at (get_or b j 0)) i (get_or b at 0) ≡ turned_at w at b
  turned w i j p q e f h =
      rw f
      (⊎_elim
      (λ (t : 2 ≡ w). let k : i ≡ at + 1 = omega arith in rw (k, ← t) (two-turned (omega arith)))
      (λ (t : 2 < w).
      let k : i ≡ at + 2 = omega arith in
      let u : w ≡ 3 = omega arith in
      rw (k, u) (three-turned (omega arith)))
      (eq-or-lt_of_le p))

-- ---- one sample more
-- The number of samples is len / v, where v is the width.
pub one-within : (w v k len : ℕ) → k < len / v → v ≡ w → k * w + w ≤ len
one-within w v k len h e =
    let l : suc k ≤ len / w = rw e at h in
    omega (arith, mul-le-mul_right w l, suc-mul k w, div-add-mod' len w)

pub one-count : (w v k len : ℕ) → k ≤ len / v → len / v ≤ k → v ≡ w → k ≡ len / w
one-count w v k len p q e =
    let c : k ≡ len / v = omega arith in
    c ∙ ap (λ (n : ℕ). len / n) e

same-length-at : (w at : ℕ) (b : List ℕ) → at + w ≤ length b → length (turned_at w at b) ≡ length b
same-length-at w at b h =
    simp (length-append, length-reverse, length-take, length-drop) (omega arith)

behind : (w m : ℕ) (r t : List ℕ) → turned_at w (length r + m) (r ++ t) ≡ r ++ turned_at w m t
behind w m r t = rw (take-append-add, drop-append-add) (append_assoc r (take m t) _)

one_more : (w k : ℕ) (b : List ℕ) → k * w + w ≤ length b
    → turned_at w (k * w) (turned_first w k b) ≡ turned_first w (suc k) b
unfolding turned_first
one_more w zero b h = rw zero-mul
one_more w (suc k) b h =
    let r = reverse (take w b) in
    let fits : k * w + w + w ≤ length b = rw suc-mul at h in
    let long : length r ≡ w = length-reverse (take w b) ∙ length-take-le w b (omega arith) in
    let place : suc k * w ≡ length r + k * w = suc-mul k w ∙ omega (arith, long) in
    rw place
    (behind w (k * w) r (turned_first w k (drop w b))
    ∙ ap (λ (l : List ℕ). r ++ l) (one_more w k (drop w b) (simp length-drop (omega arith))))

-- ---- a loop over samples of w bytes that has reversed the first k of them
pub record Turning (w : ℕ) (old now : List ℕ) (k : ℕ) : Type 0 where
  pub long : length now ≡ length old
  pub turned : now ≡ turned_first w k old

pub none-turned : {w : ℕ} {old : List ℕ} → Turning w old old 0
unfolding turned_first
none-turned = record { long = refl; turned = refl }

pub more-turned : {w k : ℕ} {old now next : List ℕ} → Turning w old now k → k * w + w ≤ length old
    → next ≡ turned_at w (k * w) now → Turning w old next (k + 1)
more-turned {w} {k} {old} {now} {next} t h e =
    record {
      long = ap length e ∙ same-length-at w (k * w) now (omega (arith, t.long)) ∙ t.long;
      turned = rw add-one (e ∙ ap (turned_at w (k * w)) t.turned ∙ one_more w k old h);
    }

pub all-turned : {w k : ℕ} {old now : List ℕ} (n : ℕ) → Turning w old now k → k ≡ n → now ≡ turned_first w n old
all-turned {w} {k} {old} n t e = t.turned ∙ ap (λ (m : ℕ). turned_first w m old) e
