-- Laws of a whole call over any orderly reader: 1 to 3 exactly when, before any item (W3c), the empty stretch (W3d),
-- and the counts (W3g). Assumes nothing.
use mathlib.Core.Path.{◌≡◌, refl, sym, ap, ◌∙◌}
use mathlib.Core.Logic.{◌↔◌}
use mathlib.Core.Bool.{Bool, true, false, true≢false, ◌&&◌}
use mathlib.Core.List.{List, [], ◌∷◌}
use Prim.Native.Nat.{ℕ, zero, suc, ◌<◌}
use native.Mathlib.Omega.{arith}
use borrow.Author.Tests.{eqb-true, eq-eqb}
use lib.Dec.{eqb}
use lib.ListN.{length}
use lib.Ieee.{Float}
use Rattle.refusal_order.specs.Order.{◌unless◌, First, first_of}
use Rattle.refusal_order.proofs.First.{lowest}
use Rattle.stretch.specs.Stretch.{Called, Ran, nothing, and_then, stretch_of}
use Rattle.stretch.specs.Whole.{Reader, tests, refused_first, unless_refused, whole_of, done_of}
use Rattle.stretch.specs.Counts.{Absence, none_if, absent_in, whole_absent}
use Rattle.stretch.specs.Singles.{Orderly, absent_call, sum_of}
use Rattle.stretch.proofs.Sums.{over_done}

module _ {S : Type 0} (reader : Reader S) where
  -- The three tests, with the lengths of a stretch.
  pub record Passed (s : S) (len inputs delays out : ℕ) : Type 0 where
    pub settings : reader.settings s ≡ true
    pub lent : reader.lent s len ≡ true
    pub fields : reader.fields s ≡ true
    pub delays-many : delays ≡ inputs
    pub out-many : out ≡ inputs

  halves : (a b : Bool) → a && b ≡ true → (a ≡ true) × (b ≡ true)
  halves true b h = (refl, h)
  halves false b h = absurd (true≢false (sym h))

  pub passed : (s : S) (len inputs delays out : ℕ) → refused_first reader s len inputs delays out ≡ 0
      → Passed s len inputs delays out
  passed s len inputs delays out h = by (reader.settings s) refl _ refl (reader.fields s) refl h
    where
      by : (t : Bool) → reader.settings s ≡ t
          → (u : Bool) → reader.lent s len && (eqb delays inputs && eqb out inputs) ≡ u
          → (v : Bool) → reader.fields s ≡ v
          → first_of (1 unless t ∷ 2 unless u ∷ 3 unless v ∷ []) ≡ 0 → Passed s len inputs delays out
      by true p true q true r h =
          let l = halves (reader.lent s len) _ q in
          let m = halves (eqb delays inputs) _ l.1 in
          record {
            settings = p;
            lent = l.0;
            fields = r;
            delays-many = eqb-true delays inputs m.0;
            out-many = eqb-true out inputs m.1;
          }
      by true p true q false r h = absurd (omega arith)
      by true p false q v r h = absurd (omega arith)
      by false p u q v r h = absurd (omega arith)

  pub passes : {s : S} {len inputs delays out : ℕ} → Passed s len inputs delays out
      → refused_first reader s len inputs delays out ≡ 0
  passes {s} {len} {inputs} {delays} {out} p =
      rw (p.settings, p.lent, p.fields, eq-eqb delays inputs p.delays-many, eq-eqb out inputs p.out-many)

  module _ (s : S) (ring xs ds : List Float) (out : ℕ) where
    abbrev due : ℕ
    due = refused_first reader s (length ring) (length xs) (length ds) out

    pub whole_by : {v : ℕ} → due ≡ v
        → whole_of reader s ring xs ds out ≡ unless_refused v s ring (stretch_of reader.call s ring xs ds)
    unfolding whole_of
    whole_by e = rw e

    -- W3c. Refused before the first item: zero done, nothing stored.
    pub not-begun : (k : ℕ) → due ≡ suc k
        → whole_of reader s ring xs ds out ≡ record { state = s; ring = ring; number = suc k; samples = [] }
    not-begun k e = whole_by e

    pub begins : due ≡ 0 → whole_of reader s ring xs ds out ≡ stretch_of reader.call s ring xs ds
    begins e = whole_by e

    -- W3c. The number is that of the first of the three tests that fails.
    pub first-exactly : (k : ℕ) → due ≡ suc k ↔ First (tests reader s (length ring) (length xs) (length ds) out) k
    first-exactly k = lowest (tests reader s (length ring) (length xs) (length ds) out) refl k

  -- W3d. An empty stretch that passes the three tests is zero done, on a full state and with any rate too.
  pub empty : (s : S) (ring ds : List Float) (out : ℕ) → refused_first reader s (length ring) 0 (length ds) out ≡ 0
      → whole_of reader s ring [] ds out ≡ nothing s ring
  unfolding stretch_of
  empty s ring ds out e = begins s ring [] ds out e

  module _ (orderly : Orderly reader) where
    abbrev run : S → List Float → List Float → List Float → Ran S
    run = stretch_of reader.call

    -- What the tests look at stays in range through a stretch.
    pub record Kept (s : S) (len : ℕ) (t : S) (ring : List Float) : Type 0 where
      pub long : length ring ≡ len
      pub settings : reader.settings t ≡ reader.settings s
      pub lent : reader.lent t len ≡ reader.lent s len
      pub fields : reader.fields t ≡ true

    kept-twice : {s t u : S} {len : ℕ} (ring : List Float) {more : List Float} → Kept s len t ring
        → Kept t (length ring) u more → Kept s len u more
    kept-twice ring k l =
        record {
          long = l.long ∙ k.long;
          settings = l.settings ∙ k.settings;
          lent = rw k.long at l.lent ∙ k.lent;
          fields = l.fields;
        }

    pub kept : (s : S) (ring xs ds : List Float) → reader.fields s ≡ true
        → Kept s (length ring) (run s ring xs ds).state (run s ring xs ds).ring
    unfolding stretch_of
    kept s ring [] ds f = record { long = refl; settings = refl; lent = refl; fields = f }
    kept s ring (x ∷ xs) [] f = record { long = refl; settings = refl; lent = refl; fields = f }
    kept s ring (x ∷ xs) (d ∷ ds) f =
        by (reader.call s ring x d).number refl
        (kept (reader.call s ring x d).state (reader.call s ring x d).ring xs ds)
      where
        c : Called S
        c = reader.call s ring x d

        rest : Ran S
        rest = run c.state c.ring xs ds

        by : (n : ℕ) → c.number ≡ n
            → (reader.fields c.state ≡ true → Kept c.state (length c.ring) rest.state rest.ring)
            → Kept s (length ring) (and_then n c rest).state (and_then n c rest).ring
        by zero e more =
            let k = orderly.keeps s ring x d e in
            kept-twice c.ring (record { long = k.0; settings = k.1; lent = k.2; fields = k.3 }) (more k.3)
        by (suc n) e more =
            let k = orderly.still s ring x d n e in
            rw (k.0, k.1) (record { long = refl; settings = refl; lent = refl; fields = f })

    -- No item is refused by 1 to 3.
    items-later : (s : S) (ring xs ds : List Float) (k : ℕ) → reader.settings s ≡ true
        → reader.lent s (length ring) ≡ true
        → reader.fields s ≡ true
        → k < 3
        → (run s ring xs ds).number ≡ suc k → ⊥
    unfolding stretch_of
    items-later s ring [] ds k p q r l e = omega arith
    items-later s ring (x ∷ xs) [] k p q r l e = omega arith
    items-later s ring (x ∷ xs) (d ∷ ds) k p q r l e =
        by (reader.call s ring x d).number refl
        (items-later (reader.call s ring x d).state (reader.call s ring x d).ring xs ds k) e
      where
        c : Called S
        c = reader.call s ring x d

        rest : Ran S
        rest = run c.state c.ring xs ds

        by : (n : ℕ) → c.number ≡ n
            → (reader.settings c.state ≡ true → reader.lent c.state (length c.ring) ≡ true
            → reader.fields c.state ≡ true
            → k < 3
            → rest.number ≡ suc k → ⊥)
            → (and_then n c rest).number ≡ suc k → ⊥
        by zero z more e =
            let w = orderly.keeps s ring x d z in
            more (w.1 ∙ p) (rw w.0 (w.2 ∙ q)) w.3 l e
        by (suc n) z more e = orderly.later s ring x d k p q r l (z ∙ e)

    -- W3c. A whole call is refused by 1, 2 or 3 exactly if that is the first of the three tests that fails.
    pub exactly : (s : S) (ring xs ds : List Float) (out k : ℕ) → k < 3
        → (whole_of reader s ring xs ds out).number ≡ suc k
        ↔ First (tests reader s (length ring) (length xs) (length ds) out) k
    exactly s ring xs ds out k l =
        let f = first-exactly s ring xs ds out k in (
          λ e. by (refused_first reader s (length ring) (length xs) (length ds) out) refl e,
          λ w. ap (λ (r : Ran S). r.number) (not-begun s ring xs ds out k (f.1 w)),
        )
      where
        by : (v : ℕ) → refused_first reader s (length ring) (length xs) (length ds) out ≡ v
            → (whole_of reader s ring xs ds out).number ≡ suc k
            → First (tests reader s (length ring) (length xs) (length ds) out) k
        by zero p e =
            let t = passed s (length ring) (length xs) (length ds) out p in
            absurd (items-later s ring xs ds k t.settings t.lent t.fields l
            (ap (λ (r : Ran S). r.number) (sym (begins s ring xs ds out p)) ∙ e))
        by (suc v) p e =
            (first-exactly s ring xs ds out k).0
            (p ∙ ap (λ (r : Ran S). r.number) (sym (not-begun s ring xs ds out v p)) ∙ e)

-- W3g. The counts of a whole call are the sums over exactly the items done.
module _ {S : Type 0} (reader : Reader S) (absent : Absence S) (s : S) (ring xs ds : List Float) (out : ℕ) where
  pub counts : whole_absent reader absent s ring xs ds out
      ≡ sum_of (absent_call reader.call absent s ring xs ds) (done_of (whole_of reader s ring xs ds out))
  unfolding whole_absent whole_of sum_of
  counts = by (refused_first reader s (length ring) (length xs) (length ds) out)
    where
      by : (v : ℕ) → none_if v (absent_in reader.call absent s ring xs ds)
          ≡ sum_of (absent_call reader.call absent s ring xs ds)
          (done_of (unless_refused v s ring (stretch_of reader.call s ring xs ds)))
      by zero = over_done reader.call absent s ring xs ds
      by (suc k) = refl
