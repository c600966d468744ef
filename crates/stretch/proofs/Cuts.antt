-- W3h. A whole call over two parts, the first of which was not refused, is a call over the first and then one over the
-- second: state, ring, outputs and counts. Assumes nothing.
use mathlib.Core.Path.{◌≡◌, refl, sym, ap, ◌∙◌}
use mathlib.Core.List.{List, [], ◌∷◌, ◌++◌}
use Prim.Native.Nat.{ℕ, zero, suc, ◌+◌}
use native.Mathlib.Omega.{arith}
use lib.ListN.{length, drop, length-append}
use lib.Ieee.{Float}
use Rattle.absent_taps.specs.Absent.{plus}
use Rattle.stretch.specs.Stretch.{Ran, stretch_of}
use Rattle.stretch.specs.Whole.{Reader, refused_first, whole_of, out_after}
use Rattle.stretch.specs.Counts.{Absence, whole_absent}
use Rattle.stretch.specs.Singles.{Orderly}
use Rattle.stretch.proofs.Going.{behind}
use Rattle.stretch.proofs.Laws.{cut, all_done}
use Rattle.stretch.proofs.Sums.{sums-cut}
use Rattle.stretch.proofs.WholeLaws.{Passed, passed, passes, not-begun, begins, kept}

module _ {S : Type 0} (reader : Reader S) (orderly : Orderly reader) where
  abbrev run : S → List Float → List Float → List Float → Ran S
  run = stretch_of reader.call

  module _ (s : S) (ring xs ds us vs : List Float) (m n : ℕ) where
    abbrev first : Ran S
    first = whole_of reader s ring xs ds m

    abbrev second : Ran S
    second = whole_of reader first.state first.ring us vs n

    -- The first part passed its three tests and no item of it is refused.
    record Parts : Type 0 where
      tests-first : Passed reader s (length ring) (length xs) (length ds) m
      is-first : first ≡ run s ring xs ds
      none-refused : (run s ring xs ds).number ≡ 0

    parts : first.number ≡ 0 → Parts
    parts e = by (refused_first reader s (length ring) (length xs) (length ds) m) refl
      where
        by : (v : ℕ) → refused_first reader s (length ring) (length xs) (length ds) m ≡ v → Parts
        by zero p =
            let b = begins reader s ring xs ds m p in
            record {
              tests-first = passed reader s (length ring) (length xs) (length ds) m p;
              is-first = b;
              none-refused = ap (λ (r : Ran S). r.number) (sym b) ∙ e;
            }
        by (suc v) p =
            let f = ap (λ (r : Ran S). r.number) (sym (not-begun reader s ring xs ds m v p)) ∙ e in
            absurd (omega arith)

    module _ (e : first.number ≡ 0) (alike : length vs ≡ length us) (room : n ≡ length us) where
      begins-both : refused_first reader s (length ring) (length (xs ++ us)) (length (ds ++ vs)) (m + n) ≡ 0
      begins-both =
          let p = (parts e).tests-first in
          let both : Passed reader s (length ring) (length (xs ++ us)) (length (ds ++ vs)) (m + n) =
          record {
            settings = p.settings;
            lent = p.lent;
            fields = p.fields;
            delays-many = simp length-append (omega (arith, p.delays-many));
            out-many = simp length-append (omega (arith, p.out-many));
          } in
          passes reader both

      begins-second : refused_first reader first.state (length first.ring) (length us) (length vs) n ≡ 0
      begins-second =
          let p = (parts e).tests-first in
          let k = kept reader orderly s ring xs ds p.fields in
          rw ((parts e).is-first, k.long)
          (passes reader (record {
            settings = k.settings ∙ p.settings;
            lent = k.lent ∙ p.lent;
            fields = k.fields;
            delays-many = alike;
            out-many = room;
          }))

      pub whole-cut : whole_of reader s ring (xs ++ us) (ds ++ vs) (m + n) ≡ behind first.samples second
      whole-cut =
          let w = parts e in
          begins reader s ring (xs ++ us) (ds ++ vs) (m + n) begins-both
          ∙ cut reader.call s ring xs ds us vs (sym w.tests-first.delays-many) w.none-refused
          ∙ rw (begins reader first.state first.ring us vs n begins-second, w.is-first)

      pub all-of-first : length first.samples ≡ m
      all-of-first =
          let w = parts e in
          ap (λ (r : Ran S). length r.samples) w.is-first
          ∙ all_done reader.call s ring xs ds w.none-refused
          ∙ omega (arith, w.tests-first.delays-many, w.tests-first.out-many)

      pub out-cut : (first_out second-out : List Float) → length first_out ≡ m
          → out_after (first_out ++ second-out) (whole_of reader s ring (xs ++ us) (ds ++ vs) (m + n))
          ≡ out_after first_out first ++ out_after second-out second
      out-cut fs gs l =
          ap (out_after (fs ++ gs)) whole-cut
          ∙ joined first.samples second.samples fs gs (all-of-first ∙ sym l)
        where
          joined : (ys zs fs gs : List Float) → length ys ≡ length fs
              → (ys ++ zs) ++ drop (length (ys ++ zs)) (fs ++ gs)
              ≡ (ys ++ drop (length ys) fs) ++ (zs ++ drop (length zs) gs)
          joined [] zs [] gs p = refl
          joined [] zs (f ∷ fs) gs p = absurd (omega arith)
          joined (y ∷ ys) zs [] gs p = absurd (omega arith)
          joined (y ∷ ys) zs (f ∷ fs) gs p = ap (λ (t : List Float). y ∷ t) (joined ys zs fs gs (omega arith))

      pub counts-cut : (absent : Absence S)
          → whole_absent reader absent s ring (xs ++ us) (ds ++ vs) (m + n)
          ≡ plus (whole_absent reader absent s ring xs ds m)
          (whole_absent reader absent first.state first.ring us vs n)
      unfolding whole_absent
      counts-cut absent =
          let w = parts e in
          rw (begins-both, begins-second, passes reader w.tests-first, w.is-first)
          (sums-cut reader.call absent s ring xs ds us vs (sym w.tests-first.delays-many) w.none-refused)
