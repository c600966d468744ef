-- `quality_codes::renewing::renew` meets its contract, by the test of the numbers: it is the reader's reset, taken
-- apart, or a refusal that changes nothing. Assumes nothing.
use mathlib.Core.Path.{◌≡◌, sym, ◌∙◌, ap}
use mathlib.Core.Bool.{Bool, true, false, ◌&&◌}
use lib.Ieee.{of_bits}
use Rattle.quality_codes.specs.Codes.{fields_ok, odd_number}
use Rattle.quality_codes.specs.Calls.{opened_apart, refused_by}
use Rattle.quality_codes.proofs.NamedQualities.{served, not-served, ring-served, ring-not-served}
use Rattle.quality_codes.proofs.renewing.renew.Goals as goal

pub returns-then-both : goal.returns-then-both
returns-then-both c =
    let s = c.args in
    let t : (s.asked && fields_ok s.state) ≡ true =
    ap (λ (x : Bool). s.asked && x) (sym c.fields_ok.ensures)
    ∙ sym c.both.ensures
    ∙ c.if-both.true in
    let e = rw c.decode-d.ensures at c.reset-o.ensures in
    record {
      value = c.opened_apart.ensures ∙ ap (opened_apart s.state) e.value ∙ served _ _ _ t;
      ring_after =
          e.ring_after ∙ ring-served _ _ _ t;
    }

pub returns : goal.returns
unfolding of_bits
returns c =
    let s = c.args in
    let t : (s.asked && fields_ok s.state) ≡ false =
    ap (λ (x : Bool). s.asked && x) (sym c.fields_ok.ensures)
    ∙ sym c.both.ensures
    ∙ c.if-both.false in
    let e = rw c.decode-d.ensures at c.reset_refusal-v.ensures in
    record {
      value = ap (λ n. refused_by n s.state) (c.odd.ensures ∙ ap (odd_number s.asked) e) ∙ not-served _ _ _ t;
      ring_after = ring-not-served _ _ _ t;
    }
