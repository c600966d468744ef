-- `quality_codes::calls::call` meets its contract, by the test of the numbers: it is the reader's call, taken apart, or
-- a refusal that changes nothing. Assumes nothing.
use mathlib.Core.Path.{◌≡◌, sym, ◌∙◌, ap}
use mathlib.Core.Bool.{Bool, true, false, ◌&&◌}
use lib.Ieee.{of_bits}
use Rattle.quality_codes.specs.Codes.{code_ok, fields_ok, odd_number}
use Rattle.quality_codes.specs.Calls.{taken_apart, refused_by}
use Rattle.quality_codes.proofs.NamedQualities.{served, not-served, ring-served, ring-not-served}
use Rattle.quality_codes.proofs.calls.call.Goals as goal

pub returns-then-both : goal.returns-then-both
returns-then-both c =
    let s = c.args in
    let t : (code_ok s.quality && fields_ok s.state) ≡ true =
    ap (λ (x : Bool). code_ok s.quality && x) (sym c.fields_ok.ensures)
    ∙ sym c.both.ensures
    ∙ c.if-both.true in
    let e =
    rw (c.decode.ensures, c.mode-q.ensures) at c.process_sample_rate_aware-p.ensures in
    record {
      value = c.apart.ensures ∙ ap taken_apart e.value ∙ served _ _ _ t;
      ring_after =
          e.ring_after ∙ ring-served _ _ _ t;
    }

pub returns : goal.returns
unfolding of_bits
returns c =
    let s = c.args in
    let t : (code_ok s.quality && fields_ok s.state) ≡ false =
    ap (λ (x : Bool). code_ok s.quality && x) (sym c.fields_ok.ensures)
    ∙ sym c.both.ensures
    ∙ c.if-both.false in
    let e = rw c.decode-2.ensures at c.due-v.ensures in
    record {
      value = ap (λ n. refused_by n s.state) (c.odd.ensures ∙ ap (odd_number (code_ok s.quality)) e) ∙
          not-served _ _ _ t;
      ring_after = ring-not-served _ _ _ t;
    }
