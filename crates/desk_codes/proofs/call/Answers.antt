-- `desk_codes::call` meets its contract, by the test of the numbers: it is the desk's call, taken apart, or a refusal
-- that changes nothing. Assumes nothing.
use mathlib.Core.Path.{◌≡◌, sym, ◌∙◌, ap}
use mathlib.Core.Bool.{Bool, true, false, ◌&&◌}
use lib.Ieee.{of_bits}
use Rattle.quality_codes.specs.Codes.{fields_ok, odd_number}
use Rattle.quality_codes.specs.Calls.{taken_apart, refused_by}
use Rattle.quality_codes.proofs.NamedQualities.{served, not-served, ring-served, ring-not-served}
use Rattle.desk_codes.specs.Calls.{named_ok}
use Rattle.desk_codes.proofs.call.Goals as goal
use Rattle.desk_codes.proofs.call.Goals.{After-of_code-built}

-- The test of the arguments' numbers.
asked : (c : After-of_code-built) →
    let a = c.args in
    c.both-asked.result ≡ named_ok a.desk a.mode a.quality
asked c =
    c.both-asked.ensures
    ∙ rw (c.both.ensures, c.known-2.ensures, c.known.ensures)

pub returns-then-both : goal.returns-then-both
returns-then-both c =
    let s = c.args in
    let t : (named_ok s.desk s.mode s.quality && fields_ok s.state) ≡ true =
    ap (λ (x : Bool). named_ok s.desk s.mode s.quality && x) (sym c.fields_ok.ensures)
    ∙ ap (λ (x : Bool). x && c.fields_ok.result) (sym (asked (goal.at.returns-then-both c).After-of_code-built))
    ∙ sym c.both-2.ensures
    ∙ c.if-both.true in
    let e =
    rw (c.decode.ensures, c.mode-q.ensures, c.of_code-built.ensures, c.of_number-named.ensures)
    at c.process_sample_rate_aware-p.ensures in
    record {
      value = c.apart.ensures ∙ ap taken_apart e.value ∙ served _ _ _ t;
      ring_after =
          e.ring_after ∙ ring-served _ _ _ t;
    }

pub returns : goal.returns
unfolding of_bits
returns c =
    let s = c.args in
    let t : (named_ok s.desk s.mode s.quality && fields_ok s.state) ≡ false =
    ap (λ (x : Bool). named_ok s.desk s.mode s.quality && x) (sym c.fields_ok.ensures)
    ∙ ap (λ (x : Bool). x && c.fields_ok.result) (sym (asked (goal.at.returns c).After-of_code-built))
    ∙ sym c.both-2.ensures
    ∙ c.if-both.false in
    let e =
    rw (c.decode-2.ensures, c.of_code-built.ensures, c.of_number-named.ensures) at c.due-v.ensures in record {
      value = ap (λ n. refused_by n s.state)
          (c.odd.ensures ∙ ap (λ (x : Bool). odd_number x c.due-v.result)
          (asked (goal.at.returns c).After-of_code-built)
          ∙ ap (odd_number (named_ok s.desk s.mode s.quality)) e)
          ∙ not-served _ _ _ t;
      ring_after = ring-not-served _ _ _ t;
    }
