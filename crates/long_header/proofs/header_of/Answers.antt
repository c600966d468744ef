-- `long_header::header_of` meets its contract: a refused call leaves the block, and an accepted one has room for the
-- header. Assumes nothing.
use mathlib.Core.Path.{◌≡◌, sym, ◌∙◌}
use Prim.Native.Nat.{◌-◌}
use native.Mathlib.Omega.{arith}
use lib.ListN.{length, length-take}
use Rattle.wav_header.proofs.Taken.{kept}
use Rattle.long_header.specs.LongHeader.{header_length_for}
use Rattle.long_header.proofs.Accepted.{holds, roomy, in_place}
use Rattle.long_header.proofs.header_of.Goals as goal

pub returns-then-refused-ne0 : goal.returns-then-refused-ne0
returns-then-refused-ne0 c = let e = c.header_refusal-refused.ensures in
    record { value = e; out_after = kept _ _ _ _ e c.if-refused-ne0.true }

pub slice_bounds-put-end : goal.slice_bounds-put-end
slice_bounds-put-end c =
    let a = c.args in
    rw c.header_length_for-end.ensures
    (holds a.kind a.channels a.rate a.count (length a.out.now)
    (sym c.header_refusal-refused.ensures ∙ c.if-refused-ne0.false))

pub put-requires : goal.put-requires
put-requires c =
    let a = c.args in
    let z = sym c.header_refusal-refused.ensures ∙ c.if-refused-ne0.false in
    let fits = holds a.kind a.channels a.rate a.count (length a.out.now) z in
    roomy a.kind a.channels a.rate a.count (length a.out.now) z _
    (simp length-take (omega (arith, fits, c.header_length_for-end.ensures)))

pub returns : goal.returns
returns c =
    let e = c.header_refusal-refused.ensures in
    let a = c.args in
    let k : c.header_length_for-end.result - 0 ≡ header_length_for a.kind a.count =
    omega (arith, c.header_length_for-end.ensures) in record {
      value = sym c.if-refused-ne0.false ∙ e;
      out_after = in_place a.form a.kind a.channels a.rate a.count a.out.now _ _ (sym e ∙ c.if-refused-ne0.false) k
          c.put.ensures;
    }
