-- `render_start::open` meets its contract: it refuses by 2 if a length is wrong; otherwise reader, table and engine
-- answer, and LengthsFit shows that none of them refuses. Assumes nothing.
use mathlib.Core.Path.{◌∙◌}
use lib.ListN.{length}
use lib.Ieee.{of_bits}
use Rattle.render_start.proofs.LengthsFit as beginning
use Rattle.render_start.proofs.open.Goals as goal

pub returns-then-ring-ne1024 : goal.returns-then-ring-ne1024
returns-then-ring-ne1024 c =
    let e = beginning.wrong-ring (length c.args.table.now) c.if-ring-ne1024.true in
    record { value = rw e; ring_after = rw e; table_after = rw e }

pub returns-then-table-ne2080 : goal.returns-then-table-ne2080
returns-then-table-ne2080 c =
    let e = beginning.wrong-table c.if-ring-ne1024.false c.if-table-ne2080.true in
    record { value = rw e; ring_after = rw e; table_after = rw e }

pub returns-in_default : goal.returns-in_default
returns-in_default c =
    absurd (beginning.no_reader (c.open.ensures.value ∙ beginning.reader-opens c.if-ring-ne1024.false)
    c.in_default.is)

pub returns-in_default-new : goal.returns-in_default-new
unfolding of_bits
returns-in_default-new c =
    absurd (beginning.no-kernel (c.new.ensures.value ∙ beginning.table-opens c.if-table-ne2080.false)
    c.in_default-new.is)

pub returns-in_default-new-2 : goal.returns-in_default-new-2
unfolding of_bits
returns-in_default-new-2 c =
    absurd (beginning.no-engine (c.new-2.ensures ∙ beginning.engine-opens) c.in_default-new-2.is)

pub returns : goal.returns
unfolding of_bits
returns c =
    let a = c.args in
    let ring = c.if-ring-ne1024.false in
    let table = c.if-table-ne2080.false in
    let both = beginning.both_right ring table in
    record {
      value =
          rw both (beginning.started c.in-Reader.is (c.open.ensures.value ∙ beginning.reader-opens ring)
          c.in-Engine.is (c.new-2.ensures ∙ beginning.engine-opens));
      ring_after = rw both (c.open.ensures.ring_after ∙ beginning.ring-opens a.ring.now ring);
      table_after = rw both (c.new.ensures.table_after ∙ beginning.table_is a.table.now table);
    }
