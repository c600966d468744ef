-- `wav_write::write` meets its contract, by the laws of a write's calls. Assumes nothing.
use native.Mathlib.Omega.{arith}
use Rattle.wav_write.proofs.Calls.{left-early, end_fits, end-small, left-late, room_after, all-written}
use Rattle.wav_write.proofs.write.Goals as goal

pub returns-then-refused-ne0 : goal.returns-then-refused-ne0
returns-then-refused-ne0 c =
    let a = c.args in
    let both = left-early a.form a.kind a.channels a.rate a.samples.now a.out.now _ c.early-refused.ensures
    c.if-refused-ne0.true in
    record { value = both.0; out_after = both.1 }

pub overflow_mul-end : goal.overflow_mul-end
overflow_mul-end c =
    let a = c.args in
    omega (
      arith,
      end-small a.form a.kind a.channels a.rate a.samples.now a.out.now _
          c.early-refused.ensures
          c.if-refused-ne0.false _ _ c.header_length_for-start.ensures c.width.ensures,
    )

pub overflow_add-end : goal.overflow_add-end
overflow_add-end c =
    let a = c.args in
    omega (
      arith,
      end-small a.form a.kind a.channels a.rate a.samples.now a.out.now _
          c.early-refused.ensures
          c.if-refused-ne0.false _ _ c.header_length_for-start.ensures c.width.ensures,
    )

pub slice_bounds-store-end : goal.slice_bounds-store-end
slice_bounds-store-end c =
    let a = c.args in
    end_fits a.form a.kind a.channels a.rate a.samples.now a.out.now _ c.early-refused.ensures
    c.if-refused-ne0.false _ _ c.header_length_for-start.ensures c.width.ensures

pub returns-then-unfit-ne0 : goal.returns-then-unfit-ne0
returns-then-unfit-ne0 c =
    let a = c.args in
    let both = left-late a.form a.kind a.channels a.rate a.samples.now a.out.now _ c.early-refused.ensures
    c.if-refused-ne0.false _ _ c.header_length_for-start.ensures c.width.ensures _ _
    c.store-unfit.ensures.value c.store-unfit.ensures.out_after c.if-unfit-ne0.true in
    record { value = both.0; out_after = both.1 }

pub finish-length-requires : goal.finish-length-requires
finish-length-requires c =
    let a = c.args in
    room_after a.form a.kind a.channels a.rate a.samples.now a.out.now _ c.early-refused.ensures
    c.if-refused-ne0.false _ _ c.header_length_for-start.ensures c.width.ensures _ _
    c.store-unfit.ensures.value c.store-unfit.ensures.out_after c.if-unfit-ne0.false

pub returns : goal.returns
returns c =
    let a = c.args in
    let both = all-written a.form a.kind a.channels a.rate a.samples.now a.out.now _
    c.early-refused.ensures
    c.if-refused-ne0.false _ _ c.header_length_for-start.ensures c.width.ensures _ _
    c.store-unfit.ensures.value c.store-unfit.ensures.out_after c.if-unfit-ne0.false
    _ _ c.finish-length.ensures.value c.finish-length.ensures.out_after in
    record { value = both.0; out_after = both.1 }
