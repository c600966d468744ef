-- `wav_write::frame::early` meets its contract: the call tests 1, 19 and 13, then the room is tested for 14. Assumes
-- nothing.
use borrow.Author.Tests.{le-leb, lt-leb}
use mathlib.Core.Path.{sym, ◌∙◌}
use native.Mathlib.Omega.{arith}
use Rattle.long_header.specs.LongHeader.{file_length_for}
use Rattle.wav_write.proofs.Planned.{length-planned}
use Rattle.wav_write.proofs.Verdicts.{refused-first, early-is}
use Rattle.wav_write.proofs.frame.early.Goals as goal

pub returns-then-refused-ne0 : goal.returns-then-refused-ne0
returns-then-refused-ne0 c =
    let s = c.args in
    refused-first _ _ _ c.refusal_for-refused.ensures c.if-refused-ne0.true
    ∙ sym (early-is s.kind s.channels s.rate s.count s.room)

pub returns-then-file_length_for-room : goal.returns-then-file_length_for-room
returns-then-file_length_for-room c =
    let s = c.args in
    let z = sym c.refusal_for-refused.ensures ∙ c.if-refused-ne0.false in
    let l = c.file_length_for.ensures ∙ length-planned s.kind s.channels s.rate s.count z in
    sym
    (early-is s.kind s.channels s.rate s.count s.room
    ∙ rw (z, le-leb (file_length_for s.kind s.count) s.room (omega (arith, l, c.if-file_length_for-room.true))))

pub returns-else-file_length_for-room : goal.returns-else-file_length_for-room
returns-else-file_length_for-room c =
    let s = c.args in
    let z = sym c.refusal_for-refused.ensures ∙ c.if-refused-ne0.false in
    let l = c.file_length_for.ensures ∙ length-planned s.kind s.channels s.rate s.count z in
    sym
    (early-is s.kind s.channels s.rate s.count s.room
    ∙ rw (z, lt-leb (file_length_for s.kind s.count) s.room (omega (arith, l, c.if-file_length_for-room.false))))
