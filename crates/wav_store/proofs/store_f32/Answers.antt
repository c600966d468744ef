-- `wav_store::store_f32` meets its contract, by the contracts of the functions that it calls and by the two tests in
-- order. Assumes nothing.
use borrow.Author.Tests.{eqb-true}
use mathlib.Core.Path.{sym, ◌∙◌}
use Rattle.wav_store.proofs.Stores.{other_length, out_of_range, written}
use Rattle.wav_store.proofs.store_f32.Goals as goal

pub place_f32-requires : goal.place_f32-requires
place_f32-requires c =
    eqb-true _ _ (sym c.whole.ensures ∙ c.if-whole.true)

pub returns-then-all_fit_f32 : goal.returns-then-all_fit_f32
returns-then-all_fit_f32 c =
    let both = written _ _ c.args.out.now c.whole.ensures c.if-whole.true
    c.all_fit_f32.ensures c.if-all_fit_f32.true c.place_f32.ensures in
    record { value = both.0; out_after = both.1 }

pub returns-then-whole : goal.returns-then-whole
returns-then-whole c =
    let both = out_of_range _ _ _ c.whole.ensures c.if-whole.true c.all_fit_f32.ensures c.if-all_fit_f32.false in
    record { value = both.0; out_after = both.1 }

pub returns : goal.returns
returns c =
    let both = other_length _ _ _ c.whole.ensures c.if-whole.false in
    record { value = both.0; out_after = both.1 }
