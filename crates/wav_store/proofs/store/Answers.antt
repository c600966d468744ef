-- `wav_store::store` meets its contract, by the contracts of the functions that it calls and by the tests in order.
-- Assumes nothing.
use borrow.Author.Tests.{eqb-true}
use mathlib.Core.Path.{refl, sym, ◌∙◌, subst}
use Rattle.wav_store.specs.Inner.{Seen}
use Rattle.wav_store.proofs.Stores.{other_length, out_of_range, written, plain-seen, plain_ready, plain-written}
use Rattle.wav_store.proofs.store.Goals as goal

pub returns-then-seen-eq0 : goal.returns-then-seen-eq0
returns-then-seen-eq0 c =
    let both = out_of_range _ _ _ c.whole.ensures c.if-whole.true
    (sym (subst (Seen _ _) c.if-seen-eq0.true c.seen-seen.ensures)) refl in
    record { value = both.0; out_after = both.1 }

pub place-requires : goal.place-requires
place-requires c =
    record {
      long = eqb-true _ _ (sym c.whole.ensures ∙ c.if-whole.true);
      fit = subst (Seen _ _) c.if-seen-eq1.true c.seen-seen.ensures;
    }

pub returns-then-seen-eq1 : goal.returns-then-seen-eq1
returns-then-seen-eq1 c =
    let both = written _ _ c.args.out.now c.whole.ensures c.if-whole.true
    (sym (subst (Seen _ _) c.if-seen-eq1.true c.seen-seen.ensures)) refl c.place.ensures in
    record { value = both.0; out_after = both.1 }

pub place_plain-requires : goal.place_plain-requires
place_plain-requires c =
    plain_ready _ _ _ c.whole.ensures c.if-whole.true
    (plain-seen _ _ _ c.if-seen-eq0.false c.if-seen-eq1.false c.seen-seen.ensures)

pub returns-then-whole : goal.returns-then-whole
returns-then-whole c =
    let both = plain-written _ _ c.args.out.now c.whole.ensures c.if-whole.true
    (plain-seen _ _ _ c.if-seen-eq0.false c.if-seen-eq1.false c.seen-seen.ensures) c.place_plain.ensures in
    record { value = both.0; out_after = both.1 }

pub returns : goal.returns
returns c =
    let both = other_length _ _ _ c.whole.ensures c.if-whole.false in
    record { value = both.0; out_after = both.1 }
