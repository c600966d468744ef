-- `aiff::finding::finish` meets its contract, by the contracts of the functions that it calls; if nothing is refused
-- the channels are one or two and the samples begin before the end, so that both numbers fit. Assumes nothing.
use borrow.Author.Rules.{rules}
use mathlib.Core.Path.{◌≡◌, sym, ap, ◌∙◌}
use mathlib.Core.Bool.{Bool, not, ◌&&◌}
use Prim.Native.Nat.{ℕ, ◌+◌, ◌≤◌}
use native.Mathlib.Nat.{le_trans, le-add_right, lt_of_le_of_lt}
use native.Mathlib.Omega.{arith}
use borrow.Author.Tests.{leb-true}
use Rattle.refusal_order.specs.Order.{first_of}
use Rattle.high_first.specs.High.{big_number}
use Rattle.extended_rate.specs.Rate.{rate_of}
use Rattle.wav.proofs.Passed.{both_hold}
use Rattle.aiff.specs.declared.Found.TheVariants as found
use Rattle.aiff.specs.Aiff.{rate, inside, tests_of, sound_of, answered}
use Rattle.aiff.proofs.InHand.{refused, taken, in_order, listed-is, sound-is}
use Rattle.aiff.proofs.Passed.{Passed, all-passed}
use Rattle.aiff.proofs.finding.finish.Statement.{statement}
use Rattle.aiff.proofs.finding.finish.Tie as tie

abbrev started : tie.After-length_of-length → tie.Start
started c = c.before.before.before.before

-- What was computed before the tests.
abbrev measured : tie.After-first-refusal → tie.After-length_of-length
measured c = c.before.before.before.before.before.before.before.before.before.before.before.before

-- The rate, from its three calls.
paced : (c : tie.After-rate_of-rate) → c.rate_of-rate.result ≡ rate (started c.before.before.before).args.c.now
paced c =
    let e = c.before in
    let p = e.before.two.ensures.0 in
    let q = e.eight.ensures in
    c.rate_of-rate.ensures
    ∙ ap (λ (n : ℕ). rate_of n e.eight.result) p
    ∙ ap (rate_of (big_number 2 (started e.before.before).args.c.now 8)) q

due : (c : tie.After-first-refusal) →
    let a = (started (measured c)).args in
    c.first-refusal.result
    ≡ first_of (tests_of a.aiff (a.held && inside a.end a.walked) a.c.now a.s.now a.walked)
due c =
    let l = c.before.before in
    let n = l.before in
    let m = n.before in
    let h = m.before in
    let b = h.before in
    let i = b.before in
    let r = i.before.before in
    let a = (started (measured c)).args in
    in_order a.aiff a.held a.end a.c.now a.s.now a.walked
    (b.both.ensures ∙ ap (λ (u : Bool). a.held && u) i.is_inside.ensures)
    (measured c).before.four-offset.ensures (measured c).length_of-length.ensures.0
    (paced r) h.has_parts.ensures
    (listed-is a.c.now l.is_listed.ensures m.two-2.ensures.0 n.two-3.ensures.0) c.first-refusal.ensures

returns : tie.Need-returns-then-refusal-ne0
returns c =
    let a = (started (measured c.before)).args in
    let f = sound_of a.c.now a.s.now a.walked in
    refused _ f c.if-refusal-ne0.true ∙ ap (λ (k : ℕ). answered k f) (due c.before)

-- Nothing is refused.
abbrev tested : tie.After-kind_of-kind → tie.Else-refusal-ne0
tested c = c.before.before.before

none-due : (c : tie.After-kind_of-kind) →
    let a = (started (measured (tested c).before)).args in
    first_of (tests_of a.aiff (a.held && inside a.end a.walked) a.c.now a.s.now a.walked) ≡ 0
none-due c = sym (due (tested c).before) ∙ (tested c).if-refusal-ne0.false

passed : (c : tie.After-kind_of-kind) →
    let a = (started (measured (tested c).before)).args in
    Passed a.aiff (a.held && inside a.end a.walked) a.c.now a.s.now a.walked
passed c = all-passed _ _ _ _ _ (none-due c)

-- The samples begin before the end.
begins : (body end size : ℕ) {n skip : ℕ} → n ≡ skip → 8 + skip ≤ size → body + size ≤ end → body + 8 + n ≤ end
begins body end size e h l = omega arith

before-end : (c : tie.After-kind_of-kind) →
    let k = measured (tested c).before in
    (started k).args.walked.samples.body + 8 + k.before.four-offset.result ≤ (started k).args.end
before-end c =
    let k = measured (tested c).before in
    let a = (started k).args in
    let p = passed c in
    let h = (both_hold a.held (inside a.end a.walked) p.is-inside).1 in
    let e : a.walked.samples.body + a.walked.samples.size ≤ a.end =
    leb-true _ _ (both_hold (not a.walked.overruns) _ h).1 in
    begins a.walked.samples.body a.end a.walked.samples.size k.before.four-offset.ensures p.skips e

cast-channels : tie.Need-overflow_cast-result
cast-channels c = omega (arith, (passed c).few, c.before.before.two-channels.ensures.0)

add-t21 : tie.Need-overflow_add-result
add-t21 c =
    let k = measured (tested c.before).before in
    let a = (started k).args in
    record {
      fits = lt_of_le_of_lt (le_trans (le-add_right _ k.before.four-offset.result) (before-end c.before))
          (started k).ranges.end.fits;
    }

add-t22 : tie.Need-overflow_add-result-2
add-t22 c =
    let k = measured (tested c.before).before in
    record { fits = lt_of_le_of_lt (before-end c.before) (started k).ranges.end.fits }

returns-2 : tie.Need-returns
returns-2 c =
    let k = c.before in
    let m = measured (tested k).before in
    let a = (started m).args in
    let r = (tested k).before.before.before.before.before.before.before.before.before.before in
    ap found.Sound
    (sound-is a.c.now a.s.now a.walked k.kind_of-kind.ensures k.before.two-4.ensures.0
    k.before.before.two-channels.ensures.0 (paced r) m.before.four-offset.ensures m.length_of-length.ensures.0)
    ∙ taken _ (sound_of a.c.now a.s.now a.walked) (none-due k)

pub finish_spec : {M : Type 1} → statement M
finish_spec =
    tie.close (tie.spec (λ c κs. search rules) (λ c. search rules) (λ c κs. search rules) (λ c κs. search rules)
    (λ c κs. search rules) (λ c κs. search rules) (λ c κs. search rules) (λ c κs. search rules) (λ c κs. search rules)
    (λ c κs. search rules) (λ c κs. search rules) (λ c κs. search rules) (λ c. search rules) (λ c. search rules)
    (λ c κs. search rules) returns (λ c κs. search rules) (λ c κs. search rules) (λ c κs. search rules) cast-channels
    add-t21 add-t22 returns-2)
