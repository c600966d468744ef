-- `wav_store::placing::place_words` meets its contract: each turn writes the bytes of the next word. Assumes nothing.
use mathlib.Core.Path.{◌≡◌, ap, ◌∙◌}
use Prim.Native.Nat.{ℕ, ◌+◌, ◌-◌, ◌*◌, ◌≤◌}
use native.Mathlib.Nat.{suc-mul, mul-le-mul_right}
use native.Mathlib.Omega.{arith}
use lib.ListN.{length, take, drop, length-drop}
use lib.Seq.{length-take-le}
use Rattle.word_bytes.specs.Bytes.{low_bytes}
use Rattle.wav_store.proofs.Words.{one-more}
use Rattle.wav_store.proofs.placing.place_words.Goals as goal

pub loop-i-preserved : goal.loop-i-preserved
loop-i-preserved g c v h =
    let w = g.row.WIDTH in
    let l = c.loop-i in
    let at = l.i * w in
    let xs = c.args.samples.now in
    let long : length l.out ≡ length xs * w = l.auto.out ∙ c.requires.long in
    let far : at + w ≤ length l.out = omega (arith, long, mul-le-mul_right w c.loop-i-test.true, suc-mul l.i w) in
    let lent : length (take (at + w - at) (drop at l.out)) ≡ w =
    length-take-le (at + w - at) (drop at l.out) (omega (arith, length-drop at l.out, far)) ∙ omega arith in
    one-more w v xs l.out c.put_low.new.out l.i _ c.index-samples-i.result c.loop-i-test.true long
    (c.put_low.ensures ∙ ap (λ (n : ℕ). low_bytes n c.word.result) lent
    ∙ ap (low_bytes w) (h _ _ c.word.ensures))
    c.index-samples-i.is (l.invariant v h)
