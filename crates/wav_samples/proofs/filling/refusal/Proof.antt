-- `wav_samples::filling::refusal` meets its contract, test by test in their order. A remainder and a quotient show that
-- a part is n whole frames, since the product might overflow. Assumes nothing.
use borrow.Author.Rules.{rules}
use native.Mathlib.Omega.{arith}
use mathlib.Core.Path.{◌≡◌, ap, ◌∙◌}
use mathlib.Core.List.{[], ◌∷◌}
use Prim.Native.Nat.{ℕ, ◌*◌, ◌<◌}
use lib.Dec.{eqb}
use Rattle.refusal_order.specs.Order.{◌unless◌, first_of}
use Rattle.wav_samples.specs.Filling.{refused_by}
use borrow.Author.Tests.{le-leb, lt-leb, lt-ltb, le-ltb, eq-eqb, ne_eqb}
use Rattle.wav_samples.proofs.Framing.{is-asked, is-not-asked, some_bytes, frames-are, broken, other-number}
use Rattle.wav_samples.proofs.filling.refusal.Statement.{statement}
use Rattle.wav_samples.proofs.filling.refusal.Tie as tie

abbrev started : tie.After-frame_width-frame → tie.Start
started c = c.before.before.before.before

returns : tie.Need-returns-then-not-asked
returns c = simp (is-not-asked c.before.args.asked c.if-not-asked.true-raw)

returns-2 : tie.Need-returns-then-channels-gt2
returns-2 c = simp (
  is-asked c.before.before.args.asked c.before.if-not-asked.false-raw,
  lt-leb _ _ c.if-channels-gt2.true,
)

returns-3 : tie.Need-returns-then-channel-channels
returns-3 c =
    let e = c.before in
    simp (
      is-asked e.before.before.args.asked e.before.if-not-asked.false-raw,
      le-leb _ _ e.if-channels-gt2.false,
      le-ltb _ _ c.if-channel-channels.true,
    )

-- A frame has at least one byte if there is a channel, so the code may divide by its width.
some : (c : tie.After-frame_width-frame) → 0 < c.frame_width-frame.result
some c =
    let s = c.before.before.before.before in
    rw c.frame_width-frame.ensures (some_bytes s.args.kind s.args.channel s.args.channels
    c.before.if-channel-channels.false)

-- Once the tests of 1 pass, the refusal is 2 unless the part is n frames.
passed : (c : tie.After-frame_width-frame) (v : ℕ)
    → v ≡ first_of (2 unless eqb (started c).args.size ((started c).args.n * c.frame_width-frame.result) ∷ [])
    → v ≡ refused_by (started c).args.asked (started c).args.kind (started c).args.channels
    (started c).args.channel (started c).args.size (started c).args.n
passed c v h =
    let e = c.before.before in
    simp (
      is-asked e.before.before.args.asked e.before.if-not-asked.false-raw,
      le-leb _ _ e.if-channels-gt2.false,
      lt-ltb _ _ c.before.if-channel-channels.false,
    )
    (h ∙ ap (λ (m : ℕ). first_of (2 unless eqb (started c).args.size ((started c).args.n * m) ∷ []))
    c.frame_width-frame.ensures)

rem-if4 : tie.Need-nonzero_rem-size
rem-if4 c = omega (arith, some c)

returns-4 : tie.Need-returns-then-size-frame-ne0
returns-4 c = passed c.before 2 (simp (ne_eqb _ _ (broken _ (started c.before).args.n _ c.if-size-frame-ne0.true)))

div-if5 : tie.Need-nonzero_div-size
div-if5 c = omega (arith, some c.before)

returns-5 : tie.Need-returns-then-size-frame
returns-5 c =
    let b = c.before.before in
    passed b 2 (simp (ne_eqb _ _ (other-number _ (started b).args.n _ (some b) c.if-size-frame.true)))

returns-6 : tie.Need-returns
returns-6 c =
    let b = c.before.before in
    passed b 0 (simp (eq-eqb _ _ (frames-are _ (started b).args.n _ c.before.if-size-frame-ne0.false
    c.if-size-frame.false)))

pub refusal_spec : {M : Type 1} → statement M
refusal_spec =
    tie.close (tie.spec returns returns-2 returns-3 (λ c κs. search rules) rem-if4 returns-4 div-if5 returns-5
    returns-6)
