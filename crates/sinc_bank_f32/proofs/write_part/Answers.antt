-- `sinc_bank_f32::write_part` meets its contract: the lent part is not refused, so it comes back as the table. Assumes
-- nothing.
use mathlib.Core.Path.{◌≡◌, refl, ◌∙◌, ap}
use mathlib.Core.List.{List, ◌++◌}
use Prim.Native.Nat.{ℕ, ◌-◌}
use native.Mathlib.Omega.{arith}
use lib.ListN.{length, take, drop}
use lib.Ieee.{Float, of_bits}
use Rattle.loop_laws.proofs.Rows.{length_part}
use Rattle.sinc_settings.specs.Refusals.{for_rate, rate_verdict}
use Rattle.windowed_sinc.specs.Table.{table_after}
use Rattle.windowed_sinc_f32.specs.Table.{table_f32_in}
use Rattle.sinc_bank_f32.specs.Sets.{passband, with_part}
use Rattle.sinc_bank_f32.proofs.write_part.Goals as goal

pub returns : goal.returns
unfolding with_part of_bits
returns c =
    let a = c.args in
    let s = for_rate a.taps a.phases a.rate passband a.beta in
    let xs = a.set.now in
    let lent = take (a.end - a.start) (drop a.start xs) in
    let long : length lent ≡ a.end - a.start =
    length_part xs a.start (a.end - a.start) (a.end - a.start) refl (omega (arith, c.requires.0, c.requires.1)) in
    let none : rate_verdict s a.rate passband (length lent) ≡ 0 =
    ap (λ (n : ℕ). rate_verdict s a.rate passband n) long ∙ c.requires.2 in
    ap (λ (ys : List Float). take a.start xs ++ (ys ++ drop (a.end - a.start) (drop a.start xs)))
    (c.for_max_rate_in-built.ensures.table_after ∙ ap (λ (v : ℕ). table_after v (table_f32_in a.mode s) lent) none)
