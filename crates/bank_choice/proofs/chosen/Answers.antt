-- `bank_choice::chosen` meets its contract: its steps are those of the definition. Assumes nothing.
use Rattle.std.proofs.Common.{◌≡◌, ℕ, ◌+◌, ◌-◌, min, Bool, false, negsuc, arith}
use lib.Ieee.{Float, fin, binary64, sub, div, neg, le, of_bits}
use Rattle.rounding.specs.Operations.{narrowed}
use Rattle.min_max.specs.Choice.{clamped}
use Rattle.sinc_settings.specs.Ranges.{zero-f, one-f}
use Rattle.bank_choice.specs.declared.Choice.{Choice}
use Rattle.bank_choice.specs.Rates.{steps_of, rate_of}
use Rattle.bank_choice.specs.Choosing.{partition_of, lower_of, close_of, blend_of, which_of, chosen_of}
use Rattle.bank_choice.proofs.SetCounts.{least}
use Rattle.bank_choice.proofs.chosen.Goals as goal
use Rattle.bank_choice.proofs.chosen.Goals.{After-steps-n}

-- Each value of the code is the definition's.
joined : (top rate : Float) (n p s t w : ℕ) (r o l b g : Float) (k : Bool)
    → n ≡ steps_of top → r ≡ clamped rate one-f top → p ≡ partition_of top n r → s ≡ min p (n - 1)
    → t ≡ min (s + 1) (n - 1) → o ≡ rate_of top n (s + 1) → l ≡ lower_of top n s
    → b ≡ narrowed (div binary64 (sub binary64 r l) (sub binary64 o l)) → k ≡ close_of o l
    → w ≡ which_of k (le b (fin false 1 (negsuc 22))) (le (fin false 8388607 (negsuc 22)) b)
    → g ≡ clamped b zero-f one-f
    → ◌≡◌ {A = Choice} (record { safe = s; tighter = t; which = w; blend = g }) (chosen_of top rate)
unfolding chosen_of blend_of
joined top rate n p s t w r o l b g k hn hr hp hs ht ho hl hb hk hw hg = rw (hg, hw, hk, hb, hl, ho, ht, hs, hp, hr, hn)

-- In range the number of sets is the definition's.
count : (c : After-steps-n) → c.steps-n.result ≡ steps_of c.args.max_rate
count c = rw c.requires at c.steps-n.ensures

pub among-requires : goal.among-requires
among-requires c = (c.requires, count (goal.at.among-requires c).After-steps-n)

pub overflow_sub-n : goal.overflow_sub-n
overflow_sub-n c = omega (arith, count (goal.at.overflow_sub-n c).After-steps-n, least c.args.max_rate)

pub overflow_sub-n-2 : goal.overflow_sub-n-2
overflow_sub-n-2 c = overflow_sub-n c.before

pub returns : goal.returns
unfolding of_bits neg
returns c =
    let a = c.args in
    joined a.max_rate a.rate c.steps-n.result c.among.result c.at_most-safe.result c.at_most-tighter.result
    c.which.result c.clamp-r.result c.rate-own.result c.lower-below.result c.narrow-blend.result
    c.clamp_f32.result c.within-close.result
    (count (goal.at.returns c).After-steps-n) c.clamp-r.ensures c.among.ensures c.at_most-safe.ensures
    c.at_most-tighter.ensures c.rate-own.ensures
    c.lower-below.ensures c.narrow-blend.ensures c.within-close.ensures c.which.ensures c.clamp_f32.ensures
