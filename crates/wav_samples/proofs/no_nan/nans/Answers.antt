-- `wav_samples::no_nan::nans` meets its contract: a count of 0 after each turn covers one pattern more. Assumes
-- nothing.
use native.Mathlib.Omega.{arith}
use Rattle.wav_samples.proofs.Blocks.{no-pattern, one-counted}
use Rattle.wav_samples.proofs.no_nan.nans.Goals as goal

pub loop-k-preserved : goal.loop-k-preserved
loop-k-preserved c =
    let l = c.loop-k in
    let i = l.invariant in (
      omega (arith, i.0, c.one_if_nan-found.ensures.upper_bound),
      one-counted _ l.k _ c.four_at.ensures _ l.found c.one_if_nan-found.ensures.n_bound i.1,
    )

pub loop-k-init : goal.loop-k-init
loop-k-init c = (omega arith, λ e. no-pattern _ _)
