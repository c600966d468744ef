-- `windowed_sinc_f32::for_max_rate_in` meets its contract, by the refusal of the settings that it hands on. Assumes
-- nothing.
use mathlib.Core.Path.{sym, ◌∙◌}
use lib.ListN.{length}
use Rattle.sinc_settings.proofs.BuilderAccepted.{by-rate}
use Rattle.windowed_sinc_f32.proofs.for_max_rate_in.Goals as goal

pub build-requires : goal.build-requires
build-requires c =
    let a = c.args in
    λ none. by-rate c.for_rate-settings.result a.max_rate a.passband (length a.table.now)
    (sym c.rate_refusal-no.ensures ∙ none)

pub returns : goal.returns
returns c =
    rw (c.rate_refusal-no.ensures, c.for_rate-settings.ensures) at c.build.ensures
