-- `rounded_samples::first_misfit` meets its contract: the library finds the place. Assumes nothing.
use borrow.Author.Rules.{rules}
use mathlib.Core.Path.{◌≡◌, ◌∙◌}
use native.Mathlib.Omega.{arith}
use mathlib.Core.Bool.{not}
use lib.Ieee.{Float}
use Rattle.std.specs.Prelude.{position}
use Rattle.std.proofs.lemmas.Iterator.{YieldsList-from_slice}
use Rattle.std.proofs.lemmas.Iterator.Search.{position_from_yields_List}
use Rattle.stored_samples.specs.Stored.{fits_in}
use Rattle.rounded_samples.specs.Rounded.{misfit_in}
use Rattle.rounded_samples.proofs.Misfits.{first-place, within}
use Rattle.rounded_samples.proofs.first_misfit.Goals as goal

pub returns : goal.returns
returns c =
    let s = c.args in
    let e : c.position.result ≡ position (λ (x : Float). not (fits_in s.kind x)) s.samples.now =
    position_from_yields_List (λ (x : Float). not (fits_in s.kind x)) _ _ c.position.result c.position.ensures.ran
    (YieldsList-from_slice s.samples.now cc) (λ x b q k. search rules) in
    let place : c.unwrap_or.result ≡ misfit_in s.kind s.samples.now =
    c.unwrap_or.ensures ∙ rw e (first-place s.kind s.samples.now) in
    omega (arith, place, within s.kind s.samples.now)
