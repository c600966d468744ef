-- `wav_store::turns::sixteen` meets its contract, by what the digits of the samples show. Assumes nothing.
use mathlib.Core.Path.{◌≡◌, subst}
use mathlib.Core.Bool.{true}
use Prim.Native.Nat.{ℕ, ◌+◌, ◌-◌}
use native.Mathlib.Omega.{arith}
use lib.ListN.{get_or}
use Rattle.std.proofs.Common.{rules}
use Rattle.sample_kind.specs.declared.SampleKind.TheVariants.{Float32}
use Rattle.stored_samples.specs.Stored.{fits_in}
use Rattle.wav_store.specs.Inner.{Plain}
use Rattle.wav_store.proofs.Looked.{each_fits}
use Rattle.wav_store.proofs.turns.sixteen.Goals as goal

pub sixteen_by-requires-clause-callable : goal.sixteen_by-requires-clause-callable
sixteen_by-requires-clause-callable c k d l h =
    let i = c.args.i in
    let xs = c.args.samples.now in
    let at : i + (k - i) ≡ k = omega arith in
    let p : Plain (get_or xs k d) =
    subst (λ (m : ℕ). Plain (get_or xs m d)) at
    (c.every.ensures c.if-every-eq4323455642275676160.true (k - i) (omega arith) d) in
    search rules

pub sixteen_by-requires-else-every-eq4323455642275676160-clause-callable
    : goal.sixteen_by-requires-else-every-eq4323455642275676160-clause-callable
sixteen_by-requires-else-every-eq4323455642275676160-clause-callable c k d l h =
    let xs = c.args.samples.now in
    let e : fits_in Float32 (get_or xs k d) ≡ true =
    each_fits Float32 xs k d c.requires.next.fit (omega (arith, c.requires.next.room)) in
    search rules
