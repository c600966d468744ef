-- `wav_store::placing::place_float` meets its contract: each turn writes the bytes of sixteen samples, and those that
-- are left follow. Assumes nothing.
use mathlib.Core.Path.{◌≡◌, ◌∙◌}
use mathlib.Core.Bool.{true}
use Prim.Native.Nat.{◌-◌, ◌*◌, ◌/◌}
use native.Mathlib.Omega.{arith}
use lib.ListN.{length, take, drop, get_or}
use Rattle.std.proofs.Common.{rules}
use Rattle.sample_kind.specs.declared.SampleKind.TheVariants.{Float32}
use Rattle.stored_samples.specs.Stored.{fits_in, word_of}
use Rattle.wav_store.proofs.Looked.{tail_fits}
use Rattle.wav_store.proofs.Placed.{unplaced, moved, last_placed}
use Rattle.wav_store.proofs.Words.{words-bytes}
use Rattle.wav_store.proofs.placing.place_float.Goals as goal

pub loop-turn-init : goal.loop-turn-init
loop-turn-init c = unplaced c.requires.long

pub sixteen-requires : goal.sixteen-requires
sixteen-requires c =
    record { next = record { room = omega arith; fit = c.requires.fit }; placed = c.loop-turn.invariant }

pub loop-turn-preserved : goal.loop-turn-preserved
loop-turn-preserved c = moved c.sixteen.ensures (omega arith)

pub place_words-requires-clause-callable : goal.place_words-requires-clause-callable
place_words-requires-clause-callable c k d h =
    let xs = c.args.samples.now in
    let m = length xs / 16 * 16 in
    let e : fits_in Float32 (get_or (take (length xs - m) (drop m xs)) k d) ≡ true =
    tail_fits Float32 xs m k d c.requires.fit h in
    search rules

pub returns : goal.returns
returns c =
    last_placed (moved c.loop-turn.invariant (omega arith))
    (c.place_words.ensures (word_of Float32) (λ x r h. search rules) ∙ words-bytes Float32 _)
