-- A single call over f32 samples leaves what crates/stretch_call says of one, because the answers of both widths hold
-- the same number and the same sample. So this reader is orderly too, as the laws of a stretch ask (W3c to W3h).
-- Assumes nothing.
use mathlib.Core.Path.{◌≡◌, refl}
use mathlib.Core.Bool.{Bool}
use mathlib.Core.List.{List}
use Prim.Native.Nat.{ℕ, zero, suc}
use lib.ListN.{length}
use lib.Ieee.{Float}
use Rattle.answer.specs.Answers.{number_of, value_of, number_f32_of, value_f32_of}
use Rattle.variable_delay.specs.Reader.{Reading, verdict, ring_after, processed_by}
use Rattle.variable_delay.specs.declared.VariableDelay.{VariableDelay}
use Rattle.variable_delay_f32.specs.Call.{processed_f32_by}
use Rattle.stretch.specs.Stretch.{Called}
use Rattle.stretch.specs.Singles.{Orderly}
use Rattle.stretch_call.specs.Items.{item_of}
use Rattle.stretch_call.proofs.Items.{orderly}
use Rattle.sinc_stretch_f32.specs.Reader.{item_f32, reader_f32}

module _ (read : Reading) (own lent : Bool) where
  pub same_item : (d : VariableDelay) (ring : List Float) (x y : Float)
      → item_f32 read own lent d ring x y ≡ item_of read own lent d ring x y
  unfolding item_f32 item_of
  same_item d ring x y = by (verdict own lent d (length ring) x y)
    where
      by : (v : ℕ) → let p = processed_f32_by read v d ring x y in let q = processed_by read v d ring x y in
          ◌≡◌ {A = Called VariableDelay}
          (record {
            state = p.state;
            ring = ring_after v d ring x;
            number = number_f32_of p.answer;
            sample = value_f32_of p.answer;
          })
          (record {
            state = q.state;
            ring = ring_after v d ring x;
            number = number_of q.answer;
            sample = value_of q.answer;
          })
      by zero = refl
      by (suc k) = refl

  pub orderly-f32 : Orderly (reader_f32 read own lent)
  orderly-f32 =
      let o = orderly read own lent in
      record {
        still = λ d ring x y k. rw (same_item d ring x y) (o.still d ring x y k);
        keeps = λ d ring x y. rw (same_item d ring x y) (o.keeps d ring x y);
        later = λ d ring x y k. rw (same_item d ring x y) (o.later d ring x y k);
      }
