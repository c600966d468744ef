-- W3. A whole stretch of a delay reader, defined once for all kernels over what the kernel reads, as the reader itself
-- is. Definitions only.
use Rattle.std.specs.Prelude.{ℕ, Bool, ◌&&◌, List, [], ◌∷◌, eqb, leb, ltb, length, Float}
use Rattle.std.specs.Float.Ieee.{le}
use Rattle.std.specs.Float.Ieee.Scale.{finite}
use Rattle.constants.specs.Numbers.{zero-f, limit, limit-f}
use Rattle.refusal_order.specs.Order.{◌unless◌, first_of}
use Rattle.answer.specs.Answers.{number_of, value_of}
use Rattle.ring.specs.Length.{settings_ok, length_for}
use Rattle.variable_delay.specs.Reader.{Reading, verdict, ring_after, processed_by}
use Rattle.variable_delay.specs.declared.VariableDelay.{VariableDelay}
use Rattle.stretch.specs.Stretch.{Call, Ran}
use Rattle.stretch.specs.Whole.{Reader, refused_first, done_of, out_after}
use Rattle.stretch_call.specs.declared.StretchAnswer.{StretchAnswer}

-- W3a. An item is a single call of the reader.
unfoldable pub item_of : Reading → Bool → Bool → Call VariableDelay
item_of read own lent d ring x y =
    let v = verdict own lent d (length ring) x y in
    let p = processed_by read v d ring x y in
    record {
      state = p.state;
      ring = ring_after v d ring x;
      number = number_of p.answer;
      sample = value_of p.answer;
    }

-- W3c. Its tests 1 to 3 are those of the single call. `own` says that the kernel's own settings are in range, `lent`
-- that the table lent to it has its length.
abbrev pub delay_reader : Reading → Bool → Bool → Reader VariableDelay
delay_reader read own lent = record {
  settings = λ d. settings_ok d.maximum d.margin && own;
  lent = λ d len. eqb len (length_for d.maximum d.margin) && lent;
  fields = λ d. leb d.accepted limit;
  call = item_of read own lent;
}

-- The refusal before the first item, which does not depend on what the kernel reads.
abbrev pub before_items : Bool → Bool → VariableDelay → ℕ → ℕ → ℕ → ℕ → ℕ
before_items own lent = refused_first (delay_reader (λ ring count p. zero-f) own lent)

-- What is left of the single call's tests when 1 to 3 have passed.
abbrev pub item_due : ℕ → Float → Float → ℕ
item_due accepted x y =
    first_of
    (4 unless finite x
    ∷ 5 unless (finite y && le zero-f y)
    ∷ 6 unless le y limit-f
    ∷ 8 unless ltb accepted limit
    ∷ [])

abbrev pub answer_of : Ran VariableDelay → StretchAnswer
answer_of r = record { state = r.state; done = done_of r; refusal = r.number }

-- All that a stretch answers and leaves.
pub record Left : Type 0 where
  pub answer : StretchAnswer
  pub ring : List Float
  pub out : List Float

abbrev pub leaves : StretchAnswer → List Float → List Float → Left
leaves answer ring out = record { answer = answer; ring = ring; out = out }

abbrev pub left_by : List Float → Ran VariableDelay → Left
left_by out r = leaves (answer_of r) r.ring (out_after out r)
