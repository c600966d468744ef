-- The numbers counted beside a call on plain numbers are the call's absent taps, and none if it is refused, by whether
-- every number names something. Assumes nothing.
use mathlib.Core.Path.{◌≡◌, refl, ◌∙◌, ap}
use mathlib.Core.Bool.{Bool, true, false, ◌&&◌, cond}
use mathlib.Core.List.{List}
use Prim.Native.Nat.{ℕ, zero, suc}
use borrow.Author.Tests.{eq-eqb}
use lib.Dec.{leb}
use lib.ListN.{length}
use lib.Ieee.{Float}
use Rattle.answer.specs.Answers.{answer_f32_of, number_f32_of}
use Rattle.answer_parts.specs.Left.{leaves}
use Rattle.absent_taps.specs.declared.Absent.{Absent}
use Rattle.absent_taps.specs.Absent.{none}
use Rattle.variable_delay.specs.Reader.{Reading}
use Rattle.bank_choice.specs.Inner.{choice_of}
use Rattle.bank_choice.specs.Rates.{bank_ok}
use Rattle.bank_read.specs.Bank.{bank_at}
use Rattle.returning_fade.specs.Step.{step_of}
use Rattle.quality_mode.specs.declared.QualityMode.{QualityMode}
use Rattle.quality_variable_delay.specs.declared.QualityVariableDelayF32.{QualityVariableDelayF32}
use Rattle.quality_variable_delay.specs.State.{fade_part}
use Rattle.quality_variable_delay.specs.Bank.{due_of}
use Rattle.quality_variable_delay.specs.Reader.{processed_by}
use Rattle.quality_codes.specs.declared.Coded.{Coded}
use Rattle.quality_codes.specs.declared.Called.{Called}
use Rattle.quality_codes.specs.Codes.{mode_of, code_ok, decoded, fields_ok, odd_number}
use Rattle.quality_codes.specs.Calls.{pick_called, taken_apart, refused_by, called_of, ring_called}
use Rattle.quality_codes.specs.Left.{changed_of}
use Rattle.told_call.specs.Told.{unless_refused}
use Rattle.told_quality.specs.Told.{absent_of_call}
use Rattle.told_quality.specs.Inner.{counted_of}
use Rattle.told_quality.proofs.ByCounts.{by-bank, in-range}
use Rattle.told_codes.specs.Left.{leaves_told, absent_called, left_by}

-- The number in an answer is the verdict that made it.
by_number : (v : ℕ) (z : Float) (s : Absent) → unless_refused v s ≡ unless_refused (number_f32_of (answer_f32_of v z)) s
by_number zero z s = refl
by_number (suc k) z s = refl

-- A number that names nothing is refused by some number.
odd_refused : (asked : Bool) (v : ℕ) (s : Absent) → none ≡ unless_refused (odd_number asked v) s
odd_refused false v s = refl
odd_refused true zero s = refl
odd_refused true (suc k) s = go (leb 1 (suc k) && leb (suc k) 2)
  where
    go : (b : Bool) → none ≡ unless_refused (cond b (suc k) 3) s
    go true = refl
    go false = refl

module _ (max-rate : Float) (s : Coded) (xs : List Float) (x y : Float) (q : ℕ) (rate : Float) where
  abbrev counted : Called → Absent
  counted c =
      counted_of (length xs) s.accepted c.state.accepted y (choice_of max-rate rate)
      (step_of (fade_part (decoded s)) (mode_of q)).turn

  abbrev absent : Absent
  absent = absent_of_call max-rate (decoded s) xs x y (mode_of q) rate

  -- A call over whatever sets: `asked` says that the arguments' numbers name something, v is the reader's own verdict.
  module _ (read : QualityMode → Reading) (asked : Bool) (v : ℕ) (bank : v ≡ 0 → bank_ok max-rate ≡ true) where
    abbrev called : Bool → Called
    called b =
        pick_called b (taken_apart (processed_by read v (decoded s) xs x y (mode_of q)))
        (refused_by (odd_number asked v) s)

    by_names : (b : Bool) → counted (called b) ≡ unless_refused (called b).number absent
    by_names true = by-bank max-rate (decoded s) xs x y (mode_of q) rate v bank ∙ by_number v _ absent
    by_names false = rw (eq-eqb s.accepted s.accepted refl) (odd_refused asked v absent)

    -- What the code writes: c from the call, zs the ring that it leaves, a from the count beside it. b says that every
    -- number names something.
    pub left-told-by : (b : Bool) (c : Called) {d : QualityVariableDelayF32} {m : QualityMode} {a : Absent}
        {zs ring : List Float} → (c ≡ called b) × (zs ≡ ring) → d ≡ decoded s → m ≡ mode_of q
        → a ≡ counted_of (length xs) d.accepted c.state.accepted y (choice_of max-rate rate)
        (step_of (fade_part d) m).turn
        → leaves_told (leaves c.number c.sample (changed_of c.state) zs) a
        ≡ leaves_told (leaves (called b).number (called b).sample (changed_of (called b).state) ring)
        (unless_refused (called b).number absent)
    left-told-by b c e d m h = rw (h, d, m, e.0, e.1) (ap (leaves_told _) (by_names b))

-- The same of the reader's own call, over the sets that are lent as a bank.
module _ (sets : List Float) (max-rate : Float) (s : Coded) (xs : List Float) (x y : Float) (q : ℕ) (rate : Float) where
  pub counted-beside :
      counted max-rate s xs x y q rate (called_of sets max-rate s xs x y q rate)
      ≡ absent_called sets max-rate s xs x y q rate
  counted-beside =
      by_names max-rate s xs x y q rate (bank_at sets max-rate rate) (code_ok q)
      (due_of (length sets) max-rate (decoded s) (length xs) x y rate)
      (in-range (length sets) max-rate (decoded s) (length xs) x y rate) (code_ok q && fields_ok s)

  -- What the code writes: c from the call, zs the ring that it leaves, a from the count beside it.
  pub left-told : (c : Called) {d : QualityVariableDelayF32} {m : QualityMode} {a : Absent} {zs : List Float}
      → (c ≡ called_of sets max-rate s xs x y q rate) × (zs ≡ ring_called sets max-rate s xs x y q rate)
      → d ≡ decoded s → m ≡ mode_of q
      → a ≡ counted_of (length xs) d.accepted c.state.accepted y (choice_of max-rate rate)
      (step_of (fade_part d) m).turn
      → leaves_told (leaves c.number c.sample (changed_of c.state) zs) a ≡ left_by sets max-rate s xs x y q rate
  left-told c e =
      left-told-by max-rate s xs x y q rate (bank_at sets max-rate rate) (code_ok q)
      (due_of (length sets) max-rate (decoded s) (length xs) x y rate)
      (in-range (length sets) max-rate (decoded s) (length xs) x y rate) (code_ok q && fields_ok s) c e
