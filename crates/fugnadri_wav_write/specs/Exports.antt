-- W2, W10. What the contracts of the exports name: a kind and a form by their codes, an answer as plain numbers, and
-- everything that an export may write as one record, so that one equation states it. A code above 2 is no kind's: it is
-- refused by 13, or by 1 for the rate or for broken frames, since its samples have no width. Definitions only.
use Rattle.std.specs.Prelude.{ℕ, cond, List, eqb, leb, length, Float}
use Rattle.sample_kind.specs.Kinds.{kind_of}
use Rattle.wav_header.specs.Refusals.{unlisted_verdict}
use Rattle.long_header.specs.declared.Form.{Form}
use Rattle.long_header.specs.declared.Form.TheVariants.{Rf64, Bw64}
use Rattle.long_header.specs.LongHeader.{header_length_for}
use Rattle.long_header.specs.Refusals.{header_verdict_for, header_after, length_for64}
use Rattle.wav_store.specs.Storing as storing
use Rattle.wav_write.specs.declared.Written.{Written}
use Rattle.wav_write.specs.declared.Written.TheVariants as answers
use Rattle.wav_write.specs.Writing.{answer_of, written}

-- 0 is RF64 and 1 is BW64. For a code above 1 the rate counts as 0, so that 1 refuses it.
abbrev pub form_of : ℕ → Form
form_of form = cond (eqb form 0) Rf64 Bw64

abbrev pub rate_for : ℕ → ℕ → ℕ
rate_for form rate = cond (leb form 1) rate 0

-- What writing a file leaves: the refusal number that it returns, 0 for none, the file's length, and the lent bytes.
pub record Left : Type 0 where
  pub refusal : ℕ
  pub size : ℕ
  pub bytes : List ℕ

abbrev pub leaves : ℕ → ℕ → List ℕ → Left
leaves refusal size bytes = record { refusal = refusal; size = size; bytes = bytes }

-- ---- a file
abbrev pub number_of : Written → ℕ
number_of (answers.Length n) = 0
number_of (answers.Refused k) = k

abbrev pub size_of : Written → ℕ
size_of (answers.Length n) = n
size_of (answers.Refused k) = 0

abbrev pub file_left : ℕ → ℕ → ℕ → ℕ → List Float → List ℕ → Left
file_left form code channels rate samples old =
    let answer = answer_of (kind_of code) channels (rate_for form rate) samples (length old) in
    cond (leb code 2)
    (leaves (number_of answer) (size_of answer)
    (written (form_of form) (kind_of code) channels (rate_for form rate) samples old))
    (leaves (unlisted_verdict channels (rate_for form rate) (length samples)) 0 old)

-- ---- its parts, which answer no length
pub record Block : Type 0 where
  pub refusal : ℕ
  pub bytes : List ℕ

abbrev pub holds : ℕ → List ℕ → Block
holds refusal bytes = record { refusal = refusal; bytes = bytes }

abbrev pub header_left : ℕ → ℕ → ℕ → ℕ → ℕ → List ℕ → Block
header_left form code channels rate count old =
    cond (leb code 2)
    (holds (header_verdict_for (kind_of code) channels (rate_for form rate) count (length old))
    (header_after (form_of form) (kind_of code) channels (rate_for form rate) count old))
    (holds (unlisted_verdict channels (rate_for form rate) count) old)

abbrev pub header_length_of : ℕ → ℕ → ℕ
header_length_of code count = cond (leb code 2) (header_length_for (kind_of code) count) 0

-- A block of samples of an unknown kind is refused by 13, because no length of it could be tested.
abbrev pub block_left : ℕ → List Float → List ℕ → Block
block_left code samples old =
    cond (leb code 2)
    (holds (storing.verdict (kind_of code) samples (length old)) (storing.stored (kind_of code) samples old))
    (holds 13 old)

abbrev pub length_of : ℕ → ℕ → ℕ → ℕ
length_of code channels count = cond (leb code 2) (length_for64 (kind_of code) channels count) 0
