-- C1. What it means that a contract determines a function. An input a is the arguments and the lent slices as they are
-- handed in. A candidate gives the answer r, which includes the state, and the lent slices as it leaves them, e.
-- Definitions only.
use Rattle.std.specs.Prelude.{◌≡◌}

module _ {A R E : Type 0} where
  -- A candidate meets every clause of a contract, at every input.
  abbrev pub Meets : (A → R → E → Type 0) → (A → R × E) → Type 0
  Meets contract f = (a : A) → contract a (f a).0 (f a).1

  -- Any two candidates that meet the contract agree at every input: in the answer, and in every element that may be
  -- written.
  abbrev pub Determined : {L : Type 0} → (A → R → E → Type 0) → (E → L) → Type 0
  Determined contract written =
      (f g : A → R × E) → Meets contract f → Meets contract g → (a : A)
      → ((f a).0 ≡ (g a).0) × (written (f a).1 ≡ written (g a).1)

-- The form of such a contract: it says what the answer r and the written elements x equal.
abbrev pub Given : {R L : Type 0} → R → L → R → L → Type 0
Given answer left r x = (r ≡ answer) × (x ≡ left)
