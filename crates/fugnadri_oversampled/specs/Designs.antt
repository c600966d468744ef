-- W11a. What a design leaves: the refusal number, which it returns, 0 for none, and the coefficients. Definitions only.
use Rattle.std.specs.Prelude.{ℕ, List, length, Float}
use Rattle.filter_settings.specs.Ranges.{design_verdict}
use Rattle.lowpass.specs.Design.{designed}

pub record Design : Type 0 where
  pub number : ℕ
  pub coefficients : List Float

abbrev pub designs : ℕ → List Float → Design
designs number coefficients = record { number = number; coefficients = coefficients }

abbrev pub design_of : ℕ → Float → Float → List Float → Design
design_of taps cutoff beta xs = designs (design_verdict taps cutoff beta (length xs)) (designed taps cutoff beta xs)
