-- `fused_step::is_plain` meets its contract: each test is one of a plain pattern's three parts. Assumes nothing.
use Rattle.std.proofs.Common.{◌≡◌, ℕ, ◌-◌, ◌^◌, Bool, not, ◌&&◌, ltb, sym, ap, ◌∙◌, arith, ltb-true, le-ltb, lt-ltb}
use Rattle.std.proofs.Common.{eq-eqb, ne_eqb}
use mathlib.Core.Bool.{false≢true}
use lib.Bits.{bit_and, and_mask}
use Rattle.fused_step.specs.Steps.{plain}
use Rattle.fused_step.proofs.is_plain.Goals as goal

abbrev size : ℕ → ℕ
size n = bit_and n 0x7fff_ffff_ffff_ffff

abbrev least : ℕ
least = 0x3810_0000_1000_0000

-- If the first test does not decide, the other two do.
rest : (n : ℕ) → (bit_and n 0x1fff_ffff ≡ 0 → ⊥)
    → plain n ≡ (not (ltb (size n) least) && ltb (size n) 0x47e0_0000_1000_0000)
rest n h =
    ap (λ (z : Bool). not z && (not (ltb (size n) least) && ltb (size n) 0x47e0_0000_1000_0000))
    (ne_eqb (bit_and n 0x1fff_ffff) 0 h)

pub returns-then-n-eq0 : goal.returns-then-n-eq0
returns-then-n-eq0 c =
    let n = c.args.n in record {
      value = sym (ap (λ (z : Bool). not z && (not (ltb (size n) least) && ltb (size n) 0x47e0_0000_1000_0000))
          (eq-eqb (bit_and n 0x1fff_ffff) 0 c.if-n-eq0.true));
      plain = λ h. absurd (false≢true h);
    }

pub returns-then-m-lt4039728866019770368 : goal.returns-then-m-lt4039728866019770368
returns-then-m-lt4039728866019770368 c =
    let n = c.args.n in record {
      value = sym (rest n c.if-n-eq0.false
          ∙ ap (λ (z : Bool). not z && ltb (size n) 0x47e0_0000_1000_0000)
          (lt-ltb (size n) least c.if-m-lt4039728866019770368.true));
      plain = λ h. absurd (false≢true h);
    }

pub returns : goal.returns
returns c =
    let n = c.args.n in record {
      value = sym (rest n c.if-n-eq0.false
          ∙ ap (λ (z : Bool). not z && ltb (size n) 0x47e0_0000_1000_0000)
          (le-ltb (size n) least c.if-m-lt4039728866019770368.false));
      plain = λ h. record {
        normal = omega (arith, and_mask n 63);
        small = omega (arith, and_mask n 63, ltb-true (bit_and n (2 ^ 63 - 1)) 0x47e0_0000_1000_0000 h);
        no-midpoint = λ e. c.if-n-eq0.false (and_mask n 29 ∙ e);
      };
    }
