-- A sum that is held in two words: what is added to the low one, and the carry into the high one. Assumes nothing.
use Rattle.std.proofs.Common.{◌≡◌, ℕ, ◌+◌, ◌*◌, ◌/◌, ◌%◌, ◌^◌, ◌<◌, ◌≤◌, Bool, true, false, cond, ltb, refl, arith}
use Rattle.std.proofs.Common.{ltb-false, ltb-true}

-- s is added to h * 2^64 + l. The low half wraps around, and one is carried if it comes out below s.
module _ (h l s : ℕ) (half : l < 2 ^ 64) (small : s < 2 ^ 64) where
  carry : (t : Bool) → ltb ((l + s) % 2 ^ 64) s ≡ t → h + cond t 1 0 ≡ (h * 2 ^ 64 + l + s) / 2 ^ 64
  carry true e = omega (arith, ltb-true ((l + s) % 2 ^ 64) s e)
  carry false e = omega (arith, ltb-false ((l + s) % 2 ^ 64) s e)

  pub high_half : h + cond (ltb ((l + s) % 2 ^ 64) s) 1 0 ≡ (h * 2 ^ 64 + l + s) / 2 ^ 64
  high_half = carry (ltb ((l + s) % 2 ^ 64) s) refl

  pub low_half : (l + s) % 2 ^ 64 ≡ (h * 2 ^ 64 + l + s) % 2 ^ 64
  low_half = omega arith

pub one_at_most : (t : Bool) → cond t 1 0 ≤ 1
one_at_most true = omega arith
one_at_most false = omega arith
