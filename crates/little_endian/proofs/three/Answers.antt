-- `little_endian::three` meets its contract, by the law for any number of bytes. Assumes nothing.
use borrow.Author.Rules.{rules}
use mathlib.Core.Path.{ap, ◌∙◌}
use Prim.Native.Nat.{ℕ, ◌+◌, ◌%◌, ◌^◌}
use native.Mathlib.Omega.{arith}
use lib.Dec.{lit≤}
use lib.ListN.{drop}
use lib.Seq.{get_or-drop}
use Rattle.little_endian.proofs.FirstBytes.{front}
use Rattle.little_endian.proofs.three.Goals as goal

pub returns : goal.returns
returns c =
    let s = c.args.s.now in
    let at = c.args.at in record {
      value = ap (λ (v : ℕ). v % 256 ^ 3) c.low_first_u32.ensures
          ∙ front 4 3 (drop at s) (lit≤ tt)
          (λ i. rw (get_or-drop at s i 0) (omega (arith, c.shared_slice_known-1.given (at + i))));
      upper_bound = search rules;
    }
