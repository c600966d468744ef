-- `long_header::long::put_front` meets its contract: the front that is lent becomes the opening. Assumes nothing.
use mathlib.Core.Path.{◌∙◌, ap}
use mathlib.Core.List.{List, ◌++◌}
use lib.ListN.{drop}
use Prim.Native.Nat.{ℕ}
use Rattle.long_header.proofs.long.put_front.Goals as goal

pub returns : goal.returns
returns c =
    ap (λ (zs : List ℕ). zs ++ drop 48 c.args.out.now) (c.copy_from_slice.ensures.after ∙ c.opening_of-first.ensures)
