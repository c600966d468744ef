-- The answers of a reading. No contract can say which bytes the system puts into a slice, nor how many a file has.
-- Definitions only.
use Rattle.std.specs.Prelude.{ℕ}

-- 0: the slice was filled. 1: the call failed, and the system has the reason. 2: the file ended.
pub data Reads : ℕ → Type 0 where
  filled : Reads 0
  failed : Reads 1
  ended : Reads 2
