-- K4. Rust's max, min and clamp of floats, of either width. Each returns one of its arguments. Definitions only.
use Rattle.std.specs.Prelude.{Bool, cond, Float}
use Rattle.std.specs.Float.Ieee.{lt, is_nan}

-- If one of the two is a NaN, the other. Of two numbers the first if `before` holds, and otherwise the second.
unfoldable pub chosen : Bool → Float → Float → Float
chosen before x y = cond (is_nan x) y (cond (is_nan y) x (cond before x y))

-- If x and y compare equal, as 0.0 and -0.0 do, Rust leaves open which one `max` and `min` return; here it is the
-- second. 000 and 001 always hand in a constant second that is not -0.0, and then this is what Rust's release build
-- gives.
unfoldable pub larger : Float → Float → Float
larger x y = chosen (lt y x) x y

unfoldable pub smaller : Float → Float → Float
smaller x y = chosen (lt x y) x y

-- The original's `clamp`: a NaN stays a NaN, and -0.0 stays -0.0 even if low is 0.0.
unfoldable pub clamped : Float → Float → Float → Float
clamped x low high = cond (lt x low) low (cond (lt high x) high x)
