-- A fact about every float between two ends, shown piece by piece. The ends of the pieces are an ascending list, each
-- float lies in one of the pieces, and a computed test of the two ends of a piece gives the fact there. Assumes
-- nothing.
use mathlib.Core.Bool.{Bool, true, false, not, ◌&&◌}
use mathlib.Core.List.{List, [], ◌∷◌}
use lib.Dec.{T}
use lib.Ieee.{Float, le}
use lib.Ieee.Fits.{and_l, and_r}
use lib.Ieee.Scale.{finite}
use Rattle.magnitude.proofs.Comparisons.{lt→le}
use Rattle.interval.proofs.Signed.{nle→lt}
use Rattle.interval.proofs.Between.{Between, between}

-- ---- a list of tests
abbrev pub all : List Bool → Bool
all [] = true
all (b ∷ bs) = b && all bs

abbrev pub All : List Bool → Type 0
All [] = Unit {0}
All (b ∷ bs) = T b × All bs

pub all_of : (bs : List Bool) → T (all bs) → All bs
all_of [] h = tt
all_of (b ∷ bs) h = (and_l b (all bs) h, all_of bs (and_r b (all bs) h))

-- ---- the pieces that begin with a and b
abbrev pub passed : (Float → Float → Bool) → Float → Float → List Float → Bool
passed test a b [] = test a b
passed test a b (c ∷ cs) = finite b && (test a b && passed test b c cs)

abbrev pub end : Float → List Float → Float
end b [] = b
end b (c ∷ cs) = end c cs

total : {P : Type 0} (x y : Float) → T (finite x) → T (finite y) → (T (le x y) → P) → (T (le y x) → P) → P
total {P} x y p q = go (le x y) (λ t. t) (λ t. lt→le y x (nle→lt y x q p t))
  where
    go : (b : Bool) → (T b → T (le x y)) → (T (not b) → T (le y x)) → (T (le x y) → P) → (T (le y x) → P) → P
    go true j k f g = f (j tt)
    go false j k f g = g (k tt)

pub pieces : (P : Float → Type 0) (test : Float → Float → Bool) → ((a b x : Float) → T (test a b) → Between a b x → P x)
    → (a b : Float) (cs : List Float) (x : Float) → T (passed test a b cs) → Between a (end b cs) x → P x
pieces P test law a b [] x h u = law a b x h u
pieces P test law a b (c ∷ cs) x h u =
    let B = and_l (finite b) (test a b && passed test b c cs) h in
    let tests = and_r (finite b) (test a b && passed test b c cs) h in
    total x b u.above.second B
    (λ t. law a b x (and_l (test a b) (passed test b c cs) tests) (between u.above.first B u.above.order t))
    (λ t. pieces P test law b c cs x (and_r (test a b) (passed test b c cs) tests)
    (between B u.below.second t u.below.order))
