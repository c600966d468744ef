-- `wanted::put_wanted` meets its contract: each arm of the match puts the sentence of its name. Assumes nothing.
use mathlib.Core.Path.{◌≡◌}
use mathlib.Core.List.{List}
use Prim.Native.Nat.{ℕ}
use Rattle.text.specs.Text.{ascii}
use Rattle.text.proofs.Texts.{Puts}
use Rattle.wanted.specs.Wanted.{wanted_of}
use Rattle.arguments.specs.declared.Name.{Name}
use Rattle.wanted.proofs.put_wanted.Goals as goal

told : (xs : List ℕ) (at : ℕ) {r : ℕ} {ys : List ℕ} {n m : Name} → n ≡ m → Puts xs at (wanted_of m) r ys
    → Puts xs at (wanted_of n) r ys
told xs at e p = rw e p

pub returns-in-Seed : goal.returns-in-Seed
unfolding ascii
returns-in-Seed c =
    let a = c.args in
    let both = told a.out.now a.at c.in-Seed.is c.put.ensures in
    both

pub returns-in-Delay : goal.returns-in-Delay
unfolding ascii
returns-in-Delay c =
    let a = c.args in
    let both = told a.out.now a.at c.in-Delay.is c.put-in-Delay.ensures in
    both

pub returns-in-Kind : goal.returns-in-Kind
unfolding ascii
returns-in-Kind c =
    let a = c.args in
    let both = told a.out.now a.at c.in-Kind.is c.put-in-Kind.ensures in
    both

pub returns-in-Setting : goal.returns-in-Setting
unfolding ascii
returns-in-Setting c =
    let a = c.args in
    let both = told a.out.now a.at c.in-Setting.is c.put-in-Setting.ensures in
    both

pub returns-in-FirstSkip : goal.returns-in-FirstSkip
unfolding ascii
returns-in-FirstSkip c =
    let a = c.args in
    let both = told a.out.now a.at c.in-FirstSkip.is c.put-in-FirstSkip.ensures in
    both

pub returns-in-SecondSkip : goal.returns-in-SecondSkip
unfolding ascii
returns-in-SecondSkip c =
    let a = c.args in
    let both = told a.out.now a.at c.in-SecondSkip.is c.put-in-SecondSkip.ensures in
    both

pub returns-in-Frames : goal.returns-in-Frames
unfolding ascii
returns-in-Frames c =
    let a = c.args in
    let both = told a.out.now a.at c.in-Frames.is c.put-in-Frames.ensures in
    both

pub returns-in-Channel : goal.returns-in-Channel
unfolding ascii
returns-in-Channel c =
    let a = c.args in
    let both = told a.out.now a.at c.in-Channel.is c.put-in-Channel.ensures in
    both

pub returns-in-Picture : goal.returns-in-Picture
unfolding ascii
returns-in-Picture c =
    let a = c.args in
    let both = told a.out.now a.at c.in-Picture.is c.put-in-Picture.ensures in
    both

pub returns-in-Unknown : goal.returns-in-Unknown
unfolding ascii
returns-in-Unknown c =
    let a = c.args in
    let both = told a.out.now a.at c.in-Unknown.is c.put-in-Unknown.ensures in
    both
