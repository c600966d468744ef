-- The sums of absent taps item by item over a fade, how large they can be, and what ends without any. Assumes nothing.
use Rattle.std.proofs.Common.{◌≡◌, ℕ, ◌+◌, ◌*◌, ◌^◌, ◌<◌, ◌≤◌, min, Bool, true, false, cond, List}
use Rattle.std.proofs.Common.{length, get_or, refl, ap, ◌∙◌, add-one, arith, le-leb}
use borrow.Author.Tests.{lt-leb}
use lib.Ieee.{Float, nan}
use Rattle.ring.specs.Length.{zeros}
use Rattle.variable_delay.specs.Reader.{position_of}
use Rattle.absent_taps.specs.declared.Absent.{Absent}
use Rattle.absent_taps.specs.Absent.{absent_of, none, plus}
use Rattle.absent_qualities.specs.Readings.{of_quality, of_turn}
use Rattle.absent_qualities.proofs.Readings.{few}
use Rattle.bank_choice.specs.declared.Choice.{Choice}
use Rattle.quality_mode.specs.declared.QualityMode.{QualityMode}
use Rattle.quality_fade.specs.declared.Turn.{Turn}
use Rattle.returning_fade.specs.declared.RuledFade.{RuledFade}
use Rattle.returning_fade.specs.Step.{step_of}
use Rattle.stretch.specs.Singles.{sum_of}
use Rattle.fade_absent.specs.Sums.{next_of, fade_after, item_absent, sums_of}

-- Each number is at most as many as the taps.
pub record AtMost (b : ℕ) (s : Absent) : Type 0 where
  pub unwritten : s.unwritten ≤ b
  pub ahead : s.ahead ≤ b
  pub overwritten : s.overwritten ≤ b

-- A call reads at most two qualities, each in at most two sets of 128 taps.
turn-few : (c : Choice) (t : Turn) (xs : List Float) (count : ℕ) (p : Float) → AtMost 512 (of_turn c t xs count p)
turn-few c t xs count p = by t.mixed
  where
    by : (b : Bool)
        → AtMost 512
        (cond b (plus (of_quality c t.from xs count p) (of_quality c t.to xs count p))
        (of_quality c t.to xs count p))
    by true =
        let f = few c xs count p t.from in
        let g = few c xs count p t.to in
        record {
          unwritten = omega (arith, f.unwritten, g.unwritten);
          ahead = omega (arith, f.ahead, g.ahead);
          overwritten = omega (arith, f.overwritten, g.overwritten);
        }
    by false =
        let g = few c xs count p t.to in
        record {
          unwritten = omega (arith, g.unwritten);
          ahead = omega (arith, g.ahead);
          overwritten = omega (arith, g.overwritten);
        }

module _ (len before : ℕ) (f : RuledFade) (c : Choice) (q : QualityMode) (ds : List Float) (done : ℕ) where
  -- What the loop keeps: the fade after k items, and the three sums over them, to which each adds at most 512.
  pub record Adding (n : ℕ) (running : RuledFade) (u a o k : ℕ) : Type 0 where
    pub many : n ≡ min done (length ds)
    pub place : k ≤ n
    pub bound : before + n ≤ 2 ^ 36
    pub runs : running ≡ fade_after q f k
    pub sums : absent_of u a o ≡ sum_of (item_absent len before f c q ds) k
    pub most : AtMost (512 * k) (absent_of u a o)

  pub begun : {n : ℕ} → n ≡ min done (length ds) → before + n ≤ 2 ^ 36 → Adding n f 0 0 0 0
  unfolding sum_of fade_after
  begun e b =
      record {
        many = e;
        place = omega arith;
        bound = b;
        runs = refl;
        sums = refl;
        most = record { unwritten = omega arith; ahead = omega arith; overwritten = omega arith };
      }

  module _ {n : ℕ} {running : RuledFade} {u a o k : ℕ} (w : Adding n running u a o k) where
    -- What item k adds.
    module _ {s : Absent}
        (e : s
        ≡ of_turn c (step_of running q).turn (zeros len) (before + k + 1)
        (position_of (before + k) (get_or ds k nan))) where
      item : s ≡ item_absent len before f c q ds k
      item = e ∙ rw w.runs

      pub least : AtMost 512 s
      least = rw e (turn-few c (step_of running q).turn (zeros len) (before + k + 1) _)

      pub one_more : {left : RuledFade} → left ≡ next_of q running → k < n
          → Adding n left (u + s.unwritten) (a + s.ahead) (o + s.overwritten) (k + 1)
      unfolding sum_of fade_after
      one_more h l =
          let m = least in
          record {
            many = w.many;
            place = omega arith;
            bound = w.bound;
            runs = rw (add-one k) (h ∙ ap (next_of q) w.runs);
            sums = rw (add-one k, ← w.sums, ← item);
            most =
                record {
                  unwritten = omega (arith, w.most.unwritten, m.unwritten);
                  ahead = omega (arith, w.most.ahead, m.ahead);
                  overwritten = omega (arith, w.most.overwritten, m.overwritten);
                };
          }

    pub ended : n ≤ k → absent_of u a o ≡ sums_of len before f c q ds done
    ended h =
        let same : k ≡ min done (length ds) = omega (arith, w.many, w.place) in
        let b : before + min done (length ds) ≤ 2 ^ 36 = omega (arith, w.many, w.bound) in
        w.sums
        ∙ rw (le-leb (before + min done (length ds)) (2 ^ 36) b)
        (ap (sum_of (item_absent len before f c q ds)) same)

  -- What is out of range gives three zeros.
  pub too_many : 2 ^ 36 < before + min done (length ds) → none ≡ sums_of len before f c q ds done
  too_many h = rw (lt-leb (before + min done (length ds)) (2 ^ 36) h)
