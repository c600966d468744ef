-- A walk step by step, for any layout: what has been seen, together with the rest of the walk, is what the whole walk
-- sees. A loop over `turn` that starts with `begin` and goes on while 8 bytes are left cites four laws: `on-begun`,
-- `on-turned`, `fewer` and `on-ended`. Assumes nothing.
use mathlib.Core.Path.{◌≡◌, refl, sym, ap, ◌∙◌}
use mathlib.Core.Bool.{Bool, true, false, cond}
use mathlib.Core.List.{◌∷◌}
use Prim.Native.Nat.{ℕ, ◌+◌, ◌-◌, ◌%◌, ◌≤◌, ◌<◌}
use native.Mathlib.Omega.{arith}
use lib.Dec.{ltb}
use Rattle.riff_chunks.specs.declared.Chunk.{Chunk}
use Rattle.riff_chunks.specs.declared.Sought.{Sought}
use Rattle.riff_chunks.specs.declared.Walking.{Walking}
use Rattle.riff_chunks.specs.Chunks.{Placed}
use Rattle.riff_chunks.specs.Walk.{is_last, walk_to, begun, left_after, noted, turned}
use Rattle.riff_chunks.proofs.Seen.{also, Plain, still-plain, seen_one, seen_all}
use Rattle.riff_chunks.proofs.Rest.{rest, none_left, next, past_room, at-start}

pub record On (s : Sought) (chunk_of : ℕ → Chunk) (end : ℕ) (w : Walking) : Type 0 where
  pub inside : w.left ≤ end
  pub sees : walk_to s chunk_of end ≡ also s end w.seen (rest s chunk_of end w.left)
  pub plain-format : Plain w.seen.format
  pub plain-samples : Plain w.seen.samples

-- Fewer bytes are left after a step, so that a loop ends.
pub fewer : (s : Sought) (w : Walking) (c : Chunk) → 8 ≤ w.left → (turned s w c).left < w.left
fewer s w c h = by (is_last s c) (ltb (w.left - 8) c.size)
  where
    by : (t u : Bool) → cond t 0 (cond u 0 (w.left - 8 - (c.size + c.size % 2))) < w.left
    by true u = omega arith
    by false true = omega arith
    by false false = omega arith

module _ (s : Sought) (chunk_of : ℕ → Chunk) (placed : Placed chunk_of) (end : ℕ) where
  pub on-begun : On s chunk_of end (begun end)
  on-begun =
      record {
        inside = omega arith;
        sees = ap (also s end (begun end).seen) (at-start s chunk_of placed end);
        plain-format = refl;
        plain-samples = refl;
      }

  pub on-turned : (w : Walking) (c : Chunk) → 8 ≤ w.left → c ≡ chunk_of (end - w.left) → On s chunk_of end w
      → On s chunk_of end (turned s w c)
  on-turned w c h e on =
      record {
        inside = omega (arith, fewer s w c h, on.inside);
        sees = on.sees ∙ rw e (ap (also s end w.seen) (next s chunk_of placed end w.left h on.inside) ∙ step);
        plain-format = still-plain w.seen.format s.format c;
        plain-samples = still-plain w.seen.samples s.samples c;
      }
    where
      d : Chunk
      d = chunk_of (end - w.left)

      step : also s end w.seen (d ∷ rest s chunk_of end (left_after s d (w.left - 8)))
          ≡ also s end (turned s w d).seen (rest s chunk_of end (left_after s d (w.left - 8)))
      step =
          seen_one s end w.seen d _
          ∙ ap (λ (t : Bool). also s end (noted s w.seen d t) (rest s chunk_of end (left_after s d (w.left - 8))))
          (past_room s chunk_of placed end w.left h on.inside)

  pub on-ended : (w : Walking) → w.left < 8 → On s chunk_of end w → w.seen ≡ walk_to s chunk_of end
  on-ended w h on =
      sym (on.sees ∙ ap (also s end w.seen) (none_left s chunk_of placed end w.left h)
      ∙ seen_all s end w.seen on.plain-format on.plain-samples)
