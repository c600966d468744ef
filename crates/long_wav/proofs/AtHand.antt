-- W10. The walk over the heads, turn by turn: the first head that is not lent is the first missing one of the remaining
-- heads. By the laws of a walk's turns in riff_chunks. Assumes nothing.
use mathlib.Core.Path.{◌≡◌, refl, ap, ◌∙◌}
use mathlib.Core.List.{List, ◌∷◌}
use Prim.Native.Nat.{ℕ, ◌+◌, ◌-◌, ◌≤◌, ◌<◌}
use borrow.Author.Tests.{le-leb, lt-leb}
use lib.ListN.{length}
use Rattle.riff_chunks.specs.declared.Chunk.{Chunk}
use Rattle.riff_chunks.specs.declared.Walking.{Walking}
use Rattle.riff_chunks.specs.Walk.{riff_sought, begun, turned, walked_from}
use Rattle.riff_chunks.proofs.Rest.{rest, none_left, next, at-start}
use Rattle.riff_chunks.proofs.ByTurns.{On, on-begun, on-turned}
use Rattle.long_wav.specs.Reading.{chunk_in, missing}

pub record Reaching (b : List ℕ) (end : ℕ) (w : Walking) : Type 0 where
  pub on : On riff_sought (chunk_in b) end w
  pub asks : missing (length b) (walked_from riff_sought (chunk_in b) end 12)
      ≡ missing (length b) (rest riff_sought (chunk_in b) end w.left)

module _ (b : List ℕ) (end : ℕ) where
  pub from_start : Reaching b end (begun end)
  from_start =
      record {
        on = on-begun riff_sought (chunk_in b) (λ at. refl) end;
        asks = ap (missing (length b)) (at-start riff_sought (chunk_in b) (λ at. refl) end);
      }

  module _ (w : Walking) (r : Reaching b end w) where
    at_head : 8 ≤ w.left
        → missing (length b) (walked_from riff_sought (chunk_in b) end 12)
        ≡ missing (length b)
        (chunk_in b (end - w.left) ∷ rest riff_sought (chunk_in b) end (turned riff_sought w (chunk_in b
        (end - w.left))).left)
    at_head h = r.asks ∙ ap (missing (length b)) (next riff_sought (chunk_in b) (λ at. refl) end w.left h
        r.on.inside)

    pub one_more : (c : Chunk) → 8 ≤ w.left → end - w.left + 8 ≤ length b → c ≡ chunk_in b (end - w.left)
        → Reaching b end (turned riff_sought w c)
    unfolding missing
    one_more c h l e =
        record {
          on = on-turned riff_sought (chunk_in b) (λ at. refl) end w c h e r.on;
          asks = rw e (at_head h ∙ rw (le-leb (end - w.left + 8) (length b) l));
        }

    pub stopped : 8 ≤ w.left → length b < end - w.left + 8
        → end - w.left + 8 ≡ missing (length b) (walked_from riff_sought (chunk_in b) end 12)
    unfolding missing
    stopped h l = rw (at_head h, lt-leb (end - w.left + 8) (length b) l)

    pub ended : w.left < 8 → 0 ≡ missing (length b) (walked_from riff_sought (chunk_in b) end 12)
    unfolding missing
    ended h = rw (r.asks ∙ ap (missing (length b)) (none_left riff_sought (chunk_in b) (λ at. refl) end w.left h))
