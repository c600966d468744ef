-- The values that `read`, `chunks_told` and `finish` have are those that the definitions name, and an answer is
-- determined by its number. Assumes nothing.
use mathlib.Core.Path.{◌≡◌, refl, ap, ◌∙◌}
use mathlib.Core.Bool.{Bool, true, false, not, ◌&&◌}
use mathlib.Core.List.{List, [], ◌∷◌}
use Prim.Native.Nat.{ℕ, zero, suc, ◌+◌}
use native.Mathlib.Omega.{arith}
use borrow.Author.Tests.{le-leb}
use lib.Dec.{leb, ltb}
use lib.ListN.{length}
use Rattle.refusal_order.specs.Order.{◌unless◌, first_of}
use Rattle.high_first.specs.High.{big_number}
use Rattle.riff_chunks.specs.declared.Walked.{Walked}
use Rattle.riff_chunks.specs.Walk.{end_in, walked_from}
use Rattle.form_chunks.specs.Form.{form_walk, form_sought, form_chunk, ssnd_id}
use Rattle.form_chunks.proofs.Inside.{spot-inside}
use Rattle.sample_kind.specs.declared.SampleKind.{SampleKind}
use Rattle.aiff.specs.declared.Found.TheVariants as found
use Rattle.aiff.specs.declared.Sound.{Sound}
use Rattle.aiff.specs.declared.Told.{Told}
use Rattle.aiff.specs.Aiff.{form_size, walk_in, head_of, comm_of, ssnd_of, channels, frames, bits, rate, offset}
use Rattle.aiff.specs.Aiff.{length_of, is_aiff, inside, within, has_parts, listed, kind_of, tests_of, sound_of}
use Rattle.aiff.specs.Aiff.{sound_in}
use Rattle.aiff.specs.Aiff.{answered, found_of, found_in, told_in}

pub refused : (k : ℕ) (f : Sound) → (k ≡ 0 → ⊥) → found.Refused k ≡ answered k f
refused zero f h = absurd (h refl)
refused (suc k) f h = refl

pub taken : (k : ℕ) (f : Sound) → k ≡ 0 → found.Sound f ≡ answered k f
taken k f h = rw h

-- The tests of `first`, in their order.
pub in_order : (aiff held : Bool) (end : ℕ) (c s : List ℕ) (w : Walked) {fits t21 t13 : Bool} {skip len pace r : ℕ}
    → fits ≡ held && inside end w → skip ≡ offset s → len ≡ length_of c → pace ≡ rate c → t21 ≡ has_parts w skip
    → t13 ≡ listed (channels c) (bits c)
    → r ≡ first_of (20 unless aiff ∷ 10 unless fits ∷ 21 unless t21 ∷ 13 unless t13
    ∷ 21 unless leb (8 + skip + len) w.samples.size ∷ 22 unless ltb 0 pace ∷ [])
    → r ≡ first_of (tests_of aiff (held && inside end w) c s w)
in_order aiff held end c s w e10 es el ep e21 e13 e = e ∙ rw (e10, e21, e13, es, el, ep)

pub listed-is : (c : List ℕ) {n m : ℕ} {t : Bool} → t ≡ listed n m → n ≡ channels c → m ≡ bits c
    → t ≡ listed (channels c) (bits c)
listed-is c e p q = e ∙ rw (p, q)

pub sound-is : (c s : List ℕ) (w : Walked) {k : SampleKind} {m n pace skip len : ℕ} → k ≡ kind_of m → m ≡ bits c
    → n ≡ channels c → pace ≡ rate c → skip ≡ offset s → len ≡ length_of c
    → ◌≡◌ {A = Sound}
    (record { kind = k; channels = n; rate = pace; start = w.samples.body + 8 + skip; length = len })
    (sound_of c s w)
sound-is c s w e em en ep es el = rw (e, em, en, ep, es, el)

-- In a walk of a file, if no chunk runs past the end the `SSND` does not.
said-twice : (h o t : Bool) → (o ≡ false → t ≡ true) → h && (not o && t) ≡ h && not o
said-twice false o t k = refl
said-twice true true t k = refl
said-twice true false t k = k refl

pub inside_is : (b : List ℕ) → leb (8 + form_size b) (length b) && inside (8 + form_size b) (walk_in b) ≡ within b
inside_is b = said-twice (leb end (length b)) (walk_in b).overruns _ ends
  where
    end : ℕ
    end = 8 + form_size b

    ends : (walk_in b).overruns ≡ false → leb ((walk_in b).samples.body + (walk_in b).samples.size) end ≡ true
    ends o =
        let l = spot-inside (end_in b end) ssnd_id (walked_from form_sought (form_chunk b) (end_in b end) 12) o in
        le-leb _ end (omega arith)

-- The walk and the first bytes of both chunks.
pub record InHand (b : List ℕ) (w : Walked) (c s : List ℕ) : Type 0 where
  pub walk_is : w ≡ walk_in b
  pub comm-is : c ≡ comm_of b
  pub ssnd-is : s ≡ ssnd_of b

pub in-hand : (b : List ℕ) (size : ℕ) (w : Walked) (c s : List ℕ) → size ≡ form_size b → w ≡ form_walk b (8 + size)
    → c ≡ head_of 18 b w.format.body w.format.size → s ≡ head_of 8 b w.samples.body w.samples.size
    → InHand b w c s
in-hand b size w c s e k l m =
    let walk = k ∙ ap (λ (n : ℕ). form_walk b (8 + n)) e in
    record {
      walk_is = walk;
      comm-is = l ∙ ap (λ (v : Walked). head_of 18 b v.format.body v.format.size) walk;
      ssnd-is = m ∙ ap (λ (v : Walked). head_of 8 b v.samples.body v.samples.size) walk;
    }

module _ (b : List ℕ) (w : Walked) (c s : List ℕ) (h : InHand b w c s) where
  pub found-is : (aiff : Bool) (size : ℕ) → aiff ≡ is_aiff b → size ≡ form_size b
      → found_of aiff (leb (8 + size) (length b)) (8 + size) c s w ≡ found_in b
  found-is aiff size e k =
      rw (e, k, h.comm-is, h.ssnd-is)
      (ap
      (λ (v : Walked). found_of (is_aiff b) (leb (8 + form_size b) (length b)) (8 + form_size b) (comm_of b) (ssnd_of b)
      v)
      h.walk_is
      ∙ ap (λ (t : Bool). answered (first_of (tests_of (is_aiff b) t (comm_of b) (ssnd_of b) (walk_in b))) (sound_in b))
      (inside_is b))

  pub told_is : ◌≡◌ {A = Told}
      (record {
        comm = w.format.size;
        channels = channels c;
        frames = frames c;
        bits = bits c;
        exponent = big_number 2 c 8;
        digits = big_number 8 c 10;
        ssnd = w.samples.size;
        offset = offset s;
      })
      (told_in b)
  told_is =
      rw (h.comm-is, h.ssnd-is)
      (ap
      (λ (v : Walked).
      record {
        comm = v.format.size;
        channels = channels (comm_of b);
        frames = frames (comm_of b);
        bits = bits (comm_of b);
        exponent = big_number 2 (comm_of b) 8;
        digits = big_number 8 (comm_of b) 10;
        ssnd = v.samples.size;
        offset = offset (ssnd_of b);
      })
      h.walk_is)
