-- W10b. If samples are found the bytes before them decide: another file of the same length that begins with the same
-- bytes is answered alike, whatever its samples are and whatever follows. Assumes nothing.
use mathlib.Core.Path.{◌≡◌, refl, sym, ap, ◌∙◌}
use mathlib.Core.Bool.{Bool, true, false, not, cond, ◌&&◌}
use mathlib.Core.List.{List}
use Prim.Native.Nat.{ℕ, ◌+◌, ◌*◌, ◌≤◌}
use native.Mathlib.Omega.{arith}
use borrow.Author.Tests.{leb-true, eqb-true, not-true}
use lib.Dec.{eqb, leb}
use lib.ListN.{length, take, length-take}
use lib.Seq.{take-take}
use Rattle.word_bytes.specs.Bytes.{bytes_value}
use Rattle.refusal_order.specs.Order.{first_of, test_of, line_of}
use Rattle.refusal_order.proofs.First.{none}
use Rattle.riff_chunks.specs.declared.Chunk.{Chunk}
use Rattle.riff_chunks.specs.declared.Spot.{Spot}
use Rattle.riff_chunks.specs.Chunks.{after, first}
use Rattle.riff_chunks.specs.Walk.{riff_sought, data_id, walked_from}
use Rattle.riff_chunks.proofs.Agree.{Alike, same-up-to}
use Rattle.riff_chunks.proofs.Found.{fits, behind}
use Rattle.riff_chunks.proofs.Walks.{walked_one}
use Rattle.wav.specs.declared.Found.TheVariants as found
use Rattle.wav.specs.declared.Wave.{Wave}
use Rattle.wav.proofs.Alike.{same-part}
use Rattle.wav.proofs.Passed.{both_hold}
use Rattle.wav.proofs.Promised.{wave-of}
use Rattle.wav_format.specs.Format.{number}
use Rattle.true_sizes.specs.Sizes.{is_long, full, ds64_id, ds64_size, entry_count, true_size}
use Rattle.true_sizes.proofs.Same.{same-long, same_count}
use Rattle.wav_opening.specs.Opening.{has_letters, has_ds64, true_riff, end_of, riff_held, opening_needs, opening_tests}
use Rattle.long_wav.specs.Reading.{chunk_in, walk_in, missing, needs_of, tests, verdict, wave_in, header_by}
use Rattle.long_wav.proofs.Verdicts.{asked-heads}
use Rattle.long_laws.proofs.Openings.{Opens, opens, fixed_of, and-false, met, unmade, met-12, met-20, met-48}
use Rattle.long_laws.proofs.Missing.{up-to-samples, found-at-hand}
use Rattle.long_laws.proofs.Longer.{opening-enough, longer-same}

-- A `ds64` keeps its 32-bit size.
own-size : (b : List ℕ) → true_size b ds64_id (ds64_size b) ≡ ds64_size b
own-size b = by (is_long b) (eqb (ds64_size b) full) refl
  where
    by : (l t : Bool) → eqb (ds64_size b) full ≡ t → cond (l && t) full (ds64_size b) ≡ ds64_size b
    by false t e = refl
    by true false e = refl
    by true true e = sym (eqb-true (ds64_size b) full e)

-- The samples of an RF64 or BW64 stand behind its table.
module _ (b : List ℕ) (size : ℕ) (d : has_ds64 b size ≡ true) (found : (walk_in b size).samples.found ≡ true)
    (room : 12 + 8 ≤ end_of b size) where
  table_before : 48 + 12 * entry_count b ≤ (walk_in b size).samples.body
  unfolding first
  table_before = by
    where
      end : ℕ
      end = end_of b size

      c : Chunk
      c = chunk_in b 12

      p : (eqb (number 4 b 12) ds64_id ≡ true) × (leb 28 (ds64_size b) && leb (20 + ds64_size b) size ≡ true)
      p = both_hold (eqb (number 4 b 12) ds64_id) (leb 28 (ds64_size b) && leb (20 + ds64_size b) size) d

      name : number 4 b 12 ≡ ds64_id
      name = eqb-true (number 4 b 12) ds64_id p.0

      own : c.size ≡ ds64_size b
      own = rw name (own-size b)

      spot : first data_id (walked_from riff_sought (chunk_in b) end 12)
          ≡ first data_id (walked_from riff_sought (chunk_in b) end (after c))
      spot = ap (first data_id) (walked_one riff_sought (chunk_in b) (λ at. refl) end 12 room) ∙ rw name

      by : 48 + 12 * entry_count b ≤ (walk_in b size).samples.body
      by =
          let there = ap (λ (s : Spot). s.found) (sym spot) ∙ found in
          let place = ap (λ (s : Spot). s.body) spot in
          let reached = behind riff_sought (chunk_in b) (λ at. refl) end data_id end (leb (after c + 8) end)
          (after c) there in
          let o = own in
          let least = leb-true 28 (ds64_size b) (both_hold (leb 28 (ds64_size b)) _ p.1).0 in
          omega arith

-- ---- a file in which samples are found: the bytes before them are enough
module _ (tag_of : List ℕ → ℕ → ℕ) (b : List ℕ) (size : ℕ) (z : verdict tag_of b size ≡ 0) where
  test : (k : ℕ) → test_of (line_of (tests tag_of b size) k) ≡ true
  test = (none (tests tag_of b size) refl).0 z

  abbrev start : ℕ
  start = (walk_in b size).samples.body

  abbrev prefix : List ℕ
  prefix = take start b

  passes : first_of (opening_tests b size) ≡ 0
  passes =
      rw (test 2, test 3, test 4, (both_hold (riff_held b size) (not (walk_in b size).overruns) (test 5)).0)

  enough : needs_of b size ≡ 0
  enough = eqb-true (needs_of b size) 0 (test 1)

  at-hand : missing (length b) (walked_from riff_sought (chunk_in b) (end_of b size) 12) ≡ 0
  at-hand = sym (asked-heads b size (opening-enough b size enough) passes) ∙ enough

  reached : start ≤ length b
  reached = found-at-hand (length b) data_id (walked_from riff_sought (chunk_in b) (end_of b size) 12) at-hand (test 7)

  behind-12 : 20 ≤ start
  behind-12 =
      behind riff_sought (chunk_in b) (λ at. refl) (end_of b size) data_id (end_of b size) (leb (12 + 8)
      (end_of b size)) 12 (test 7)

  room : 12 + 8 ≤ end_of b size
  room =
      let over = not-true _ (both_hold (riff_held b size) (not (walk_in b size).overruns) (test 5)).1 in
      let inside = fits (end_of b size) data_id (walked_from riff_sought (chunk_in b) (end_of b size) 12) over
      (test 7) in
      omega (arith, behind-12, inside)

  long-prefix : length prefix ≡ start
  long-prefix = let r = reached in simp length-take (omega arith)

  numbers : (k at : ℕ) → at + k ≤ start → number k prefix at ≡ number k b at
  numbers k at h = ap bytes_value (same-part start prefix b (take-take start start b (omega arith)) at k h)

  opening : opening_needs prefix size ≡ 0
  opening = by (is_long b) refl
    where
      by : (t : Bool) → is_long b ≡ t → opening_needs prefix size ≡ 0
      by false l =
          let m : is_long prefix ≡ false = same-long prefix b start numbers (omega (arith, behind-12)) ∙ l in
          let made : has_letters prefix && (is_long prefix && leb 20 size) ≡ false =
          ap (λ (t : Bool). has_letters prefix && (t && leb 20 size)) m ∙ and-false (has_letters prefix) in
          met-12 prefix size (omega (arith, behind-12, long-prefix))
          (unmade (length prefix) (has_letters prefix && (is_long prefix && leb 20 size)) 20 (fixed_of prefix size)
          made)
      by true l =
          let d : has_ds64 b size ≡ true = sym (rw l) ∙ test 3 in
          let table = table_before b size d (test 7) room in
          let count = same_count prefix b start numbers (omega (arith, table)) in
          met-12 prefix size (omega (arith, behind-12, long-prefix))
          (met-20 prefix size (omega (arith, behind-12, long-prefix))
          (met-48 prefix size (omega (arith, table, long-prefix))
          (met (length prefix) (leb 4 (true_riff prefix size)) (48 + 12 * entry_count prefix) 0
          (omega (arith, table, count, long-prefix)) refl)))

  opened : Opens prefix b size
  opened =
      opens prefix b size (omega (arith, long-prefix, reached)) (λ k at h. numbers k at (omega
      (arith, long-prefix))) opening

  prefix-enough : needs_of prefix size ≡ 0
  prefix-enough =
      asked-heads prefix size opening y
      ∙ ap (λ (e : ℕ). missing (length prefix) (walked_from riff_sought (chunk_in prefix) e 12)) (opened.ends y)
      ∙ ap (missing (length prefix)) (sym chunks)
      ∙ up-to-samples riff_sought (chunk_in b) (λ at. refl) (end_of b size) (length prefix) refl 12 (test 7)
      (omega (arith, long-prefix))
    where
      y : first_of (opening_tests prefix size) ≡ 0
      y = opened.due ∙ passes

      alike : Alike (chunk_in b) (chunk_in prefix) start
      alike at h =
          sym (rw (
            opened.sizes y (number 4 prefix at) (number 4 prefix (at + 4)),
            numbers 4 at
                (omega arith),
            numbers 4 (at + 4) (omega arith),
          ))

      chunks : walked_from riff_sought (chunk_in b) (end_of b size) 12
          ≡ walked_from riff_sought (chunk_in prefix) (end_of b size) 12
      chunks =
          same-up-to (chunk_in b) (chunk_in prefix) (end_of b size) riff_sought refl (λ at. refl) start alike 12
          (test 7)
          (omega arith)

  decides : (c : List ℕ) → start ≤ length c → length c ≤ size → prefix ≡ take start c
      → header_by tag_of c size ≡ header_by tag_of prefix size
  decides c h inside e =
      longer-same tag_of prefix c size (omega (arith, long-prefix)) inside
      (ap (λ (n : ℕ). take n prefix) long-prefix ∙ take-take start start b (omega arith) ∙ e
      ∙ ap (λ (n : ℕ). take n c) (sym long-prefix))
      prefix-enough

-- W10b. If samples are found the bytes before them decide.
pub header-decides : (tag_of : List ℕ → ℕ → ℕ) (b c : List ℕ) (size : ℕ) (w : Wave)
    → header_by tag_of b size ≡ found.Wave w
    → take w.start b ≡ take w.start c → w.start ≤ length c → length c ≤ size
    → header_by tag_of c size ≡ found.Wave w
header-decides tag_of b c size w e same h inside =
    let o = wave-of (verdict tag_of b size) (wave_in tag_of b size) w e in
    let at : (walk_in b size).samples.body ≡ w.start = ap (λ (v : Wave). v.start) o.1 in
    let n = (walk_in b size).samples.body in
    let all = leb-true (length b) size (test tag_of b size o.0 0) in
    decides tag_of b size o.0 c (omega arith) inside
    (ap (λ (k : ℕ). take k b) at ∙ same ∙ ap (λ (k : ℕ). take k c) (sym at))
    ∙ sym (decides tag_of b size o.0 b (reached tag_of b size o.0) all refl)
    ∙ e

-- W10b. So those bytes alone are answered as the file is, whatever follows.
pub prefix-decides : (tag_of : List ℕ → ℕ → ℕ) (b : List ℕ) (size : ℕ) (w : Wave) → header_by tag_of b size
    ≡ found.Wave w
    → header_by tag_of (take w.start b) size ≡ found.Wave w
prefix-decides tag_of b size w e =
    let o = wave-of (verdict tag_of b size) (wave_in tag_of b size) w e in
    let at : (walk_in b size).samples.body ≡ w.start = ap (λ (v : Wave). v.start) o.1 in
    let all = leb-true (length b) size (test tag_of b size o.0 0) in
    ap (λ (k : ℕ). header_by tag_of (take k b) size) (sym at)
    ∙ sym (decides tag_of b size o.0 b (reached tag_of b size o.0) all refl)
    ∙ e
