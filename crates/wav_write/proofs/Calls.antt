-- W2a, W2f. What a write does, from what its calls ensure, for samples of either format: it is refused early, refused
-- by the store, or writes the whole file. Assumes nothing.
use mathlib.Core.Path.{◌≡◌, refl, sym, ap, ◌∙◌}
use mathlib.Core.List.{List, ◌++◌}
use Prim.Native.Nat.{ℕ, ◌+◌, ◌-◌, ◌*◌, ◌^◌, ◌≤◌, ◌<◌}
use native.Mathlib.Omega.{arith}
use lib.ListN.{length, take, drop}
use lib.Ieee.{Float}
use Rattle.sample_kind.specs.declared.SampleKind.{SampleKind}
use Rattle.sample_kind.specs.Kinds.{width_of}
use Rattle.wav_store.specs.Storing.{bytes_of, stored}
use Rattle.wav_store.specs.Storing.{verdict as store_verdict}
use Rattle.wav_store.proofs.Placed.{length-bytes}
use Rattle.wav_header.specs.Header.{size_of}
use Rattle.long_header.specs.declared.Form.{Form}
use Rattle.long_header.specs.LongHeader.{header_length_for, file_length_for}
use Rattle.long_header.proofs.Bounds.{longest-header}
use Rattle.wav_write.proofs.Planned.{small}
use Rattle.wav_header.proofs.Taken.{kept, given}
use Rattle.wav_write.specs.declared.Written.TheVariants as answers
use Rattle.wav_write.specs.Writing.{verdict, answer_of, written}
use Rattle.wav_write.specs.Placing.{early_verdict, Room, headed, padded}
use Rattle.wav_write.proofs.Around.{same-part}
use Rattle.wav_write.proofs.Verdicts.{roomy, refused-early, refused-late, refused, accepted}
use Rattle.wav_write.proofs.Laid.{part-long, length-stored, unstored, in_place, laid}

module _ (form : Form) (kind : SampleKind) (channels rate : ℕ) (samples : List Float) (xs : List ℕ) (r : ℕ)
    (early : r ≡ early_verdict kind channels rate (length samples) (length xs)) where
  pub left-early : (r ≡ 0 → ⊥)
      → (answers.Refused r ≡ answer_of kind channels rate samples (length xs))
      × (xs ≡ written form kind channels rate samples xs)
  left-early h =
      let v = refused-early kind channels rate samples (length xs) r early h in
      (refused _ _ _ v h, kept _ _ _ _ v h)

  -- Let the header have a bytes, and each sample behind it w bytes.
  module _ (z : r ≡ 0) (a w : ℕ) (h : a ≡ header_length_for kind (length samples)) (d : w ≡ width_of kind) where
    pub room : Room kind channels rate (length samples) (length xs)
    room = roomy kind channels rate (length samples) (length xs) (sym early ∙ z)

    size_is : a + length samples * w - a ≡ size_of kind (length samples)
    size_is = rw d (omega arith)

    pub end_fits : a + length samples * w ≤ length xs
    end_fits = rw (h, d) (omega (arith, room.holds))

    pub end-small : a + length samples * w < 2 ^ 41
    end-small =
        let q = small kind channels rate (length samples) room.planned in
        rw (h, d) (omega (arith, q, longest-header kind (length samples)))

    -- Let u be the refusal of the store, and ys the part that it hands back.
    module _ (u : ℕ) (ys : List ℕ)
        (s : u ≡ store_verdict kind samples (length (take (a + length samples * w - a) (drop a xs))))
        (p : ys ≡ stored kind samples (take (a + length samples * w - a) (drop a xs))) where
      abbrev pub after : List ℕ
      after = take a xs ++ (ys ++ drop (a + length samples * w - a) (drop a xs))

      due : u ≡ verdict kind channels rate samples (length xs)
      due =
          refused-late kind channels rate samples (length xs) r early z _ u
          (part-long xs a (a + length samples * w - a) (omega (arith, end_fits)) ∙ size_is) s

      pub left-late : (u ≡ 0 → ⊥)
          → (answers.Refused u ≡ answer_of kind channels rate samples (length xs))
          × (after ≡ written form kind channels rate samples xs)
      left-late h = (
        refused _ _ _ due h,
        same-part xs ys a (a + length samples * w - a) (p ∙ unstored u _ _ _ s h) ∙ kept _ _ _ _ due h,
      )

      module _ (t : u ≡ 0) where
        bytes : ys ≡ bytes_of kind samples
        bytes = p ∙ in_place u _ _ _ s t

        pub room_after : Room kind channels rate (length samples) (length after)
        room_after =
            let l = ap length bytes ∙ length-bytes kind samples ∙ sym size_is in
            rw (length-stored xs ys a (a + length samples * w - a) l (omega (arith, end_fits))) room

        pub all-written : (m : ℕ) (out : List ℕ) → m ≡ file_length_for kind (length samples)
            → out ≡ padded kind (length samples) (headed form kind channels rate (length samples) after)
            → (answers.Length m ≡ answer_of kind channels rate samples (length xs))
            × (out ≡ written form kind channels rate samples xs)
        all-written m out e o =
            let v = sym due ∙ t in (
              accepted _ _ _ v e,
              o ∙ laid form kind channels rate samples xs ys a _ h size_is bytes room.holds ∙ given _ _ _ _ refl v,
            )
