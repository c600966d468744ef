-- W2. What each test says of a file that fits RIFF and that neither 1 nor 13 refuses. Assumes nothing.
use mathlib.Core.Path.{◌≡◌, refl, sym}
use mathlib.Core.Bool.{Bool, true, false, true≢false, ◌&&◌, ◌||◌}
use Prim.Native.Nat.{ℕ, ◌-◌, ◌%◌, ◌^◌, ◌≤◌}
use native.Mathlib.Omega.{arith}
use borrow.Author.Tests.{eqb-true, leb-true}
use lib.Dec.{eqb, leb}
use Rattle.sample_kind.specs.declared.SampleKind.{SampleKind}
use Rattle.wav_header.specs.Header.{file_length}
use Rattle.wav_header.specs.Refusals.{fits_riff, count_ok}
use Rattle.wav_settings.specs.Settings.{rate_ok, one_or_two, whole_frames}

pub both_hold : (a b : Bool) → a && b ≡ true → (a ≡ true) × (b ≡ true)
both_hold true b h = (refl, h)
both_hold false b h = absurd (true≢false (sym h))

pub record Planned (kind : SampleKind) (channels rate count : ℕ) : Type 0 where
  pub rate-fits : rate_ok rate ≡ true
  pub count_fits : count_ok kind channels count ≡ true
  pub mono-or-stereo : one_or_two channels ≡ true
  pub slow : rate ≤ 768000
  pub some : 1 ≤ channels
  pub few : channels ≤ 2
  pub whole : count % channels ≡ 0
  pub short : file_length kind count - 8 ≤ 2 ^ 32 - 1

between : (channels : ℕ) (t u : Bool) → eqb channels 1 ≡ t → eqb channels 2 ≡ u → t || u ≡ true
    → (1 ≤ channels) × (channels ≤ 2)
between channels true u p q h = let e = eqb-true channels 1 p in (omega arith, omega arith)
between channels false true p q h = let e = eqb-true channels 2 q in (omega arith, omega arith)
between channels false false p q h = absurd (true≢false (sym h))

frames : (channels count : ℕ) → one_or_two channels ≡ true → whole_frames channels count ≡ true → count % channels ≡ 0
frames channels count o h = eqb-true (count % channels) 0 (rw o at h)

pub planned : (kind : SampleKind) (channels rate count : ℕ) → rate_ok rate ≡ true → whole_frames channels count ≡ true
    → fits_riff kind count ≡ true → one_or_two channels ≡ true → Planned kind channels rate count
planned kind channels rate count r w f o =
    let n = between channels (eqb channels 1) (eqb channels 2) refl refl o in
    record {
      rate-fits = r;
      count_fits = rw (w, f);
      mono-or-stereo = o;
      slow = leb-true rate 768000 (both_hold (leb 8000 rate) (leb rate 768000) r).1;
      some = n.0;
      few = n.1;
      whole = frames channels count o w;
      short = leb-true (file_length kind count - 8) (2 ^ 32 - 1) f;
    }
