-- W4g. As alone: from an opened room on, whatever both desks do, a desk is told what it would be told without a room,
-- given its own events and what it was granted; so two runs with the same own events and grants tell it the same.
-- Assumes nothing.
use mathlib.Core.Path.{◌≡◌, refl, sym, ◌∙◌, ap}
use mathlib.Core.Bool.{true, false}
use mathlib.Core.List.{List, [], ◌∷◌}
use Prim.Native.Nat.{ℕ, zero, suc}
use lib.ListN.{length, replicate}
use Rattle.constants.specs.Numbers.{zero-f}
use Rattle.room_marks.specs.Slots.{some, own_set}
use lib.Ieee.{Float, binary64, fits}
use Rattle.bessel.specs.declared.Mode.{Mode}
use Rattle.quality_variable_delay.specs.declared.QualityVariableDelayF32.{QualityVariableDelayF32}
use Rattle.quality_variable_delay.specs.declared.ProcessedQ.{ProcessedQ}
use Rattle.quality_runs.specs.Runs.{Reader}
use Rattle.room_marks.specs.declared.Desk.{Desk}
use Rattle.room_marks.specs.declared.Desk.TheVariants.{One, Two}
use Rattle.set_room.specs.declared.Asked.{Asked}
use Rattle.set_room.specs.declared.Asked.TheVariants.{Granted, Refused}
use Rattle.set_room.specs.Room.{Room, opened, open_due, asked_of, grant_of, gave_up}
use Rattle.room_marks.specs.Marks.{other_desk}
use Rattle.room_runs.specs.Turns.{asks, gives, Furnished, holds_in}
use Rattle.room_runs.proofs.SameRate.{both}
use Rattle.room_runs.proofs.StaysFurnished.{after-turn, opened-room}
use Rattle.desk_runs.specs.Events.{Call, Event, turn, calls, World, reader_of, with_reader, number, sample}
use Rattle.desk_runs.specs.Events.{answered, called}
use Rattle.desk_runs.specs.Events.{said, after, run, same_desk, actor, keep_if, told, f64_in, f64s}
use Rattle.desk_runs.specs.Alone.{Alone, Own, call, give_up, holding, without, said_to, behind, told_alone}
use Rattle.desk_runs.specs.Alone.{run_alone, own_of, own}
use Rattle.desk_runs.specs.Alone.{heard as listens}
use Rattle.desk_runs.proofs.OneCall.{same-call, same-ring}
use Rattle.desk_runs.proofs.OneTurn.{own-asks, other-asks, same_number, own-gives, other-gives}

-- A desk in a room, and the same desk alone: it holds the same sets and has the same reader.
pub record InStep (d : Desk) (w : World) (a : Alone) : Type 0 where
  pub furnished : Furnished w.room
  pub held : (rate : Float) (mode : Mode) → fits binary64 rate ≡ true
      → holds_in d w.room rate mode ≡ a.held rate mode
  pub reader : reader_of d w ≡ a.reader

-- What one event does: a desk's own tells it the same, and leaves both in step; the other's leaves them in step.
data Step (d : Desk) (w : World) (a : Alone) (e : Event) : Type 0 where
  mine : same_desk d (actor e) ≡ true → said w e ≡ said_to a (own_of w e) → InStep d (after w e) (behind a (own_of w e))
      → Step d w a e
  theirs : same_desk d (actor e) ≡ false → InStep d (after w e) a → Step d w a e

same-reader : {s t : QualityVariableDelayF32} {xs ys : List Float} → s ≡ t → xs ≡ ys
    → ◌≡◌ {A = Reader} (record { state = s; ring = xs }) (record { state = t; ring = ys })
same-reader e f = rw (e, f)

-- One call of the desk's reader, which is the one that it has alone.
heard : (d : Desk) (room : Room) (f : Furnished room) (a : Alone) (c : Call) (r : Reader)
    → ((rate : Float) → fits binary64 rate ≡ true → holds_in d room rate c.mode ≡ a.held rate c.mode)
    → r ≡ a.reader
    → (answered d c room r ≡ (call a c).answer) × (called d c room r ≡ (behind a (listens c)).reader)
heard d room f a c r h e =
    let s = same-call d room f a c h in (
      ap (λ (x : Reader). answered d c room x) e ∙ ap (λ (p : ProcessedQ). p.answer) s,
      ap (λ (x : Reader). called d c room x) e
          ∙ same-reader (ap (λ (p : ProcessedQ). p.state) s) (same-ring d room f a c h),
    )

-- ---- who and which reader
same_self : (d : Desk) → same_desk d d ≡ true
same_self One = refl
same_self Two = refl

same-other : (d : Desk) → same_desk d (other_desk d) ≡ false
same-other One = refl
same-other Two = refl

-- A turn leaves both readers.
reader-kept : (d : Desk) (w : World) (room : Room)
    → reader_of d (record { room = room; one = w.one; two = w.two }) ≡ reader_of d w
reader-kept One w room = refl
reader-kept Two w room = refl

-- A call changes its own reader alone, and not the room.
reader-set : (d : Desk) (r : Reader) (w : World) → reader_of d (with_reader d r w) ≡ r
reader-set One r w = refl
reader-set Two r w = refl

reader-other : (d : Desk) (r : Reader) (w : World) → reader_of d (with_reader (other_desk d) r w) ≡ reader_of d w
reader-other One r w = refl
reader-other Two r w = refl

room-kept : (d : Desk) (r : Reader) (w : World) → (with_reader d r w).room ≡ w.room
room-kept One r w = refl
room-kept Two r w = refl

holding-reader : (g : Asked) (rate : Float) (mode : Mode) (a : Alone) → (holding g rate mode a).reader ≡ a.reader
holding-reader (Granted k) rate mode a = refl
holding-reader (Refused n) rate mode a = refl

without-reader : (v : ℕ) (rate : Float) (mode : Mode) (a : Alone) → (without v rate mode a).reader ≡ a.reader
without-reader zero rate mode a = refl
without-reader (suc v) rate mode a = refl

module _ (d : Desk) (w : World) (a : Alone) (s : InStep d w a) where
  asks-own : (rate : Float) (mode : Mode) → fits binary64 rate ≡ true → Step d w a (turn (asks d rate mode))
  asks-own rate mode f =
      mine (same_self d) refl (record {
        furnished = after-turn w.room (asks d rate mode) s.furnished f;
        held = λ r m g. own-asks w.room s.furnished rate mode f d a r m (s.held r m g);
        reader =
            reader-kept d w (asked_of d rate mode w.room) ∙ s.reader
            ∙ sym (holding-reader (grant_of rate mode w.room) rate mode a);
      })

  asks-other : (rate : Float) (mode : Mode) → fits binary64 rate ≡ true
      → Step d w a (turn (asks (other_desk d) rate mode))
  asks-other rate mode f =
      theirs (same-other d) (record {
        furnished = after-turn w.room (asks (other_desk d) rate mode) s.furnished f;
        held = λ r m g. other-asks w.room s.furnished rate mode f d r m ∙ s.held r m g;
        reader = reader-kept d w (asked_of (other_desk d) rate mode w.room) ∙ s.reader;
      })

  gives-own : (rate : Float) (mode : Mode) → fits binary64 rate ≡ true → Step d w a (turn (gives d rate mode))
  gives-own rate mode f =
      let n = same_number w.room s.furnished rate mode f d a (s.held rate mode f) in
      mine (same_self d) (ap number n) (record {
        furnished = after-turn w.room (gives d rate mode) s.furnished f;
        held = λ r m g.
            own-gives w.room s.furnished rate mode f d a r m g (s.held r m g)
            ∙ ap (λ (v : ℕ). (without v rate mode a).held r m) n;
        reader =
            reader-kept d w (gave_up d rate mode w.room) ∙ s.reader
            ∙ sym (without-reader (give_up a rate mode) rate mode a);
      })

  gives_other : (rate : Float) (mode : Mode) → fits binary64 rate ≡ true
      → Step d w a (turn (gives (other_desk d) rate mode))
  gives_other rate mode f =
      theirs (same-other d) (record {
        furnished = after-turn w.room (gives (other_desk d) rate mode) s.furnished f;
        held = λ r m g. other-gives w.room s.furnished rate mode f (other_desk d) d refl r m ∙ s.held r m g;
        reader = reader-kept d w (gave_up (other_desk d) rate mode w.room) ∙ s.reader;
      })

  calls-own : (c : Call) → Step d w a (calls d c)
  calls-own c =
      let h = heard d w.room s.furnished a c (reader_of d w) (λ r g. s.held r c.mode g) s.reader in
      let after-it = called d c w.room (reader_of d w) in
      mine (same_self d) (ap sample h.0) (record {
        furnished = rw (room-kept d after-it w) s.furnished;
        held = λ r m g. ap (λ (room : Room). holds_in d room r m) (room-kept d after-it w) ∙ s.held r m g;
        reader = reader-set d after-it w ∙ h.1;
      })

  calls-other : (c : Call) → Step d w a (calls (other_desk d) c)
  calls-other c =
      let after-it = called (other_desk d) c w.room (reader_of (other_desk d) w) in
      theirs (same-other d) (record {
        furnished = rw (room-kept (other_desk d) after-it w) s.furnished;
        held = λ r m g. ap (λ (room : Room). holds_in d room r m) (room-kept (other_desk d) after-it w) ∙ s.held r m g;
        reader = reader-other d after-it w ∙ s.reader;
      })

step : (d : Desk) (w : World) (a : Alone) (e : Event) → InStep d w a → f64_in e ≡ true → Step d w a e
step One w a (turn (asks One rate mode)) s f = asks-own One w a s rate mode f
step One w a (turn (asks Two rate mode)) s f = asks-other One w a s rate mode f
step Two w a (turn (asks One rate mode)) s f = asks-other Two w a s rate mode f
step Two w a (turn (asks Two rate mode)) s f = asks-own Two w a s rate mode f
step One w a (turn (gives One rate mode)) s f = gives-own One w a s rate mode f
step One w a (turn (gives Two rate mode)) s f = gives_other One w a s rate mode f
step Two w a (turn (gives One rate mode)) s f = gives_other Two w a s rate mode f
step Two w a (turn (gives Two rate mode)) s f = gives-own Two w a s rate mode f
step One w a (calls One c) s f = calls-own One w a s c
step One w a (calls Two c) s f = calls-other One w a s c
step Two w a (calls One c) s f = calls-other Two w a s c
step Two w a (calls Two c) s f = calls-own Two w a s c

-- ---- any run
pub as-alone : (d : Desk) (w : World) (a : Alone) (es : List Event) → InStep d w a → f64s es ≡ true
    → (told d w es ≡ told_alone a (own d w es)) × (reader_of d (run w es) ≡ (run_alone a (own d w es)).reader)
unfolding told own run told_alone run_alone
as-alone d w a [] s f = (refl, s.reader)
as-alone d w a (e ∷ es) s f =
    let g = both (f64_in e) (f64s es) f in
    by (step d w a e s g.0) (λ v b i. as-alone d v b es i g.1)
  where
    by : Step d w a e
        → ((v : World) (b : Alone) → InStep d v b
        → (told d v es ≡ told_alone b (own d v es)) × (reader_of d (run v es) ≡ (run_alone b (own d v es)).reader))
        → (keep_if (same_desk d (actor e)) (said w e) (told d (after w e) es)
        ≡ told_alone a (keep_if (same_desk d (actor e)) (own_of w e) (own d (after w e) es)))
        × (reader_of d (run (after w e) es)
        ≡ (run_alone a (keep_if (same_desk d (actor e)) (own_of w e) (own d (after w e) es))).reader)
    by (mine i t s) f = let h = f (after w e) (behind a (own_of w e)) s in rw (i, t, h.0) (refl, h.1)
    by (theirs i s) f = rw i (f (after w e) a s)

-- Two runs, in any two rooms and whatever the other desk does: the same own events and grants, and the same reader to
-- begin with, tell a desk the same and leave it the same reader.
pub two_runs : (d : Desk) (w v : World) (a : Alone) (es fs : List Event) → InStep d w a → InStep d v a
    → f64s es ≡ true → f64s fs ≡ true → own d w es ≡ own d v fs
    → (told d w es ≡ told d v fs) × (reader_of d (run w es) ≡ reader_of d (run v fs))
two_runs d w v a es fs s t f g e =
    let h = as-alone d w a es s f in
    let k = as-alone d v a fs t g in
    (h.0 ∙ ap (told_alone a) e ∙ sym k.0, h.1 ∙ ap (λ (os : List Own). (run_alone a os).reader) e ∙ sym k.1)

-- ---- the beginning: in an opened room a desk holds nothing
abbrev pub nothing : Reader → Alone
nothing r = record { held = λ rate mode. false; reader = r }

none-held : (d : Desk) (rate : Float) (mode : Mode) (i j : ℕ)
    → some (own_set d rate mode) (replicate i zero-f) (replicate {A = ℕ} j 0) ≡ false
unfolding some
none-held d rate mode zero j = refl
none-held d rate mode (suc i) zero = refl
none-held One rate mode (suc i) (suc j) = none-held One rate mode i j
none-held Two rate mode (suc i) (suc j) = none-held Two rate mode i j

pub begins : (d : Desk) (r : Room) (one two : Reader) → open_due r ≡ 0
    → let w : World = record { room = opened r; one = one; two = two } in InStep d w (nothing (reader_of d w))
unfolding opened
begins d r one two h = record {
  furnished = opened-room r h;
  held = λ rate mode f. rw h (none-held d rate mode (length r.rates) (length r.marks));
  reader = refl;
}
