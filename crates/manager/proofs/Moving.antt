-- A seat that has a task moves from one standing to another, with the same task. Assumes nothing.
--   moved_roll      its entry on the roll is changed
--   moved_sound     the fields still agree with one another
use Rattle.std.proofs.Common.{◌≡◌, ℕ, ◌<◌, Bool, false, not, ◌&&◌, ltb, sym, refl, ap, ◌∙◌, subst}
use Rattle.task.specs.declared.tasks.Task.{Task}
use Rattle.task.specs.Task.{accesses_of}
use Rattle.roll.specs.Roll.{Roll, stand, change}
use Rattle.roll.specs.Tables.{tally}
use Rattle.ring.specs.declared.Ring.{Ring}
use Rattle.ring.specs.Model.{contents_of}
use Rattle.seat.specs.declared.seats.Seat.{Seat}
use Rattle.seat.specs.Phases.{standing_of}
use Rattle.claims.specs.Queues.{bares}
use Rattle.tracker.specs.Tracked.{Tracked}
use Rattle.manager.specs.declared.inner.Inner.{Inner}
use Rattle.manager.specs.Lines.{occurrences}
use Rattle.manager.specs.Model.{seat_at, entry_of, roll_of}
use Rattle.manager.specs.Sound.{Sound, is_free, is_waiting, free_at, waiting_at, ready_at}
use Rattle.manager.proofs.Seats.{seat_listed, seat_low, roll_changed, bares_same}
use Rattle.manager.proofs.Records.{with_record, record_set, record_other, each_record}

module _ (i : Inner) (sound : Sound i) (line : Ring ℕ) (s : ℕ) (r : Seat) (was : free_at i s ≡ false) (task : r.task ≡ (seat_at i s).task) where
  low : s < 256
  low = seat_low i sound.seated s was

  -- the entry on the roll differs in its standing
  moved_entry : entry_of (seat_at (with_record i line s r) s) s ≡ stand (standing_of (accesses_of r.task) r.standing) (entry_of (seat_at i s) s)
  moved_entry =
      ap (λ (x : Seat). entry_of x s) (record_set i line s r sound.seated.full low)
      ∙ ap (λ (t : Task). record { name = t.name; job = record { seat = s; kind = t.kind; accesses = accesses_of t }; standing = standing_of (accesses_of r.task) r.standing }) task

  -- the roll after it
  pub moved_roll : roll_of (with_record i line s r) ≡ change s (standing_of (accesses_of r.task) r.standing) (roll_of i)
  moved_roll = roll_changed i (with_record i line s r) s _ refl (seat_listed i sound.seated s was) (record_other i line s r sound.seated.full low) moved_entry

  -- has the same seats and accesses
  moved_bares : bares (roll_of (with_record i line s r)) ≡ bares (roll_of i)
  moved_bares = bares_same i (with_record i line s r) s _ refl (seat_listed i sound.seated s was) (record_other i line s r sound.seated.full low) moved_entry

  -- where the task waits as before and the ready line has the ready seats, the fields agree with one another
  pub moved_sound : is_free r.standing ≡ false → is_waiting r.standing ≡ waiting_at i s →
      ((t : ℕ) → occurrences t (contents_of line) ≡ tally (ready_at (with_record i line s r) t)) → Sound (with_record i line s r)
  moved_sound now waits lined =
      let i' = with_record i line s r in
      let full = sound.seated.full in
      let free_same : (t : ℕ) → free_at i' t ≡ free_at i t = each_record i line s r full low (λ (x : Seat). is_free x.standing) (now ∙ sym was) in
      let waits-same : (t : ℕ) → waiting_at i' t ≡ waiting_at i t = each_record i line s r full low (λ (x : Seat). is_waiting x.standing) waits in
      record {
        seated = record {
          full = full;
          few_seats = sound.seated.few_seats;
          few_versions = sound.seated.few_versions;
          listed_seats = λ t. sound.seated.listed_seats t ∙ ap not (sym (free_same t));
          within = λ t h. sound.seated.within t (sym (free_same t) ∙ h);
          freed = λ t. sound.seated.freed t ∙ ap (λ (b : Bool). tally (ltb t i.seats && b)) (sym (free_same t));
          lined = lined;
          tracked = subst (λ (v : Roll). Tracked i.tracker v) (sym moved_bares) sound.seated.tracked;
        };
        waits = λ t h. waits-same t ∙ sound.waits t (sym (free_same t) ∙ h);
      }
