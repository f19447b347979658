-- The job of the program `rehearse`: the first 65,536 bytes on a manager of 256 seats and 512 versions over 64 zero stamps. Assumes nothing.
use Rattle.std.specs.Prelude.{◌≡◌, ℕ, ◌<◌, List, take, vec_items}
use Rattle.roll.specs.Calls.{Setting, setting, State, made}
use Rattle.roll.specs.Law.{Idle}
use Rattle.roll.specs.Rehearsal.{rehearsed}
use Rattle.stamp_host.specs.Stamps.{fixed_of, values_of, fixed_for, all_zero}
use Rattle.serial_run.specs.Job.{max_input, stamp_count}
use Rattle.runs.specs.Obeys.{history, Lawful}
use Rattle.rehearse_run.specs.declared.Rehearsal.{Rehearsal}
use Rattle.rehearse_run.specs.Ends.{Ends, Ended}
use Rattle.rehearse_run.specs.Made.{rehearsed_calls}
use Rattle.rehearse_run.specs.Rounds.{rounds, lines_of, rehearsed_state}

-- how many seats and versions there are; the bytes that are looked at and the stamps are as many as those of `serial`
abbrev pub seat_count : ℕ
seat_count = 256

abbrev pub version_count : ℕ
version_count = 512

-- the setting, and the state at the beginning
unfoldable pub stage : Setting ℕ
stage = setting (fixed_for stamp_count) seat_count version_count

unfoldable pub start : State ℕ
start = made stage all_zero

-- a rehearsal of these bytes: its lines are those of the definition, and it leaves the values that the definition leaves; there are enough
-- rounds for it to come to its end; and the law over runs holds of the calls that it made, which leave these values.
-- So where the last line is the end no task is unfinished, and every stamp is the one that the one-at-a-time run of the accepted tasks leaves
pub record Rehearses (bytes : List ℕ) (r : Rehearsal) : Type 0 where
  pub fixed : fixed_of r.host ≡ fixed_for stamp_count
  pub lines : lines_of (vec_items r.lines) ≡ rehearsed stage (take max_input bytes) rounds 0 start
  pub values : values_of r.host ≡ (rehearsed_state stage (take max_input bytes) rounds 0 start).values
  pub ends : Ends (lines_of (vec_items r.lines))
  pub lawful : Lawful stage all_zero (rehearsed_calls stage (take max_input bytes) rounds 0 start)
  pub left : values_of r.host ≡ (history stage all_zero (rehearsed_calls stage (take max_input bytes) rounds 0 start)).state.values
  pub at_rest : Ended (lines_of (vec_items r.lines)) → Idle (history stage all_zero (rehearsed_calls stage (take max_input bytes) rounds 0 start))
  pub agrees : Ended (lines_of (vec_items r.lines)) → (a : ℕ) → a < stamp_count →
      (values_of r.host).at a ≡ (history stage all_zero (rehearsed_calls stage (take max_input bytes) rounds 0 start)).serial a
