-- The job of the program `serial`: the first 65,536 bytes, as messages, one at a time over 64 zero stamps. Assumes nothing.
use Rattle.std.specs.Prelude.{◌≡◌, ℕ, List, length, take, nat_lt}
use Rattle.stamp_host.specs.Stamps.{fixed_of, values_of, fixed_for, all_zero}
use Rattle.one_at_a_time.specs.Ran.{RanStream}
use Rattle.serial_run.specs.declared.Report.{Report}

-- how many bytes are looked at, and how many stamps there are
abbrev pub max_input : ℕ
max_input = 65536

abbrev pub stamp_count : ℕ
stamp_count = 64

-- a report of these bytes: what was done to the first of them, one message at a time, the stamps that it left, and whether
-- there were more bytes than are looked at
pub record Reports (bytes : List ℕ) (r : Report) : Type 0 where
  pub fixed : fixed_of r.host ≡ fixed_for stamp_count
  pub ran : RanStream (fixed_for stamp_count) (take max_input bytes) r.journal all_zero (values_of r.host)
  pub cut : r.cut ≡ nat_lt max_input (length bytes)
