use Rattle.std.proofs.Common.{ℕ, take, refl, ◌∙◌, subst}
use Rattle.host.specs.Meaning.{Values}
use Rattle.one_at_a_time.specs.Ran.{RanStream}
use Rattle.stamp_host.specs.Stamps.{values_of, fixed_for, all_zero}
use Rattle.serial_run.proofs.run.Goals as goal

pub returns : goal.returns
returns c =
    let bytes = c.args.bytes.now in
    let made = c.in_ok-host.ensures in
    let ran = c.run_stream-journal.ensures in
    let journal = c.run_stream-journal.result in
    let after = values_of c.run_stream-journal.new.host in
    let host = c.in_ok-host.host in
    let over : RanStream (fixed_for 64) (take 65536 bytes) journal (values_of host) after =
    rw (made.fixed, c.looked_at.ensures) at ran.ran in
    let from : RanStream (fixed_for 64) (take 65536 bytes) journal all_zero after =
    subst (λ (w : Values ℕ). RanStream (fixed_for 64) (take 65536 bytes) journal w after) made.values over in
    record {
      fixed = ran.fixed ∙ made.fixed;
      ran = from;
      cut = refl;
    }
