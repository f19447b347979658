use Rattle.std.proofs.Common.{◌≡◌, ℕ, take, vec_items, sym, ap, ◌∙◌, subst}
use Rattle.host.specs.Meaning.{Values}
use Rattle.roll.specs.Calls.{Setting, State}
use Rattle.roll.specs.Rehearsal.{rehearsed}
use Rattle.stamp_host.specs.Stamps.{fixed_of, values_of, all_zero}
use Rattle.manager.specs.Answers.{state_with, setting_with}
use Rattle.rehearse_run.specs.Rounds.{rounds, lines_of, rehearsed_state}
use Rattle.rehearse_run.specs.Session.{state_at, lines_at}
use Rattle.runs.specs.Obeys.{Lawful}
use Rattle.rehearse_run.specs.Ends.{Ends, Ended}
use Rattle.rehearse_run.specs.Made.{rehearsed_calls}
use Rattle.rehearse_run.specs.Job.{stage, start}
use Rattle.rehearse_run.proofs.Whole.{on_stage, at_start, all_ends, whole_lines, whole_state, obeys_here, calls_leave, rests, same_stamps}
use Rattle.rehearse_run.proofs.rehearse.Goals as goal

pub returns : goal.returns
returns c =
    let bytes = c.args.bytes.now in
    let host = c.in_ok-host.host in
    let h = fixed_of host in
    let w = values_of host in
    let n = setting_with c.in_ok-manager.manager h in
    let b = state_with c.in_ok-manager.manager w in
    let reader = c.new-reader.result in
    let ls = lines_of (vec_items c.new-lines.result) in
    let last = lines_at c.feed_all.new.self in
    let z = state_at c.feed_all.new.self in
    let front : reader.bytes.now ≡ take 65536 bytes = c.new-reader.ensures.bytes ∙ c.looked_at.ensures in
    let same : n ≡ stage = on_stage n h c.in_ok-manager.ensures.setting c.in_ok-host.ensures.fixed in
    let new : b ≡ start = at_start b h w c.in_ok-manager.ensures.state c.in_ok-host.ensures.values in
    let went = c.in_ok-feed_all.ensures.went in
    let lines : last ≡ rehearsed stage (take 65536 bytes) rounds 0 start =
    whole_lines n reader.bytes.now (take 65536 bytes) reader.place.at b ls z last went same front c.new-reader.ensures.place new (ap lines_of c.new-lines.ensures.items) in
    let state : z ≡ rehearsed_state stage (take 65536 bytes) rounds 0 start =
    whole_state n reader.bytes.now (take 65536 bytes) reader.place.at b ls z last went same front c.new-reader.ensures.place new in
    let lawful : Lawful stage all_zero (rehearsed_calls stage (take 65536 bytes) rounds 0 start) =
    obeys_here h w c.in_ok-host.ensures.fixed c.in_ok-host.ensures.values c.in_ok-manager.ensures.law (rehearsed_calls stage (take 65536 bytes) rounds 0 start) in
    let left = ap (λ (x : State ℕ). x.values) (state ∙ calls_leave (take 65536 bytes) lawful) in
    record {
      fixed = ap (λ (x : Setting ℕ). x.host) c.feed_all.ensures.setting ∙ c.in_ok-host.ensures.fixed;
      lines = lines;
      values = ap (λ (x : State ℕ). x.values) state;
      ends = subst Ends (sym lines) (all_ends bytes);
      lawful = lawful;
      left = left;
      at_rest = λ e. rests (take 65536 bytes) lawful (subst Ended lines e);
      agrees = λ e a lt. ap (λ (x : Values ℕ). x.at a) left ∙ same_stamps (take 65536 bytes) lawful (subst Ended lines e) a lt;
    }
