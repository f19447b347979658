-- The calls that a rehearsal makes, one after the other, accepted or refused. Assumes nothing.
use Rattle.std.specs.Prelude.{ℕ, zero, suc, cond, List, [], ◌++◌, drop, Ok, Err, Result, ◌==◌}
use Rattle.fault.specs.declared.ManagerFault.{ManagerFault}
use Rattle.fault.specs.Numbers.{cause_number}
use Rattle.layout.specs.Reading.{read}
use Rattle.roll.specs.Calls.{Setting, State, Call}
use Rattle.roll.specs.Built.{state_after, turn_calls, turn_answer, feed_calls, feed_answer, fed_place, Fed, FeedFailure}
use Rattle.roll.specs.Rehearsal.{stalling}

-- what follows a turn that was made, and nothing behind one that is refused
abbrev pub turned_calls : Result (ℕ × ℕ) ManagerFault → List Call → List Call
turned_calls (Ok p) rest = rest
turned_calls (Err fault) rest = []

-- the calls of n turns at most
abbrev pub drained_calls : {V : Type 0} → Setting V → ℕ → State V → List Call
drained_calls m zero b = []
drained_calls m (suc n) b = turn_calls m b ++ turned_calls (turn_answer m b) (drained_calls m n (state_after m b (turn_calls m b)))

-- the calls behind a feed, by what it answers
abbrev pub calls_by_number : ℕ → List Call → List Call → List Call
calls_by_number n again last = cond (n == 1) last (cond (stalling n) again [])

abbrev pub calls_by_feed : Result Fed FeedFailure → List Call → List Call → List Call → List Call
calls_by_feed (Ok fed) on again last = on
calls_by_feed (Err fault) on again last = calls_by_number (cause_number fault.cause) again last

-- the calls for the bytes from a place on, with at most n feeds and n turns
abbrev pub rehearsed_calls : {V : Type 0} → Setting V → List ℕ → ℕ → ℕ → State V → List Call
rehearsed_calls m bytes zero place b = []
rehearsed_calls m bytes (suc n) place b =
    feed_calls (read place (drop place bytes))
    ++ calls_by_feed (feed_answer m b bytes place) (rehearsed_calls m bytes n (fed_place m b bytes place) (state_after m b (feed_calls (read place (drop place bytes)))))
    (turn_calls m b ++ turned_calls (turn_answer m b) (rehearsed_calls m bytes n place (state_after m b (turn_calls m b)))) (drained_calls m (suc n) b)
