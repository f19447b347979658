-- What the program `rehearse` writes for a stream: every submission is fed; a stall makes one turn and feeds again; another refusal ends
-- it, and at the end of the stream it turns until no task is unfinished. Assumes nothing.
use Rattle.std.specs.Prelude.{ℕ, zero, suc, Bool, cond, ◌&&◌, List, [], ◌∷◌, drop, Ok, Err, Result, ◌==◌, nat_le}
use Rattle.fault.specs.declared.ManagerFault.{ManagerFault}
use Rattle.fault.specs.Numbers.{cause_number}
use Rattle.layout.specs.Reading.{read}
use Rattle.roll.specs.Calls.{Setting, State}
use Rattle.roll.specs.Built.{state_after, turn_calls, turn_answer, feed_calls, feed_answer, fed_place, Fed, submitted_to, finished_with, FeedFailure}

-- a line that is written: a submission was accepted on a seat; the task in a seat has run; a refusal, by its number; the end
pub data Line : Type 0 where
  sub : ℕ → Line
  ran : ℕ → Line
  refusal : ℕ → Line
  end : Line

-- after a turn: its line and those that follow, or the end where no task is ready
abbrev pub turned : Result (ℕ × ℕ) ManagerFault → List Line → List Line
turned (Ok p) rest = ran p.0 ∷ rest
turned (Err fault) rest = end ∷ []

-- the lines of n turns at most
abbrev pub drained : {V : Type 0} → Setting V → ℕ → State V → List Line
drained m zero b = []
drained m (suc n) b = turned (turn_answer m b) (drained m n (state_after m b (turn_calls m b)))

-- a refusal by 10, 11 or 12 is a stall
abbrev pub stalling : ℕ → Bool
stalling n = nat_le 10 n && nat_le n 12

-- the lines by what feed answers: on with the next message, again after a turn, to the end, or a refusal
abbrev pub by_number : ℕ → List Line → List Line → List Line
by_number n again last = cond (n == 1) last (cond (stalling n) again (refusal n ∷ []))

abbrev pub by_feed : Result Fed FeedFailure → List Line → List Line → List Line → List Line
by_feed (Ok (submitted_to s)) on again last = sub s ∷ on
by_feed (Ok (finished_with n)) on again last = on
by_feed (Err fault) on again last = by_number (cause_number fault.cause) again last

-- the lines for the bytes from a place on, with at most n feeds and n turns
abbrev pub rehearsed : {V : Type 0} → Setting V → List ℕ → ℕ → ℕ → State V → List Line
rehearsed m bytes zero place b = []
rehearsed m bytes (suc n) place b =
    by_feed (feed_answer m b bytes place) (rehearsed m bytes n (fed_place m b bytes place) (state_after m b (feed_calls (read place (drop place bytes)))))
    (turned (turn_answer m b) (rehearsed m bytes n place (state_after m b (turn_calls m b)))) (drained m (suc n) b)
