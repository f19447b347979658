-- The rounds of a rehearsal, one after another, as the code makes them. Assumes nothing.
--
--   rounds            how many there are at most
--   rehearsed_state   the state that a rehearsal leaves
--   Turned, Goes      what one turn and one round do
--   Went, Drained     what the rounds and the turns that are left do
use Rattle.std.specs.Prelude.{◌≡◌, ℕ, zero, suc, cond, List, [], ◌∷◌, ◌++◌, map, drop, Ok, Err, Result, ◌==◌}
use Rattle.fault.specs.declared.ManagerFault.{ManagerFault}
use Rattle.fault.specs.Numbers.{cause_number}
use Rattle.layout.specs.Reading.{read}
use Rattle.roll.specs.Calls.{Setting, State}
use Rattle.roll.specs.Built.{state_after, turn_calls, turn_answer, feed_calls, feed_answer, fed_place, Fed, FeedFailure}
use Rattle.roll.specs.Rehearsal as roll
use Rattle.roll.specs.Rehearsal.{sub, ran, refusal, end, drained, stalling, rehearsed}
use Rattle.drive.specs.declared.fed.Fed as declared
use Rattle.drive.specs.declared.fed.Fed.TheVariants.{Submitted, Finished}
use Rattle.rehearse_run.specs.declared.line.Line.{Line}
use Rattle.rehearse_run.specs.declared.line.Line.TheVariants.{Sub, Ran, No, End}
use Rattle.rehearse_run.specs.declared.rounds.Next.{Next}
use Rattle.rehearse_run.specs.declared.rounds.Next.TheVariants.{On, Drain, Stop}

-- how many rounds there are at most; it stays shut, so that nothing is computed that often
unfoldable pub rounds : ℕ
rounds = 131584

-- a line of the code as the definitions have it, and the lines of a list
abbrev pub line_of : Line → roll.Line
line_of (Sub seat) = sub seat
line_of (Ran seat) = ran seat
line_of (No number) = refusal number
line_of End = end

abbrev pub lines_of : List Line → List roll.Line
lines_of ls = map line_of ls

-- the state after a turn that was made, with what follows it, or after one that is refused
abbrev pub turned_state : {V : Type 0} → Result (ℕ × ℕ) ManagerFault → State V → State V → State V
turned_state (Ok p) rest left = rest
turned_state (Err fault) rest left = left

-- the state after n turns at most
abbrev pub drained_state : {V : Type 0} → Setting V → ℕ → State V → State V
drained_state m zero b = b
drained_state m (suc n) b = turned_state (turn_answer m b) (drained_state m n (state_after m b (turn_calls m b))) (state_after m b (turn_calls m b))

-- the state by what feed answers, as the lines are
abbrev pub state_by_number : {V : Type 0} → ℕ → State V → State V → State V → State V
state_by_number n again last b = cond (n == 1) last (cond (stalling n) again b)

abbrev pub state_by_feed : {V : Type 0} → Result Fed FeedFailure → State V → State V → State V → State V → State V
state_by_feed (Ok fed) on again last b = on
state_by_feed (Err fault) on again last b = state_by_number (cause_number fault.cause) again last b

-- the state after the bytes from a place on, with at most n feeds and n turns
abbrev pub rehearsed_state : {V : Type 0} → Setting V → List ℕ → ℕ → ℕ → State V → State V
rehearsed_state m bytes zero place b = b
rehearsed_state m bytes (suc n) place b =
    state_by_feed (feed_answer m b bytes place) (rehearsed_state m bytes n (fed_place m b bytes place) (state_after m b (feed_calls (read place (drop place bytes)))))
    (turned_state (turn_answer m b) (rehearsed_state m bytes n place (state_after m b (turn_calls m b))) (state_after m b (turn_calls m b)))
    (drained_state m (suc n) b) b

-- what one turn notes behind these lines, and what follows it
abbrev pub Turned : Result (ℕ × ℕ) ManagerFault → List roll.Line → Next → List roll.Line → Type 0
Turned (Ok p) before next after = (next ≡ On) × (after ≡ before ++ (ran p.0 ∷ []))
Turned (Err fault) before next after = (next ≡ Stop) × (after ≡ before ++ (end ∷ []))

-- what a message that is accepted notes
abbrev pub fed_lines : declared.Fed → List roll.Line
fed_lines (Submitted seat) = sub seat ∷ []
fed_lines (Finished woken) = []

-- what follows a round, by what it answers: the lines and the state of another round, those of the turns that are left, or nothing
abbrev pub follows : {A : Type 0} → Next → A → A → A → A
follows On on last none = on
follows Drain on last none = last
follows Stop on last none = none

-- what a refusal by this number makes of a state, behind these lines: at 1 nothing, at a stall one turn, and else its line
abbrev pub Answered : {V : Type 0} → Setting V → ℕ → State V → List roll.Line → Next → State V → List roll.Line → Type 0
Answered m number b before next d after =
    cond (number == 1) ((next ≡ Drain) × (d ≡ b) × (after ≡ before))
    (cond (stalling number) (Turned (turn_answer m b) before next after × (d ≡ state_after m b (turn_calls m b)))
    ((next ≡ Stop) × (d ≡ b) × (after ≡ before ++ (refusal number ∷ []))))

-- one round at a place in a state, behind these lines, leaves these lines, this place and this state: with what follows it, with whatever
-- number of rounds left, the lines and the state are those of the definition
pub record Goes {V : Type 0} (m : Setting V) (bytes : List ℕ) (place : ℕ) (b : State V) (before : List roll.Line) (next : Next) (at : ℕ) (d : State V) (after : List roll.Line) : Type 0 where
  pub lines : (n : ℕ) → after ++ follows next (rehearsed m bytes n at d) (drained m (suc n) d) [] ≡ before ++ rehearsed m bytes (suc n) place b
  pub state : (n : ℕ) → follows next (rehearsed_state m bytes n at d) (drained_state m (suc n) d) d ≡ rehearsed_state m bytes (suc n) place b

-- n turns at most, and the rounds: the lines that they note behind these, and the state that they leave
pub record Drained {V : Type 0} (m : Setting V) (n : ℕ) (b : State V) (before : List roll.Line) (d : State V) (after : List roll.Line) : Type 0 where
  pub lines : after ≡ before ++ drained m n b
  pub state : d ≡ drained_state m n b

pub record Went {V : Type 0} (m : Setting V) (bytes : List ℕ) (n place : ℕ) (b : State V) (before : List roll.Line) (d : State V) (after : List roll.Line) : Type 0 where
  pub lines : after ≡ before ++ rehearsed m bytes n place b
  pub state : d ≡ rehearsed_state m bytes n place b
