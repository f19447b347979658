-- Small cases that are settled by computing the definitions. Assumes nothing.
use Rattle.std.specs.Prelude.{◌≡◌, ℕ, List, [], ◌∷◌, Ok, Err}
use Rattle.fault.specs.declared.StreamFault.TheVariants.{TooMany}
use Rattle.fault.specs.Numbers.{stream_number, stream_place}
use Rattle.task.specs.declared.Access.{Access}
use Rattle.task.specs.declared.Direction.TheVariants.{In, Out}
use Rattle.stamp_host.specs.Stamps.{fixed_for}
use Rattle.layout.specs.Layout.{Contents, submits}
use Rattle.layout.specs.Reading.{read}
use Rattle.one_at_a_time.specs.Journal.{did, journal}

-- an access that reads an address, and one that writes it
abbrev pub input : ℕ → Access
input a = record { address = a; direction = In }

abbrev pub output : ℕ → Access
output a = record { address = a; direction = Out }

-- a task of kind 3 that writes 5, and then one of kind 1 that reads 5 and writes 6
abbrev pub first_task : Contents
first_task = submits 7 3 (output 5 ∷ [])

abbrev pub two_tasks : List Contents
two_tasks = first_task ∷ submits 8 1 (input 5 ∷ output 6 ∷ []) ∷ []

-- over 64 zero stamps the first reads nothing and writes v, the second reads v and writes w
abbrev pub TwoTasksDone : ℕ → ℕ → Type 0
TwoTasksDone v w = journal (fixed_for 64) two_tasks (λ a. 0) ≡ did 7 3 (output 5 ∷ []) [] (v ∷ []) ∷ did 8 1 (input 5 ∷ output 6 ∷ []) (v ∷ []) (w ∷ []) ∷ []

-- these bytes are read as the first task, with nothing left over
abbrev pub FirstTaskRead : List ℕ → Type 0
FirstTaskRead bytes = read 0 bytes ≡ Ok (first_task, [])

-- a message that announces 16 accesses is refused by 5 at this byte, whatever follows
pub record SixteenRefused (byte : ℕ) : Type 0 where
  pub refused : (rest : List ℕ) → read 0 (2 ∷ 1 ∷ 16 ∷ 0 ∷ rest) ≡ Err (TooMany 16)
  pub number : stream_number (TooMany 16) ≡ 5
  pub place : stream_place (TooMany 16) ≡ byte
