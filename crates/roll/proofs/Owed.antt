-- What the unfinished tasks still owe, by their standings, and that it is the whole less what they have spent. Assumes nothing.
use Rattle.std.proofs.Common.{◌≡◌, ℕ, suc, ◌+◌, ◌≤◌, Bool, true, false, List, [], ◌∷◌, ◌++◌, length, refl, ap, arith, length-append}
use Rattle.std.specs.List.{AllByRecursion as All}
use Rattle.task.specs.declared.Access.{Access}
use Rattle.task.specs.Access.{Numbered, readers, writers}
use Rattle.order.specs.Steps.{brings, puts, steps}
use Rattle.roll.specs.Roll.{Standing, waiting, ready, running, Entry, Roll, blocked, rouse, wake}
use Rattle.roll.specs.History.{whole, owed}
use Rattle.roll.specs.Law.{OwesItsFinish}

-- one for each step that is left, one for the take and one for the finish
abbrev pub due : List Access → Standing → ℕ
due xs waiting = length (steps xs) + 2
due xs ready = length (steps xs) + 2
due xs (running ss) = length ss + 1

-- of all tasks of a roll
abbrev pub dues : Roll → ℕ
dues [] = 0
dues (e ∷ es) = due e.job.accesses e.standing + dues es

-- of two parts of a roll
pub dues-++ : (xs ys : Roll) → dues (xs ++ ys) ≡ dues xs + dues ys
dues-++ [] ys = omega arith
dues-++ (x ∷ xs) ys = omega (arith, dues-++ xs ys)

-- waking changes nothing of what is due
due_rouse : (xs : List Access) (b : Bool) (st : Standing) → due xs (rouse b st) ≡ due xs st
due_rouse xs true waiting = refl
due_rouse xs false waiting = refl
due_rouse xs b ready = refl
due_rouse xs b (running ss) = refl

pub dues_wake : (ds roll : Roll) → dues (wake ds roll) ≡ dues roll
dues_wake ds [] = refl
dues_wake ds (e ∷ roll) = omega (arith, due_rouse e.job.accesses (blocked ds e.job.accesses) e.standing, dues_wake (e ∷ ds) roll)

-- a finish is always due, so where nothing is due there is no task
due_some : (xs : List Access) (st : Standing) → 1 ≤ due xs st
due_some xs waiting = omega arith
due_some xs ready = omega arith
due_some xs (running ss) = omega arith

pub dues_none : (roll : Roll) → dues roll ≡ 0 → roll ≡ []
dues_none [] h = refl
dues_none (e ∷ es) h = absurd (omega (arith, due_some e.job.accesses e.standing))

-- a task has one step for each reading and each writing access
length_brings : (p : ℕ) (rest : List Numbered) → length (brings p rest) ≡ length rest
length_brings p [] = refl
length_brings p (x ∷ rest) = ap suc (length_brings (suc p) rest)

length_puts : (ws : List Numbered) → length (puts ws) ≡ length ws
length_puts [] = refl
length_puts (w ∷ ws) = ap suc (length_puts ws)

-- all its steps
pub length_steps : (xs : List Access) → length (steps xs) ≡ length (readers xs) + length (writers xs)
length_steps xs =
    omega (arith, length-append (brings 0 (readers xs)) (puts (writers xs)), length_brings 0 (readers xs), length_puts (writers xs))

-- what is spent and what is due make up the whole
abbrev pub Paid : (ℕ → ℕ) → Entry → Type 0
Paid spent e = spent e.job.seat + due e.job.accesses e.standing ≡ whole e.job.accesses

-- so what is owed is what is due
pub owed_dues : (spent : ℕ → ℕ) (roll : Roll) → All (Paid spent) roll → owed spent roll ≡ dues roll
owed_dues spent [] h = refl
owed_dues spent (e ∷ es) h = omega (arith, owed_dues spent es h.1, h.0)

-- and it is at least the finish
pub paid_finish : (spent : ℕ → ℕ) (roll : Roll) → All (Paid spent) roll → OwesItsFinish spent roll
paid_finish spent [] h = tt
paid_finish spent (e ∷ es) h = (omega (arith, h.0, due_some e.job.accesses e.standing), paid_finish spent es h.1)

-- a waking changes nothing of that
pub paid_wake : (spent : ℕ → ℕ) (ds roll : Roll) → All (Paid spent) roll → All (Paid spent) (wake ds roll)
paid_wake spent ds [] h = tt
paid_wake spent ds (e ∷ es) h = (omega (arith, h.0, due_rouse e.job.accesses (blocked ds e.job.accesses) e.standing), paid_wake spent (e ∷ ds) es h.1)
