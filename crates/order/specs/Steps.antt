-- The steps that a task comes to: one bring for each reading access in order of access number, to the seat's positions 0, 1 and so on,
-- then one put for each writing access in the same order. Assumes nothing.
--
--   Step       a bring or a put
--   steps      all steps of a task, by its accesses
--   done       what a step does to a host's values
use Rattle.std.specs.Prelude.{ℕ, suc, List, [], ◌∷◌, ◌++◌, length}
use Rattle.task.specs.declared.Access.{Access}
use Rattle.task.specs.Access.{Numbered, readers, writers}
use Rattle.host.specs.Meaning.{Fixed, Values, brought, stored}

-- a bring of an access to a position of the seat, or a put of an access
pub data Step : Type 0 where
  bring : Numbered → ℕ → Step
  put : Numbered → Step

-- brings to the positions p, suc p and so on
abbrev pub brings : ℕ → List Numbered → List Step
brings p [] = []
brings p (x ∷ xs) = bring x p ∷ brings (suc p) xs

-- a put for each access
abbrev pub puts : List Numbered → List Step
puts [] = []
puts (x ∷ xs) = put x ∷ puts xs

-- all steps of a task
abbrev pub steps : List Access → List Step
steps xs = brings 0 (readers xs) ++ puts (writers xs)

-- a task on a seat, as far as its steps go
pub record Job : Type 0 where
  pub seat : ℕ
  pub kind : ℕ
  pub accesses : List Access

-- what a step of a task does to a host's values; a put takes as many values as the task has reading accesses
abbrev pub done : {V : Type 0} → Fixed V → Job → Step → Values V → Values V
done h j (bring x p) w = brought h x.address j.seat p w
done h j (put x) w = stored h j.kind x.number (length (readers j.accesses)) j.seat x.address w
