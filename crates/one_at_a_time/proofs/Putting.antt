-- Putting the writing accesses one after another: what is left from here comes to what all comes to from the start.
-- Assumes nothing.
use Rattle.std.proofs.Common.{◌≡◌, ℕ, List, ◌++◌, map}
use Rattle.task.specs.Access.{Numbered}
use Rattle.host.specs.Meaning.{Fixed, Values, row}
use Rattle.one_at_a_time.specs.Alone.{written}

-- a host's values once these accesses are put
abbrev pub putting : {V : Type 0} → Fixed V → ℕ → List V → List Numbered → Values V → Values V
putting h kind vs left w = record { at = written h kind vs left w.at; aside = w.aside }

-- the values that accesses are set to
abbrev pub values_of_work : {V : Type 0} → Fixed V → ℕ → List V → List Numbered → List V
values_of_work h kind vs xs = map (λ (x : Numbered). h.rule kind x.number vs) xs

-- of all writing accesses some are left: the others are put, from the seat's first n positions, and these are their values
pub record Putting {V : Type 0} (h : Fixed V) (kind n : ℕ) (w0 : Values V) (all left : List Numbered) (items : List V) (w : Values V) : Type 0 where
  pub wrote : items ++ values_of_work h kind (row 0 n (w0.aside 0)) left ≡ values_of_work h kind (row 0 n (w0.aside 0)) all
  pub values : putting h kind (row 0 n (w0.aside 0)) left w ≡ putting h kind (row 0 n (w0.aside 0)) all w0
