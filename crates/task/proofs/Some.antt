-- An access for places outside a list, and whether a test holds of some access, found by going through the list from the
-- front. Assumes nothing.
use Rattle.std.proofs.Common.{◌≡◌, ℕ, suc, ◌+◌, ◌<◌, ◌≤◌, Bool, true, false, ◌||◌, List, length, get_or, drop, sym, ap, ◌∙◌, add-one, drop-cons}
use Rattle.std.proofs.lemmas.List.{drop_all}
use Rattle.task.specs.declared.Access.{Access}
use Rattle.task.specs.declared.Direction.TheVariants.{In}
use Rattle.task.specs.Access.{some_access}

-- what stands past the end of a list of accesses
abbrev pub blank : Access
blank = record { address = 0; direction = In }

module _ (p : Access → Bool) (xs : List Access) (i : ℕ) (d : Access) (lt : i < length xs) (so_far : some_access p xs ≡ some_access p (drop i xs)) where
  -- the access at i passes, so some access does
  pub some_here : p (get_or xs i d) ≡ true → true ≡ some_access p xs
  some_here e = sym (so_far ∙ ap (some_access p) (drop-cons xs i d lt) ∙ ap (λ (b : Bool). b || some_access p (drop (suc i) xs)) e)

  -- it does not, so the answer is that for those behind it
  pub some_later : p (get_or xs i d) ≡ false → some_access p xs ≡ some_access p (drop (i + 1) xs)
  some_later e = rw add-one (so_far ∙ ap (some_access p) (drop-cons xs i d lt) ∙ ap (λ (b : Bool). b || some_access p (drop (suc i) xs)) e)

-- none is left
pub some_none : (p : Access → Bool) (xs : List Access) (i : ℕ) → length xs ≤ i → some_access p xs ≡ some_access p (drop i xs) → false ≡ some_access p xs
some_none p xs i le so_far = sym (so_far ∙ ap (some_access p) (drop_all i xs le))
