-- Going through the accesses of a task from the front. Assumes nothing.
use Rattle.std.proofs.Common.{◌≡◌, ℕ, suc, ◌+◌, ◌<◌, ◌≤◌, Bool, true, List, [], ◌∷◌, length, get_or, drop, sym, ap, ◌∙◌, subst, add-one, drop-cons}
use Rattle.std.proofs.lemmas.List.{drop_all}
use Rattle.task.specs.declared.Access.{Access}
use Rattle.task.specs.Access.{Numbered, keep, numbered}
use Rattle.task.proofs.Some.{blank}
use Rattle.host.specs.Meaning.{Fixed}
use Rattle.one_at_a_time.specs.Alone.{AllHeld}

module _ (xs : List Access) (i : ℕ) (lt : i < length xs) where
  -- the access at i, and those behind it
  cut : drop i xs ≡ get_or xs i blank ∷ drop (i + 1) xs
  cut = rw add-one (drop-cons xs i blank lt)

  -- the accesses that pass a test, from i on: that at i if it passes, and those behind it
  pub numbered_more : (p : Access → Bool) (b : Bool) → p (get_or xs i blank) ≡ b →
      numbered p i (drop i xs) ≡ keep b (record { number = i; address = (get_or xs i blank).address }) (numbered p (i + 1) (drop (i + 1) xs))
  numbered_more p b e =
      let x : Numbered = record { number = i; address = (get_or xs i blank).address } in
      ap (numbered p i) cut ∙ ap (λ (t : Bool). keep t x (numbered p (suc i) (drop (i + 1) xs))) e ∙ ap (λ (j : ℕ). keep b x (numbered p j (drop (i + 1) xs))) (sym (add-one i))

  -- the address of the access at i is held, and so are those behind it
  pub held_more : {V : Type 0} (h : Fixed V) → AllHeld h (drop i xs) → (h.held (get_or xs i blank).address ≡ true) × AllHeld h (drop (i + 1) xs)
  held_more h all = subst (AllHeld h) cut all

-- none is left
pub numbered_none : (p : Access → Bool) (xs : List Access) (i : ℕ) → length xs ≤ i → numbered p i (drop i xs) ≡ []
numbered_none p xs i le = ap (numbered p i) (drop_all i xs le)
