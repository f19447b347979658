-- The seats that a walk over the places has passed. Assumes nothing.
--   passed                     the listed seats that stand before a place
--   passed_new                 the seat at a place was not passed before
--   passed_has, passed_not     the seats whose place was passed, and the others
use Rattle.std.proofs.Common.{◌≡◌, ℕ, ◌+◌, ◌<◌, ◌≤◌, true, false, List, [], ◌∷◌, ◌++◌, length, sym, ap, ◌∙◌, inl, inr, append_assoc, arith, length-append}
use Rattle.std.proofs.lemmas.Bool.{or_left, both_ways, cases_Bool}
use Rattle.acceptance.specs.declared.Acceptance.{Acceptance}
use Rattle.acceptance.specs.Listed.{member, below, listed, place_of}
use Rattle.acceptance.proofs.Laws.{from_place, listed_apart, listed_few, listed_before, below_has, below_not}
use Rattle.acceptance.proofs.Lists.{member_append}
use Rattle.manager.proofs.Wakes.{member_splits}

-- the listed seats before a place, which may be behind the end
abbrev pub passed : Acceptance → ℕ → List ℕ
passed a p = below a p

module _ (a : Acceptance) where
  -- they come first among all that are listed
  pub passed_first : (p : ℕ) → listed a ≡ passed a p ++ from_place a p
  passed_first p = listed_before a p

  -- so the others are behind them
  pub passed_apart : (p t : ℕ) → member t (passed a p) ≡ true → member t (from_place a p) ≡ false
  passed_apart p t h =
      let front = passed a p in
      let rest = from_place a p in
      elim (cases_Bool (member t rest)) [
        | inr none ↦ none
        | inl there ↦
            let r = member_splits t rest there in
            let parts : listed a ≡ (front ++ r.0) ++ (t ∷ r.1.0) = passed_first p ∙ ap (λ (l : List ℕ). front ++ l) r.1.1 ∙ sym (append_assoc front r.0 (t ∷ r.1.0)) in
            let none = (listed_apart a t (front ++ r.0) r.1.0 parts).0 in
            absurd (both_ways (member t (front ++ r.0)) none (member_append t front r.0 ∙ or_left (member t front) (member t r.0) h))
      ]

  -- there are at most 256
  pub passed_few : (p : ℕ) → length (passed a p) ≤ 256
  passed_few p =
      let few = listed_few a in
      let sum : length (listed a) ≡ length (passed a p) + length (from_place a p) = ap length (passed_first p) ∙ length-append (passed a p) (from_place a p) in
      omega arith

  -- the seat at a place was not passed before
  pub passed_new : (p s : ℕ) → passed a (p + 1) ≡ passed a p ++ (s ∷ []) → member s (passed a p) ≡ false
  passed_new p s e =
      let rest = from_place a (p + 1) in
      let parts : listed a ≡ passed a p ++ (s ∷ rest) = passed_first (p + 1) ∙ ap (λ (l : List ℕ). l ++ rest) e ∙ append_assoc (passed a p) (s ∷ []) rest in
      (listed_apart a s (passed a p) rest parts).0

  -- a listed seat whose place comes before was passed, and any other was not
  pub passed_has : (p t : ℕ) → member t (listed a) ≡ true → place_of a t < p → member t (passed a p) ≡ true
  passed_has p t h lt = below_has a t p h lt

  pub passed_not : (p t : ℕ) → member t (listed a) ≡ true → p ≤ place_of a t → member t (passed a p) ≡ false
  passed_not p t h le = below_not a t p le
