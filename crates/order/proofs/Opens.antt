-- What holds of each of the open tasks, where one of them changes or leaves; and that their seats differ. Assumes nothing.
use Rattle.std.proofs.Common.{◌≡◌, ℕ, false, eqb, List, [], ◌∷◌, ◌++◌, subst}
use Rattle.std.specs.List.{AllByRecursion as All}
use Rattle.std.proofs.ByRecursion.{All-push}
use Rattle.std.proofs.lemmas.Bool.{ne_eqb}
use Rattle.order.specs.Order.{Open, Each}
use Rattle.order.proofs.Update.{eqb_flip}
use Rattle.order.proofs.Complete.{Elsewhere}

module _ {A : Type 0} (P : A → Type 0) where
  -- the first part of a list, and the rest
  pub all_front : (xs ys : List A) → All P (xs ++ ys) → All P xs
  all_front [] ys all = tt
  all_front (x ∷ xs) ys all = (all.0, all_front xs ys all.1)

  pub all_back : (xs ys : List A) → All P (xs ++ ys) → All P ys
  all_back [] ys all = all
  all_back (x ∷ xs) ys all = all_back xs ys all.1

  -- one element is another
  pub all_change : (xs ys : List A) (x y : A) → (P x → P y) → All P (xs ++ (x ∷ ys)) → All P (xs ++ (y ∷ ys))
  all_change [] ys x y f all = (f all.0, all.1)
  all_change (z ∷ xs) ys x y f all = (all.0, all_change xs ys x y f all.1)

  -- one element is gone
  pub all_without : (xs ys : List A) (x : A) → All P (xs ++ (x ∷ ys)) → All P (xs ++ ys)
  all_without [] ys x all = all.1
  all_without (z ∷ xs) ys x all = (all.0, all_without xs ys x all.1)

-- what follows from two facts of each element
pub all_both : {A : Type 0} (P Q R : A → Type 0) → ((x : A) → P x → Q x → R x) → (xs : List A) → All P xs → All Q xs → All R xs
all_both P Q R f [] all also = tt
all_both P Q R f (x ∷ xs) all also = (f x all.0 also.0, all_both P Q R f xs all.1 also.1)

-- the seats of the open tasks differ
abbrev pub SeatsDiffer : {V : Type 0} → List (Open V) → Type 0
SeatsDiffer [] = Unit {0}
SeatsDiffer (o ∷ os) = All (Elsewhere o.job.seat) os × SeatsDiffer os

module _ {V : Type 0} where
  -- a seat that no open task has
  pub elsewhere : (s : ℕ) (os : List (Open V)) → Each (λ o. o.job.seat ≡ s → ⊥) os → All (Elsewhere s) os
  elsewhere s [] ne = tt
  elsewhere s (o ∷ os) ne = (ne_eqb o.job.seat s ne.0, elsewhere s os ne.1)

  -- all but one of the open tasks have another seat than that one
  pub differ_before : (pre post : List (Open V)) (o : Open V) → SeatsDiffer (pre ++ (o ∷ post)) → All (Elsewhere o.job.seat) pre
  differ_before [] post o d = tt
  differ_before (e ∷ pre) post o d =
      (eqb_flip o.job.seat e.job.seat (all_back (Elsewhere e.job.seat) pre (o ∷ post) d.0).0, differ_before pre post o d.1)

  pub differ_behind : (pre post : List (Open V)) (o : Open V) → SeatsDiffer (pre ++ (o ∷ post)) → All (Elsewhere o.job.seat) post
  differ_behind [] post o d = d.0
  differ_behind (e ∷ pre) post o d = differ_behind pre post o d.1

  -- one of the open tasks changes, but not its seat
  pub differ_change : (pre post : List (Open V)) (o u : Open V) → o.job.seat ≡ u.job.seat → SeatsDiffer (pre ++ (o ∷ post)) → SeatsDiffer (pre ++ (u ∷ post))
  differ_change [] post o u same d = (subst (λ (s : ℕ). All (Elsewhere s) post) same d.0, d.1)
  differ_change (e ∷ pre) post o u same d = (
    all_change (Elsewhere e.job.seat) pre post o u (λ ne. subst (λ (s : ℕ). eqb s e.job.seat ≡ false) same ne) d.0,
    differ_change pre post o u same d.1,
  )

  -- one leaves
  pub differ_without : (pre post : List (Open V)) (o : Open V) → SeatsDiffer (pre ++ (o ∷ post)) → SeatsDiffer (pre ++ post)
  differ_without [] post o d = d.1
  differ_without (e ∷ pre) post o d = (all_without (Elsewhere e.job.seat) pre post o d.0, differ_without pre post o d.1)

  -- one enters at the end
  pub differ_push : (os : List (Open V)) (o : Open V) → All (Elsewhere o.job.seat) os → SeatsDiffer os → SeatsDiffer (os ++ (o ∷ []))
  differ_push [] o ne d = (tt, tt)
  differ_push (e ∷ os) o ne d = (All-push (Elsewhere e.job.seat) os o d.0 (eqb_flip e.job.seat o.job.seat ne.0), differ_push os o ne.1 d.1)
