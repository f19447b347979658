-- Calls in turn: after one of them, the answers so far and those of the calls that are left come to the same as before it, and so does
-- the state that the calls leave in the end.
use Rattle.std.proofs.Common.{◌≡◌, ℕ, ◌+◌, ◌<◌, ◌≤◌, List, [], ◌∷◌, ◌++◌, length, get_or, drop, Result, sym, ap, ◌∙◌, append-nil, add-one, drop-cons}
use lib.Seq.{append_snoc}
use Rattle.std.proofs.lemmas.List.{map-append, drop_all}
use Rattle.fault.specs.declared.ManagerFault.{ManagerFault}
use Rattle.roll.specs.Calls as roll
use Rattle.roll.specs.Calls.{Setting, State, perform}
use Rattle.roll.specs.Built.{left_by, state_after}
use Rattle.runs.specs.declared.calls.Call.{Call}
use Rattle.runs.specs.declared.calls.Answer.{Answer}
use Rattle.runs.specs.Told.{call_of, calls_of, told, all_told, answer_to, answers_to}

-- the call at i is the first of those that are left
rest : (cs : List Call) (i : ℕ) (d : Call) → i < length cs → calls_of (drop i cs) ≡ call_of (get_or cs i d) ∷ calls_of (drop (i + 1) cs)
rest cs i d lt = ap calls_of (drop-cons cs i d lt) ∙ ap (λ (n : ℕ). call_of (get_or cs i d) ∷ calls_of (drop n cs)) (sym (add-one i))

module _ {V : Type 0} (cs : List Call) (i : ℕ) (d : Call) (lt : i < length cs) where
  -- the answers, after the call at i
  pub answers_more : (m n : Setting V) (b a : State V) (rs ts : List (Result Answer ManagerFault)) (r : Result Answer ManagerFault) → n ≡ m →
      told r ≡ answer_to (perform m b (call_of (get_or cs i d))) → a ≡ left_by b (perform m b (call_of (get_or cs i d))) → ts ≡ rs ++ (r ∷ []) →
      all_told ts ++ answers_to n a (calls_of (drop (i + 1) cs)) ≡ all_told rs ++ answers_to m b (calls_of (drop i cs))
  answers_more m n b a rs ts r same said left grown =
      let cs' : List roll.Call = calls_of (drop (i + 1) cs) in
      ap (λ (x : List (Result Answer ManagerFault)). all_told x ++ answers_to n a cs') grown
      ∙ ap (λ (x : List (Result roll.Answer ManagerFault)). x ++ answers_to n a cs') (map-append told rs (r ∷ []))
      ∙ append_snoc (all_told rs) (told r) (answers_to n a cs')
      ∙ ap (λ (x : Setting V). all_told rs ++ (told r ∷ answers_to x a cs')) same
      ∙ ap (λ (x : State V). all_told rs ++ (told r ∷ answers_to m x cs')) left
      ∙ ap (λ (x : Result roll.Answer ManagerFault). all_told rs ++ (x ∷ answers_to m (left_by b (perform m b (call_of (get_or cs i d)))) cs')) said
      ∙ ap (λ (x : List roll.Call). all_told rs ++ answers_to m b x) (sym (rest cs i d lt))

  -- the state, after the call at i
  pub state_more : (m n : Setting V) (b a : State V) → n ≡ m → a ≡ left_by b (perform m b (call_of (get_or cs i d))) →
      state_after n a (calls_of (drop (i + 1) cs)) ≡ state_after m b (calls_of (drop i cs))
  state_more m n b a same left =
      ap (λ (x : Setting V). state_after x a (calls_of (drop (i + 1) cs))) same
      ∙ ap (λ (x : State V). state_after m x (calls_of (drop (i + 1) cs))) left
      ∙ ap (λ (x : List roll.Call). state_after m b x) (sym (rest cs i d lt))

-- when no call is left, the answers so far are all, and the state is the last
module _ {V : Type 0} (cs : List Call) (i : ℕ) (le : length cs ≤ i) (m : Setting V) (b : State V) where
  pub answers_end : (rs : List (Result Answer ManagerFault)) (all : List (Result roll.Answer ManagerFault)) →
      all_told rs ++ answers_to m b (calls_of (drop i cs)) ≡ all → all_told rs ≡ all
  answers_end rs all e =
      sym (ap (λ (x : List Call). all_told rs ++ answers_to m b (calls_of x)) (drop_all i cs le) ∙ append-nil (all_told rs)) ∙ e

  pub state_end : (last : State V) → state_after m b (calls_of (drop i cs)) ≡ last → b ≡ last
  state_end last e = sym (ap (λ (x : List Call). state_after m b (calls_of x)) (drop_all i cs le)) ∙ e
