-- What holds of everything that is reached, and from it that whatever is reached agrees with the one-at-a-time run. Assumes nothing.
use Rattle.std.proofs.Common.{◌≡◌, ℕ, List, [], ◌∷◌, ◌++◌, Some, sym, refl, ap, ◌∙◌, subst}
use Rattle.std.specs.List.{AllByRecursion as All}
use Rattle.std.proofs.ByRecursion.{All-push}
use Rattle.task.specs.Access.{Numbered}
use Rattle.host.specs.Meaning.{Fixed, Values, row}
use Rattle.one_at_a_time.specs.Alone.{values_read, alone}
use Rattle.order.specs.Steps.{Step, bring, Job, steps, done}
use Rattle.order.specs.Order.{Open, Each, Sound, OutOfTheWay, Reached, begins, enters, goes, leaves, nth, AnyOrderIsSerial}
use Rattle.order.proofs.Commute.{size}
use Rattle.order.proofs.Left.{all_left}
use Rattle.order.proofs.Complete.{Elsewhere, Leaves, runs, complete, complete_append, complete_none, advance}
use Rattle.order.proofs.Whole.{nth_row, complete_away, filled_by, kept, whole_reads, whole_writes, away}
use Rattle.order.proofs.Opens.{all_front, all_back, all_change, all_without, all_both, SeatsDiffer, elsewhere, differ_before, differ_behind, differ_change, differ_without, differ_push}

-- by these values held aside, the task has read its list
abbrev HasRead : {V : Type 0} → (ℕ → ℕ → V) → Open V → Type 0
HasRead f o = row 0 (size o.job) (f o.job.seat) ≡ o.reads

-- once the steps that are left are done, one task after the other in order, every address has the value of the one-at-a-time run, and
-- every open task has read its list
record Agrees {V : Type 0} (h : Fixed V) (os : List (Open V)) (w : Values V) (at : ℕ → V) : Type 0 where
  lefts : All (Leaves h) os
  differ : SeatsDiffer os
  values : (complete h os w).at ≡ at
  readings : All (HasRead (complete h os w).aside) os

module _ {V : Type 0} (h : Fixed V) where
  -- a task enters
  agrees_enter : (os : List (Open V)) (w : Values V) (at : ℕ → V) (j : Job) → Sound h j → Each (λ o. o.job.seat ≡ j.seat → ⊥) os → Agrees h os w at →
      Agrees h (os ++ (record { job = j; left = steps j.accesses; reads = values_read at j.accesses } ∷ [])) w (alone h j.kind j.accesses at)
  agrees_enter os w at j s ne a =
      let o : Open V = record { job = j; left = steps j.accesses; reads = values_read at j.accesses } in
      let v : Values V = complete h os w in
      let all : complete h (os ++ (o ∷ [])) w ≡ runs h j (steps j.accesses) v = complete_append h os (o ∷ []) w in
      let others : All (Elsewhere j.seat) os = elsewhere j.seat os ne in
      let after : ℕ → ℕ → V = (runs h j (steps j.accesses) v).aside in
      record {
        lefts = All-push (Leaves h) os o a.lefts (all_left h j s);
        differ = differ_push os o others a.differ;
        values = ap (λ (u : Values V). u.at) all ∙ whole_writes h j s v ∙ ap (alone h j.kind j.accesses) a.values;
        readings = subst (λ (u : Values V). All (HasRead u.aside) (os ++ (o ∷ []))) (sym all)
            (All-push (HasRead after) os o
            (all_both (Elsewhere j.seat) (HasRead v.aside) (HasRead after) (λ e other read. ap (row 0 (size e.job)) (away h j e.job.seat other (steps j.accesses) v) ∙ read) os others a.readings)
            (whole_reads h j s v ∙ ap (λ (f : ℕ → V). values_read f j.accesses) a.values));
      }

  module _ (pre post : List (Open V)) (w : Values V) (at : ℕ → V) (j : Job) (vs : List V) where
    -- the task with these steps left
    abbrev with-left : List Step → Open V
    with-left ss = record { job = j; left = ss; reads = vs }

    -- the next step of a task, done now, leaves what the steps that are left come to
    step_same : (σ : Step) (ss : List Step) → Each (OutOfTheWay j) pre → Agrees h (pre ++ (with-left (σ ∷ ss) ∷ post)) w at →
        complete h (pre ++ (with-left ss ∷ post)) (done h j σ w) ≡ complete h (pre ++ (with-left (σ ∷ ss) ∷ post)) w
    step_same σ ss free a =
        advance h j σ (all_back (Leaves h) pre (with-left (σ ∷ ss) ∷ post) a.lefts).0.0.own pre post ss vs
        (differ_before pre post (with-left (σ ∷ ss)) a.differ) free (all_front (Leaves h) pre (with-left (σ ∷ ss) ∷ post) a.lefts) w

    -- the next step of a task is done
    agrees_go : (σ : Step) (ss : List Step) → Each (OutOfTheWay j) pre → Agrees h (pre ++ (with-left (σ ∷ ss) ∷ post)) w at →
        Agrees h (pre ++ (with-left ss ∷ post)) (done h j σ w) at
    agrees_go σ ss free a =
        let o : Open V = with-left (σ ∷ ss) in
        let u : Open V = with-left ss in
        let same : complete h (pre ++ (u ∷ post)) (done h j σ w) ≡ complete h (pre ++ (o ∷ post)) w = step_same σ ss free a in
        record {
          lefts = all_change (Leaves h) pre post o u (λ left. left.2) a.lefts;
          differ = differ_change pre post o u refl a.differ;
          values = ap (λ (v : Values V). v.at) same ∙ a.values;
          readings = subst (λ (v : Values V). All (HasRead v.aside) (pre ++ (u ∷ post))) (sym same)
              (all_change (HasRead (complete h (pre ++ (o ∷ post)) w).aside) pre post o u (λ read. read) a.readings);
        }

    -- a task with no step left leaves
    agrees_leave : Agrees h (pre ++ (with-left [] ∷ post)) w at → Agrees h (pre ++ post) w at
    agrees_leave a =
        let o : Open V = with-left [] in
        let same : complete h (pre ++ post) w ≡ complete h (pre ++ (o ∷ post)) w = complete_append h pre post w ∙ sym (complete_append h pre (o ∷ post) w) in
        record {
          lefts = all_without (Leaves h) pre post o a.lefts;
          differ = differ_without pre post o a.differ;
          values = ap (λ (v : Values V). v.at) same ∙ a.values;
          readings = subst (λ (v : Values V). All (HasRead v.aside) (pre ++ post)) (sym same)
              (all_without (HasRead (complete h (pre ++ (o ∷ post)) w).aside) pre post o a.readings);
        }

    -- a bring that may be done next
    module _ (x : Numbered) (p : ℕ) (ss : List Step) (free : Each (OutOfTheWay j) pre) (a : Agrees h (pre ++ (with-left (bring x p ∷ ss) ∷ post)) w at) where
      -- its task, and the values after it
      abbrev o : Open V
      o = with-left (bring x p ∷ ss)

      abbrev brought : Values V
      brought = done h j (bring x p) w

      -- what the steps left to its task are like
      left : Leaves h o
      left = (all_back (Leaves h) pre (o ∷ post) a.lefts).0

      -- it fills its position with the value at the address
      fills : brought.aside j.seat p ≡ w.at x.address
      fills = filled_by h j x p left.0.allowed w

      -- the steps that are left then do not change that position
      stays : (complete h (pre ++ (o ∷ post)) w).aside j.seat p ≡ brought.aside j.seat p
      stays =
          let v : Values V = complete h pre brought in
          ap (λ (u : Values V). u.aside j.seat p) (sym (step_same (bring x p) ss free a) ∙ complete_append h pre (with-left ss ∷ post) brought)
          ∙ ap (λ (f : ℕ → V). f p) (complete_away h j.seat post (differ_behind pre post o a.differ) (runs h j ss v))
          ∙ kept h j p ss left.1 v
          ∙ ap (λ (f : ℕ → V). f p) (complete_away h j.seat pre (differ_before pre post o a.differ) brought)

      -- so the task reads that value there in the one-at-a-time run
      reads_there : nth vs p ≡ Some (w.at x.address)
      reads_there =
          let all : Values V = complete h (pre ++ (o ∷ post)) w in
          ap (λ (us : List V). nth us p) (sym (all_back (HasRead all.aside) pre (o ∷ post) a.readings).0)
          ∙ nth_row (all.aside j.seat) (size j) p left.0.low ∙ ap (λ (v : V). Some v) (stays ∙ fills)

  -- all that is reached
  agrees : (w0 : Values V) (os : List (Open V)) (w : Values V) (at : ℕ → V) → Reached h w0 os w at → Agrees h os w at
  agrees w0 _ _ _ begins = record { lefts = tt; differ = tt; values = refl; readings = tt }
  agrees w0 _ _ _ (enters os w at j s ne r) = agrees_enter os w at j s ne (agrees w0 os w at r)
  agrees w0 _ _ _ (goes pre post w at j σ ss vs free r) = agrees_go pre post w at j vs σ ss free (agrees w0 _ w at r)
  agrees w0 _ _ _ (leaves pre post w at j vs r) = agrees_leave pre post w at j vs (agrees w0 _ w at r)

-- whatever is reached agrees with the one-at-a-time run
pub any_order : {V : Type 0} → AnyOrderIsSerial V
any_order {V} = record {
  values_agree = λ h w0 os w at r none.
      ap (λ (v : Values V). v.at) (sym (complete_none h os w none)) ∙ (agrees h w0 os w at r).values;
  reads_agree = λ h w0 pre post w at j x p ss vs free r.
      let a = agrees h w0 (pre ++ (record { job = j; left = bring x p ∷ ss; reads = vs } ∷ post)) w at r in
      (fills h pre post w at j vs x p ss free a, reads_there h pre post w at j vs x p ss free a);
}
