-- What a message asks for, and what is made of the answer. Assumes nothing.
use Rattle.std.proofs.Common.{◌≡◌, ℕ, ◌+◌, List, length, Ok, Err, Result, sym, refl, ap, ◌∙◌, subst}
use Rattle.fault.specs.declared.StreamFault.{StreamFault}
use Rattle.fault.specs.declared.ManagerFault.{ManagerFault}
use Rattle.fault.specs.declared.Cause.{Cause}
use Rattle.fault.specs.declared.Cause.TheVariants.{Stream, Manager}
use Rattle.task.specs.declared.Access.{Access}
use Rattle.host.specs.Meaning.{Fixed, Values}
use Rattle.layout.specs.Layout.{Contents, submits, finishes, layout}
use Rattle.layout.specs.Reading.{Read}
use Rattle.roll.specs.Calls.{Setting, State, submit, finish, Outcome, refused, succeeded, perform}
use Rattle.roll.specs.Built.{left_by, state_after, finish_answer, asked, feed_calls, fed_from, feed_from, moved_past, place_from}
use Rattle.manager.specs.declared.manager.Manager as managers
use Rattle.manager.specs.Answers.{submit_answer, state_with, setting_with, state_alone, setting_alone}
use Rattle.drive.specs.declared.fed.Fed.{Fed}
use Rattle.drive.specs.declared.fed.Fed.TheVariants.{Submitted, Finished}
use Rattle.drive.specs.declared.fed.FeedFault.{FeedFault}
use Rattle.drive.specs.Feeding.{feed_result, cause_result, asked_result}
use Rattle.drive.proofs.Beside.{finish_says, finish_leaves}
use Rattle.drive.proofs.Running.{ok_err}

-- the answer of a submit, and of a finish, as feed's own
abbrev pub by_submit : Result ℕ ManagerFault → Result Fed ManagerFault
by_submit (Ok seat) = Ok (Submitted seat)
by_submit (Err fault) = Err fault

abbrev pub by_finish : Result ℕ ManagerFault → Result Fed ManagerFault
by_finish (Ok woken) = Ok (Finished woken)
by_finish (Err fault) = Err fault

submit_said : {V : Type 0} (o : Outcome V) (name kind : ℕ) (xs : List Access) → by_submit (submit_answer o) ≡ asked_result (submits name kind xs) o
submit_said (refused fault) name kind xs = refl
submit_said (succeeded r) name kind xs = refl

finish_said : {V : Type 0} (o : Outcome V) (s : ℕ) → by_finish (finish_answer o) ≡ asked_result (finishes s) o
finish_said (refused fault) s = refl
finish_said (succeeded r) s = refl

-- a call was made for a message: its answer, and the state that it leaves
abbrev pub Asked : {V : Type 0} → Setting V → State V → State V → Contents → Result Fed ManagerFault → Type 0
Asked m b d x r = (r ≡ asked_result x (perform m b (asked x))) × (d ≡ left_by b (perform m b (asked x)))

-- the submit of a submission
pub submit_asked : {V : Type 0} (m : Setting V) (b d : State V) (x : Contents) (name kind : ℕ) (xs ys : List Access) (r : Result ℕ ManagerFault) →
    x ≡ submits name kind xs → ys ≡ xs → r ≡ submit_answer (perform m b (submit name kind ys)) → d ≡ left_by b (perform m b (submit name kind ys)) → Asked m b d x (by_submit r)
submit_asked m b d x name kind xs ys r is same said left =
    let o = perform m b (submit name kind ys) in
    let there : submits name kind ys ≡ x = ap (λ (zs : List Access). submits name kind zs) same ∙ sym is in (
      ap by_submit said ∙ submit_said o name kind ys ∙ ap (λ (y : Contents). asked_result y (perform m b (asked y))) there,
      left ∙ ap (λ (y : Contents). left_by b (perform m b (asked y))) there,
    )

-- the finish of a finish notice
pub finish_asked : {V : Type 0} (k k' : managers.Manager) (h : Fixed V) (w : Values V) (x : Contents) (s : ℕ) (r : Result ℕ ManagerFault) → x ≡ finishes s →
    r ≡ finish_answer (perform (setting_alone k) (state_alone k) (finish s)) → state_alone k' ≡ left_by (state_alone k) (perform (setting_alone k) (state_alone k) (finish s)) →
    Asked (setting_with k h) (state_with k w) (state_with k' w) x (by_finish r)
finish_asked {V} k k' h w x s r is said left =
    let m : Setting V = setting_with k h in
    let b : State V = state_with k w in (
      ap by_finish (finish_says w (state_alone k) (setting_alone k) m s r said) ∙ finish_said (perform m b (finish s)) s
          ∙ ap (λ (y : Contents). asked_result y (perform m b (asked y))) (sym is),
      finish_leaves w (state_alone k) (setting_alone k) m s (state_alone k') left ∙ ap (λ (y : Contents). left_by b (perform m b (asked y))) (sym is),
    )

-- the refusal of a call as a cause
abbrev by_cause : Result Fed ManagerFault → Result Fed Cause
by_cause (Ok fed) = Ok fed
by_cause (Err fault) = Err (Manager fault)

caused : {V : Type 0} (place : ℕ) (x : Contents) (o : Outcome V) → by_cause (asked_result x o) ≡ cause_result (fed_from place x o)
caused place x (refused fault) = refl
caused place x (succeeded r) = refl

-- the place moves behind the message where the call succeeds, and only there
stays : {V : Type 0} (place : ℕ) (x : Contents) (o : Outcome V) (fault : ManagerFault) → Err fault ≡ asked_result x o → place ≡ moved_past place x o
stays place x (refused f) fault p = refl
stays place x (succeeded r) fault p = absurd (ok_err _ fault (sym p))

moves : {V : Type 0} (place : ℕ) (x : Contents) (o : Outcome V) (fed : Fed) → Ok fed ≡ asked_result x o → place + length (layout x) ≡ moved_past place x o
moves place x (refused f) fed p = absurd (ok_err fed f p)
moves place x (succeeded r) fed p = refl

-- a message was fed: the answer without the place, the state that is left, and the place behind
abbrev pub Feeds : {V : Type 0} → Setting V → State V → ℕ → Read Contents → Result Fed Cause → State V → ℕ → Type 0
Feeds m b place read r d after = (r ≡ cause_result (feed_from m b place read)) × (d ≡ state_after m b (feed_calls read)) × (after ≡ place_from m b place read)

module _ {V : Type 0} (m : Setting V) (b : State V) (place : ℕ) (read : Read Contents) where
  -- where the bytes are no message
  pub unread : (fault : StreamFault) (after : ℕ) → read ≡ Err fault → after ≡ place → Feeds m b place read (Err (Stream fault)) b after
  unread fault after is back = subst (λ (x : Read Contents). Feeds m b place x (Err (Stream fault)) b after) (sym is) (refl, refl, back)

  -- where the call is refused
  pub unasked : (x : Contents) (rest : List ℕ) (d : State V) (fault : ManagerFault) (after : ℕ) → read ≡ Ok (x, rest) → Asked m b d x (Err fault) → after ≡ place →
      Feeds m b place read (Err (Manager fault)) d after
  unasked x rest d fault after is made back =
      subst (λ (y : Read Contents). Feeds m b place y (Err (Manager fault)) d after) (sym is)
      (ap by_cause made.0 ∙ caused place x (perform m b (asked x)), made.1, back ∙ stays place x (perform m b (asked x)) fault made.0)

  -- where it succeeds
  pub accepted : (x : Contents) (rest : List ℕ) (d : State V) (fed : Fed) (after : ℕ) → read ≡ Ok (x, rest) → Asked m b d x (Ok fed) → after ≡ place + length (layout x) →
      Feeds m b place read (Ok fed) d after
  accepted x rest d fed after is made moved =
      subst (λ (y : Read Contents). Feeds m b place y (Ok fed) d after) (sym is)
      (ap by_cause made.0 ∙ caused place x (perform m b (asked x)), made.1, moved ∙ moves place x (perform m b (asked x)) fed made.0)

-- the place beside the cause
abbrev pub with_place : ℕ → Result Fed Cause → Result Fed FeedFault
with_place place (Ok fed) = Ok fed
with_place place (Err cause) = Err (record { place = place; cause = cause })

placed : {V : Type 0} (m : Setting V) (b : State V) (place : ℕ) (x : Read Contents) → with_place place (cause_result (feed_from m b place x)) ≡ feed_result (feed_from m b place x)
placed m b place (Err fault) = refl
placed {V} m b place (Ok p) = go (perform m b (asked p.0))
  where
    go : (o : Outcome V) → with_place place (cause_result (fed_from place p.0 o)) ≡ feed_result (fed_from place p.0 o)
    go (refused fault) = refl
    go (succeeded r) = refl

-- feed's own answer
pub answered : {V : Type 0} (m : Setting V) (b : State V) (place : ℕ) (x : Read Contents) (r : Result Fed Cause) →
    r ≡ cause_result (feed_from m b place x) → with_place place r ≡ feed_result (feed_from m b place x)
answered m b place x r said = ap (with_place place) said ∙ placed m b place x
