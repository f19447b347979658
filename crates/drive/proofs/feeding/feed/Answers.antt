use Rattle.std.proofs.Common.{◌≡◌, ℕ, drop, Ok, Err, Result, MatchResult, ap, ◌∙◌, rules}
use Rattle.std.specs.Result.{IsErrAnd}
use Rattle.std.proofs.lemmas.Result.{err_from_is_err_and}
use Rattle.fault.specs.declared.Cause.{Cause}
use Rattle.layout.specs.Reading.{read}
use Rattle.manager.specs.Answers.{state_with, setting_with}
use Rattle.drive.specs.declared.fed.Fed.{Fed}
use Rattle.drive.specs.declared.fed.FeedFault.{FeedFault}
use Rattle.drive.proofs.Asking.{with_place, answered}
use Rattle.drive.proofs.feeding.feed.Goals as goal

-- an answer whose cause has got the place beside it
mapped : (place : ℕ) (gives : Cause → FeedFault → Type 0) (r : Result Fed Cause) (r' : Result Fed FeedFault) → MatchResult r (λ x. r' ≡ Ok x) (λ e. IsErrAnd r' (gives e)) →
    ((e : Cause) (f : FeedFault) → gives e f → f ≡ record { place = place; cause = e }) → r' ≡ with_place place r
mapped place gives (Ok x) r' cases f = cases
mapped place gives (Err e) r' cases f = let p = err_from_is_err_and r' cases in p.1 ∙ ap (λ (d : FeedFault). Err d) (f e p.0 p.2)

pub returns-clause-answer : goal.returns-clause-answer
returns-clause-answer g c =
    let at = c.args.reader.now.place.at in
    mapped at _ c.feed_next.result c.map_err.result c.map_err.ensures.cases (λ e f h. search rules)
    ∙ answered (setting_with c.args.manager.now (g.H.Host.fixed c.args.host.now)) (state_with c.args.manager.now (g.H.Host.values c.args.host.now)) at
    (read at (drop at c.args.reader.now.bytes.now)) c.feed_next.result c.feed_next.ensures.answer
