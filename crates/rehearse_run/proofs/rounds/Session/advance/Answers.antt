use Rattle.std.proofs.Common.{◌≡◌, ℕ, vec_items, sym, refl, ap, ◌∙◌, subst}
use Rattle.fault.specs.Numbers.{cause_number}
use Rattle.roll.specs.Built.{feed_answer}
use Rattle.manager.specs.declared.manager.Manager.{Manager}
use Rattle.manager.specs.Answers.{state_with, setting_with}
use Rattle.stamp_host.specs.Stamps.{fixed_of, values_of}
use Rattle.rehearse_run.specs.declared.rounds.Next.{Next}
use Rattle.rehearse_run.specs.Rounds.{lines_of, Answered, Goes}
use Rattle.rehearse_run.specs.Session.{setting_at, state_at, lines_at}
use Rattle.roll.proofs.Parts.{same_setting}
use Rattle.rehearse_run.proofs.Going.{made_more, fed_not, place_stays, goes_fed, goes_refused}
use Rattle.rehearse_run.proofs.rounds.Session.advance.Goals as goal

pub returns-in_ok-note_fed-in-Ok : goal.returns-in_ok-note_fed-in-Ok
returns-in_ok-note_fed-in-Ok c =
    let s = c.args.self.now in
    record {
      goes = goes_fed (setting_at s) c.args.reader.now.bytes.now c.args.reader.now.place.at (state_at s) (lines_at s) c.in-Ok.fed c.in-Ok.ensures.answer
          c.feed.new.reader.place.at c.feed.ensures.place (state_with c.feed.new.manager (values_of s.host)) c.feed.ensures.after
          (lines_of (vec_items c.note_fed.new.lines)) c.in_ok-note_fed-in-Ok.ensures;
      bytes = c.feed.ensures.bytes;
      setting = same_setting c.feed.ensures.tables refl;
    }

pub returns-in-Err : goal.returns-in-Err
returns-in-Err c =
    let s = c.args.self.now in
    let h = fixed_of s.host in
    let w = values_of s.host in
    let bytes = c.args.reader.now.bytes.now in
    let place = c.args.reader.now.place.at in
    let t = c.refused.new.self in
    let why = fed_not (feed_answer (setting_at s) (state_at s) bytes place) c.in-Err.fault c.in-Err.ensures.answer in
    let same : c.feed.new.manager ≡ s.manager = c.in-Err.ensures.refused refl in
    let stay : c.feed.new.reader.place.at ≡ place = c.feed.ensures.place ∙ place_stays (setting_at s) (state_at s) bytes place why.0 why.1 in
    let number : cause_number c.in-Err.fault.cause ≡ cause_number why.0.cause = ap cause_number (sym why.2) in
    record {
      goes = made_more c.refused.result c.refused.ensures.answered (λ (next : Next) a.
          let here : Answered (setting_at s) (cause_number c.in-Err.fault.cause) (state_at s) (lines_at s) next (state_at t) (lines_at t) =
          subst (λ (x : Manager). Answered (setting_with x h) (cause_number c.in-Err.fault.cause) (state_with x w) (lines_at s) next (state_at t) (lines_at t)) same a in
          let by : Answered (setting_at s) (cause_number why.0.cause) (state_at s) (lines_at s) next (state_at t) (lines_at t) =
          subst (λ (x : ℕ). Answered (setting_at s) x (state_at s) (lines_at s) next (state_at t) (lines_at t)) number here in
          subst (λ (x : ℕ). Goes (setting_at s) bytes place (state_at s) (lines_at s) next x (state_at t) (lines_at t)) (sym stay)
          (goes_refused (setting_at s) bytes place (state_at s) (lines_at s) why.0 why.1 next (state_at t) (lines_at t) by));
      bytes = c.feed.ensures.bytes;
      setting = c.refused.ensures.setting ∙ same_setting c.feed.ensures.tables refl;
    }
