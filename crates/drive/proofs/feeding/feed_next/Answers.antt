use Rattle.std.proofs.Common.{◌≡◌, ℕ, drop, refl, ◌∙◌, arith, rules}
use Rattle.std.proofs.lemmas.Result.{err_from_is_err_and}
use Rattle.layout.specs.Reading.{read}
use Rattle.message.specs.Contents.{contents_of}
use Rattle.manager.specs.Answers.{state_with, setting_with}
use Rattle.drive.proofs.Asking.{unread, unasked, accepted}
use Rattle.drive.proofs.feeding.feed_next.Goals as goal

-- the place is there, which is here
along : (p x y : ℕ) → x ≡ y → p ≡ x → p ≡ y
along p x y e same = same ∙ e

-- the bytes are no message
pub returns-in_err-message : goal.returns-in_err-message
returns-in_err-message g c =
    let at = c.args.place.now.at in
    let p = err_from_is_err_and c.from_residual.result c.from_residual.ensures.1 in
    let there = c.new-guard.ensures.place in
    let is = rw there at c.in_err-message.ensures.0 in
    let all = unread (setting_with c.args.manager.now (g.H.Host.fixed c.args.host.now)) (state_with c.args.manager.now (g.H.Host.values c.args.host.now)) at
    (read at (drop at c.args.bytes.now)) c.in_err-message.field-0.0 at is refl in
    rw (p.1, p.2) (record { answer = all.0; after = all.1; tables = refl; place = along _ _ _ all.2 (search rules); refused = λ _. refl })

-- the call is refused
pub returns-in_err-fed : goal.returns-in_err-fed
returns-in_err-fed g c =
    let at = c.args.place.now.at in
    let w = g.H.Host.values c.args.host.now in
    let p = err_from_is_err_and c.from_residual-in_err-fed.result c.from_residual-in_err-fed.ensures.1 in
    let there = c.new-guard.ensures.place in
    let is = rw there at c.in_ok-message.ensures.0 in
    let all = unasked (setting_with c.args.manager.now (g.H.Host.fixed c.args.host.now)) (state_with c.args.manager.now w) at
    (read at (drop at c.args.bytes.now)) (contents_of c.in_ok-message.message) (drop c.read_message.new.place.at c.args.bytes.now)
    (state_with c.ask.new.manager w) c.in_err-fed.field-0.0 at is (c.in_err-fed.ensures.answer, c.ask.ensures.after) refl in
    rw (p.1, p.2)
    (record { answer = all.0; after = all.1; tables = c.ask.ensures.tables; place = along _ _ _ all.2 (search rules); refused = λ _. c.in_err-fed.ensures.refused refl })

pub returns : goal.returns
returns g c =
    let at = c.args.place.now.at in
    let w = g.H.Host.values c.args.host.now in
    let there = c.new-guard.ensures.place in
    let is = rw there at c.in_ok-message.ensures in
    let all = accepted (setting_with c.args.manager.now (g.H.Host.fixed c.args.host.now)) (state_with c.args.manager.now w) at
    (read at (drop at c.args.bytes.now)) (contents_of c.in_ok-message.message) (drop c.read_message.new.place.at c.args.bytes.now)
    (state_with c.ask.new.manager w) c.in_ok-fed.fed c.read_message.new.place.at is.0 (c.in_ok-fed.ensures.answer, c.ask.ensures.after) is.2 in
    record {
      answer = all.0;
      after = all.1;
      tables = c.ask.ensures.tables;
      place = along _ _ _ all.2 (search rules);
      refused = λ e. let z : ◌≡◌ {A = ℕ} 0 1 = cc in absurd (omega arith);
    }
