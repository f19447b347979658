use Rattle.std.proofs.Common.{◌≡◌, ℕ, Ok, Err, refl, ap, arith}
use Rattle.std.proofs.lemmas.Result.{err_from_is_err_and}
use Rattle.task.specs.Task.{accesses_of}
use Rattle.message.specs.Contents.{contents_of}
use Rattle.manager.specs.Answers.{state_with, setting_with}
use Rattle.drive.proofs.Asking.{submit_asked, finish_asked}
use Rattle.drive.proofs.feeding.ask.Goals as goal

pub returns-in_err-seat-in-Submission : goal.returns-in_err-seat-in-Submission
returns-in_err-seat-in-Submission g c =
    let w = g.H.Host.values c.args.host.now in
    let m = setting_with c.args.manager.now (g.H.Host.fixed c.args.host.now) in
    let task = c.in-Submission.task in
    let p = err_from_is_err_and c.from_residual.result c.from_residual.ensures.1 in
    let all = submit_asked m (state_with c.args.manager.now w) (state_with c.submit.new.self w) (contents_of c.args.message) task.name task.kind (accesses_of task)
    c.accesses.result.now (Err c.in_err-seat-in-Submission.field-0.0) (ap contents_of c.in-Submission.is) c.accesses.ensures c.in_err-seat-in-Submission.ensures.answer c.submit.ensures.after in
    rw (p.1, p.2) (record { answer = all.0; after = all.1; tables = c.submit.ensures.tables; refused = λ _. c.in_err-seat-in-Submission.ensures.refused refl })

pub returns-in_ok-seat-in-Submission : goal.returns-in_ok-seat-in-Submission
returns-in_ok-seat-in-Submission g c =
    let w = g.H.Host.values c.args.host.now in
    let m = setting_with c.args.manager.now (g.H.Host.fixed c.args.host.now) in
    let task = c.in-Submission.task in
    let all = submit_asked m (state_with c.args.manager.now w) (state_with c.submit.new.self w) (contents_of c.args.message) task.name task.kind (accesses_of task)
    c.accesses.result.now (Ok c.in_ok-seat-in-Submission.seat) (ap contents_of c.in-Submission.is) c.accesses.ensures c.in_ok-seat-in-Submission.ensures.answer c.submit.ensures.after in
    record {
      answer = all.0;
      after = all.1;
      tables = c.submit.ensures.tables;
      refused = λ e. let z : ◌≡◌ {A = ℕ} 0 1 = cc in absurd (omega arith);
    }

pub returns-in_err-woken-in-Finish : goal.returns-in_err-woken-in-Finish
returns-in_err-woken-in-Finish g c =
    let p = err_from_is_err_and c.from_residual-in_err-woken-in-Finish.result c.from_residual-in_err-woken-in-Finish.ensures.1 in
    let all = finish_asked c.args.manager.now c.finish.new.self (g.H.Host.fixed c.args.host.now) (g.H.Host.values c.args.host.now) (contents_of c.args.message)
    c.in-Finish.seat (Err c.in_err-woken-in-Finish.field-0.0) (ap contents_of c.in-Finish.is) c.in_err-woken-in-Finish.ensures.answer c.finish.ensures.after in
    rw (p.1, p.2) (record { answer = all.0; after = all.1; tables = c.finish.ensures.tables; refused = λ _. c.in_err-woken-in-Finish.ensures.refused refl })

pub returns-in_ok-woken-in-Finish : goal.returns-in_ok-woken-in-Finish
returns-in_ok-woken-in-Finish g c =
    let all = finish_asked c.args.manager.now c.finish.new.self (g.H.Host.fixed c.args.host.now) (g.H.Host.values c.args.host.now) (contents_of c.args.message)
    c.in-Finish.seat (Ok c.in_ok-woken-in-Finish.woken) (ap contents_of c.in-Finish.is) c.in_ok-woken-in-Finish.ensures.answer c.finish.ensures.after in
    record {
      answer = all.0;
      after = all.1;
      tables = c.finish.ensures.tables;
      refused = λ e. let z : ◌≡◌ {A = ℕ} 0 1 = cc in absurd (omega arith);
    }
