use Rattle.std.proofs.Common.{◌≡◌, ℕ, [], IfOk, Ok, Err, Result, ap}
use Rattle.host.specs.Meaning.{Fixed, Values}
use Rattle.roll.specs.Tables.{Tables, tables}
use Rattle.roll.specs.Calls.{setting, made, numbers}
use Rattle.manager.specs.declared.manager.Manager.{Manager}
use Rattle.manager.specs.Model.{roll_of, ready_of, free_of, tables_of}
use Rattle.manager.specs.Answers.{state_with, setting_with}
use Rattle.runs.proofs.Follows.{all_obey}
use Rattle.runs.proofs.maker.new_manager.Goals as goal

-- a manager without a task and with every seat free is one that was just made
made_state : {E V : Type 0} (r : Result Manager E) (f : Fixed V) (w : Values V) (seats versions : ℕ) → IfOk r (λ m. roll_of m.inner ≡ []) →
    IfOk r (λ m. ready_of m.inner ≡ []) → IfOk r (λ m. free_of m.inner ≡ numbers 0 (tables seats versions).seats) →
    IfOk r (λ m. state_with m w ≡ made (setting f seats versions) w)
made_state (Ok m) f w seats versions roll ready free = rw (roll, ready, free)
made_state (Err e) f w seats versions roll ready free = tt

-- with the tables of these numbers its setting is that of these numbers
made_setting : {E V : Type 0} (r : Result Manager E) (f : Fixed V) (seats versions : ℕ) → IfOk r (λ m. tables_of m.inner ≡ tables seats versions) →
    IfOk r (λ m. setting_with m f ≡ setting f seats versions)
made_setting (Ok m) f seats versions e = ap (λ (z : Tables). record { tables = z; host = f }) e
made_setting (Err e) f seats versions same = tt

pub returns : goal.returns
returns g c =
    let f = g.H.Host.fixed c.args.host.now in
    let w = g.H.Host.values c.args.host.now in
    record {
      state = made_state c.new.result f w c.args.seats c.args.versions c.new.ensures.roll c.new.ensures.ready c.new.ensures.free;
      setting = made_setting c.new.result f c.args.seats c.args.versions c.new.ensures.tables;
      law = all_obey f w c.args.seats c.args.versions;
    }
