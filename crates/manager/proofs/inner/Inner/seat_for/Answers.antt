use Rattle.std.proofs.Common.{◌≡◌, ℕ, true, eqb, [], ◌∷◌, Err, Option, sym, ap, ◌∙◌}
use Rattle.std.specs.Option.{ok_or}
use Rattle.std.proofs.lemmas.Bool.{eq-eqb, or_left, or_right}
use Rattle.std.proofs.lemmas.Result.{err_from_is_err_and}
use Rattle.fault.specs.declared.TableFault.{TableFault}
use Rattle.fault.specs.declared.TableFault.TheVariants.{NoFreeSeat}
use Rattle.roll.specs.Tables.{never_fits}
use Rattle.claims.specs.Queues.{bares}
use Rattle.tracker.specs.Tracked.{unless}
use Rattle.manager.specs.Model.{tables_of, roll_of, free_of}
use Rattle.manager.proofs.Fits.{stall_bares, fits_from, refuses_never, refuses_free, refuses_stall, gives_seat}
use Rattle.manager.proofs.inner.Inner.seat_for.Goals as goal
use Rattle.manager.proofs.inner.Inner.seat_for.Goals.{then-self-eq0-via-then-self-eq0, then-self-eq0-via-else-self-eq0+then-never_fits}

-- there is no seat, or the task is too large for the tables
pub returns-then-self-eq0 : goal.returns-then-self-eq0
returns-then-self-eq0 c =
    let i = c.args.self.now in
    let xs = c.args.accesses.now in
    let v = bares (roll_of i) in
    let tracked = c.requires.sound.seated.tracked in
    let never : never_fits (tables_of i) xs ≡ true = elim c.then-self-eq0.branch [
      | then-self-eq0-via-then-self-eq0 w ↦ let none = eq-eqb i.seats 0 w.if-self-eq0.true in or_left (eqb i.seats 0) _ none
      | then-self-eq0-via-else-self-eq0+then-never_fits w ↦ or_right (eqb i.seats 0) _ (sym w.never_fits.ensures ∙ w.if-never_fits.true)
    ] in
    refuses_never (tables_of i) (roll_of i) (free_of i) xs never

-- every seat is taken
pub returns-in_err-seat : goal.returns-in_err-seat
returns-in_err-seat c =
    let i = c.args.self.now in
    let xs = c.args.accesses.now in
    let p = err_from_is_err_and c.from_residual.result c.from_residual.ensures.1 in
    let large = sym c.never_fits.ensures ∙ c.if-never_fits.false in
    let none = c.in_err-seat.ensures.value ∙ ap (λ (o : Option ℕ). ok_or o NoFreeSeat) c.first.ensures in
    p.1 ∙ ap (λ (f : TableFault). Err f) p.2
    ∙ refuses_free (tables_of i) (roll_of i) (free_of i) xs c.in_err-seat.field-0.0 (fits_from (tables_of i) xs c.if-self-eq0.false large) none

-- the tables have no room now
pub returns-in_err-stall : goal.returns-in_err-stall
returns-in_err-stall c =
    let i = c.args.self.now in
    let xs = c.args.accesses.now in
    let v = bares (roll_of i) in
    let p = err_from_is_err_and c.from_residual-in_err-stall.result c.from_residual-in_err-stall.ensures.1 in
    let large = sym c.never_fits.ensures ∙ c.if-never_fits.false in
    let first = c.in_ok-seat.ensures.value ∙ ap (λ (o : Option ℕ). ok_or o NoFreeSeat) c.first.ensures in
    let stop = c.in_err-stall.ensures v c.requires.sound.seated.tracked c.requires.few ∙ sym (ap unless (stall_bares (tables_of i) (roll_of i) (0 ∷ []) xs)) in
    p.1 ∙ ap (λ (f : TableFault). Err f) p.2
    ∙ refuses_stall (tables_of i) (roll_of i) (free_of i) xs c.in_ok-seat.seat c.in_err-stall.field-0.0 (fits_from (tables_of i) xs c.if-self-eq0.false large) first stop

-- the first free seat
pub returns : goal.returns
returns c =
    let i = c.args.self.now in
    let xs = c.args.accesses.now in
    let v = bares (roll_of i) in
    let large = sym c.never_fits.ensures ∙ c.if-never_fits.false in
    let first = c.in_ok-seat.ensures.value ∙ ap (λ (o : Option ℕ). ok_or o NoFreeSeat) c.first.ensures in
    let goes = c.in_ok-stall.ensures v c.requires.sound.seated.tracked c.requires.few ∙ sym (ap unless (stall_bares (tables_of i) (roll_of i) (0 ∷ []) xs)) in
    gives_seat (tables_of i) (roll_of i) (free_of i) xs c.in_ok-seat.seat (fits_from (tables_of i) xs c.if-self-eq0.false large) first goes
