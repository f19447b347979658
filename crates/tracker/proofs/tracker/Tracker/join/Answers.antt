use Rattle.std.proofs.Common.{◌≡◌, Bool, ◌||◌, sym, ap, ◌∙◌, subst}
use Rattle.task.specs.Access.{writes}
use Rattle.tracker.specs.Table.{Joined}
use Rattle.tracker.specs.declared.ways.AddressTable.{AddressTable}
use Rattle.tracker.proofs.Tracking.{joinable, tracked_join}
use Rattle.tracker.proofs.tracker.Tracker.join.Goals as goal

-- a way is always found
pub returns-in_default : goal.returns-in_default
returns-in_default c v ys k out short room fits =
    absurd (joinable c.args.self.now v c.args.seat ys c.args.access (λ M. ⊥) k out room c.in_default.ensures)

-- and claimed
pub returns : goal.returns
returns c v ys k out short room fits =
    let t = c.args.self.now in
    let t' = c.count.new.self in
    let s = c.args.seat in
    let x = c.args.access in
    let r = c.in-Some.claimed in
    let wr : c.writes-writes.result ≡ writes x = c.writes-writes.ensures in
    let version : c.takes_version-version.result ≡ (writes x || r.fresh) = c.takes_version-version.ensures ∙ ap (λ b. b || r.fresh) wr in
    tracked_join t t' v s ys x r c.takes_version-version.result k out short room fits
    (λ M table few size.
    subst (λ (w : AddressTable). Joined t.table w M x.address (record { seat = s; writes = writes x }) r) (sym c.count.ensures.table)
    (subst (λ (b : Bool). Joined t.table c.claim.new.self M x.address (record { seat = s; writes = b }) r) c.writes-writes.ensures
    (c.in-Some.ensures M table few size)))
    version c.count.ensures.versions c.count.ensures.waiting
