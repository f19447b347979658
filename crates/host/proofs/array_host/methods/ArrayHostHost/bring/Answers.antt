use Rattle.std.proofs.Common.{◌≡◌, ◌/◌, ◌<◌, true, length, vec_items, rules}
use Rattle.std.proofs.lemmas.List.{get_or_read}
use Rattle.host.specs.ArrayHost.{fixed_of, values_of}
use Rattle.host.proofs.Changes.{brought_is}
use Rattle.host.proofs.array_host.methods.ArrayHostHost.bring.Goals as goal

pub returns-in-Some-clause-values : goal.returns-in-Some-clause-values
returns-in-Some-clause-values g c =
    let h = fixed_of c.args.self.now in
    let w = values_of c.args.self.now in
    let held : h.held c.args.address ≡ true = search rules in
    let low : c.args.address / g.W.Work.STEP < length (vec_items c.args.self.now.values) = search rules in
    let read : c.index.result.now ≡ w.at c.args.address = rw held (search (rules, get_or_read)) in
    brought_is h w _ c.args.address c.args.seat c.args.position _ held read (c.set.ensures g.W.Work.blank)
