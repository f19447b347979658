use Rattle.std.proofs.Common.{eqb, ◌∙◌, ap, None, Some, Option, get_or, vec_items, ℕ}
use Rattle.std.specs.Option.{option_eq}
use Rattle.acceptance.proofs.Places.{told}
use Rattle.acceptance.proofs.Acceptance.lists.Goals as goal

pub returns : goal.returns
returns c =
    let a = c.args.self.now in
    c.eq.ensures ∙ ap (λ (x : Option ℕ). option_eq eqb x (Some c.args.seat)) (c.at.ensures.value ∙ ap (λ (k : ℕ). get_or (vec_items a.slots) k None) c.place.ensures.value) ∙ told (vec_items a.slots) (vec_items a.places) a.placed c.args.seat
