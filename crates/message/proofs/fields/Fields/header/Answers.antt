use Rattle.std.proofs.Common.{◌≡◌, ℕ, suc, ◌≤◌, List, [], ◌∷◌, length, get_or, drop, ap, ◌∙◌, drop-cons, rules}
use Rattle.std.proofs.lemmas.List.{drop_all}
use Rattle.layout.specs.Reading.{read}
use Rattle.message.proofs.fields.Fields.header.Goals as goal

pub returns-in_default-clause-read : goal.returns-in_default-clause-read
returns-in_default-clause-read c =
    let bytes = c.args.self.now.bytes.now in
    let at = c.args.self.now.place.now.at in
    let short : length bytes ≤ suc at = search rules in
    let one : drop at bytes ≡ get_or bytes at 0 ∷ [] =
    drop-cons bytes at 0 c.requires ∙ ap (λ (bs : List ℕ). get_or bytes at 0 ∷ bs) (drop_all (suc at) bytes short) in
    ap (read at) one ∙ c.one_byte.ensures at
