use Rattle.std.proofs.Common.{◌≡◌, ℕ, List, [], ◌∷◌, ◌++◌, map, vec_items, drop, Ok, refl, sym, ap, ◌∙◌, subst, rules}
use Rattle.std.proofs.lemmas.List.{map_push}
use Rattle.message.specs.Contents.{contents_of}
use Rattle.one_at_a_time.specs.Journal.{Line}
use Rattle.one_at_a_time.specs.Ran.{line_of, lines_of, NotTaken, Ended, Next}
use Rattle.one_at_a_time.specs.declared.journal.End.{End}
use Rattle.one_at_a_time.specs.declared.journal.End.TheVariants.{Refused, OutOfMemory}
use Rattle.fault.specs.declared.Cause.TheVariants.{Stream, Manager}
use Rattle.host.specs.Meaning.{Fixed, Values}
use Rattle.layout.specs.Layout.{Contents}
use Rattle.layout.specs.Reading.{read}
use Rattle.std.proofs.lemmas.Result.{err_from_is_err_and}
use Rattle.one_at_a_time.specs.declared.journal.Entry.{Entry}
use Rattle.one_at_a_time.proofs.stream.run_next.Goals as goal

-- a message that is not taken ends the run at its place
ended : {V : Type 0} (h : Fixed V) (bytes : List ℕ) (place : ℕ) (m : Contents) (rest : List ℕ) (e : End) → read place (drop place bytes) ≡ Ok (m, rest) → NotTaken h m e → Ended h bytes place e
ended h bytes place m rest (Refused (Stream fault)) is not = absurd not
ended h bytes place m rest (Refused (Manager fault)) is not = (m, rest, is, not)
ended h bytes place m rest OutOfMemory is not = (m, rest, is)

-- one message more, where the place p is behind it
next_to : {V : Type 0} (h : Fixed V) (bytes : List ℕ) (at after p : ℕ) (ls ls' : List (Line V)) (w w' : Values V) → Next h bytes at after ls ls' w w' → p ≡ after → Next h bytes at p ls ls' w w'
next_to h bytes at after p ls ls' w w' n same = subst (λ (q : ℕ). Next h bytes at q ls ls' w w') (sym same) n

pub returns-in_err-reserve-clause-cases : goal.returns-in_err-reserve-clause-cases
returns-in_err-reserve-clause-cases g c =
    let p = err_from_is_err_and c.from_residual-in_err-reserve.result c.from_residual-in_err-reserve.ensures.1 in
    let there = c.new-guard.ensures.place in
    let is = rw there at c.in_ok-message.ensures.0 in
    rw (p.1, p.2) ((contents_of c.in_ok-message.message, _, is), search rules, c.reserve.ensures.items, refl)

pub returns-in_err-entry-clause-cases : goal.returns-in_err-entry-clause-cases
returns-in_err-entry-clause-cases g c =
    let p = err_from_is_err_and c.from_residual-in_err-entry.result c.from_residual-in_err-entry.ensures.1 in
    let there = c.new-guard.ensures.place in
    let is = rw there at c.in_ok-message.ensures.0 in
    rw (p.1, p.2) (
      ended (g.H.Host.fixed c.args.host.now) c.args.bytes.now c.args.place.now.at (contents_of c.in_ok-message.message) _ c.in_err-entry.field-0.0 is c.in_err-entry.ensures.cases.0,
      search rules,
      c.reserve.ensures.items,
      c.in_err-entry.ensures.cases.1,
    )

pub returns : goal.returns
returns g c =
    let V = g.row.H-Value.Denot in
    let h = g.H.Host.fixed c.args.host.now in
    let w = g.H.Host.values c.args.host.now in
    let w' = g.H.Host.values c.entry_of.new.host in
    let bytes = c.args.bytes.now in
    let at = c.args.place.now.at in
    let after = c.read_message.new.place.at in
    let ls : List (Line V) = lines_of (vec_items c.args.entries.now) in
    let ls' : List (Line V) = lines_of (vec_items c.push_reserved.new.self) in
    let there = c.new-guard.ensures.place in
    let n : Next h bytes at after ls ls' w w' = record {
      message = contents_of c.in_ok-message.message;
      laid = rw there at c.in_ok-message.ensures.1;
      moved = rw there at c.in_ok-message.ensures.2;
      lines =
          ap (map line_of) (c.push_reserved.ensures.items ∙ ap (λ (es : List (Entry V)). es ++ (c.in_ok-entry.entry ∷ [])) c.reserve.ensures.items)
          ∙ map_push line_of (vec_items c.args.entries.now) c.in_ok-entry.entry ∙ ap (λ (l : Line V). ls ++ (l ∷ [])) c.in_ok-entry.ensures.cases.0;
      values = c.in_ok-entry.ensures.cases.1;
    } in
    record {
      fixed = c.entry_of.ensures.fixed;
      cases = next_to h bytes at after _ ls ls' w w' n (search rules);
    }
