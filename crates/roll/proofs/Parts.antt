-- Settings from their parts, and calls in two lists. Assumes nothing.
use Rattle.std.proofs.Common.{◌≡◌, List, [], ◌∷◌, ◌++◌, refl, ap, ◌∙◌}
use Rattle.host.specs.Meaning.{Fixed}
use Rattle.roll.specs.Tables.{Tables}
use Rattle.roll.specs.Calls.{Call, Setting, State, perform}
use Rattle.roll.specs.Built.{left_by, state_after}

-- settings with the same tables and the same host are the same
pub same_setting : {V : Type 0} {t u : Tables} {h k : Fixed V} → t ≡ u → h ≡ k → ◌≡◌ {A = Setting V} (record { tables = t; host = h }) (record { tables = u; host = k })
same_setting {V} {t} {u} {h} {k} p q =
    ap (λ (x : Tables). record { tables = x; host = h }) p ∙ ap (λ (x : Fixed V). record { tables = u; host = x }) q

-- calls one list behind another
pub after-++ : {V : Type 0} (m : Setting V) (b : State V) (cs ds : List Call) → state_after m b (cs ++ ds) ≡ state_after m (state_after m b cs) ds
after-++ m b [] ds = refl
after-++ m b (c ∷ cs) ds = after-++ m (left_by b (perform m b c)) cs ds
