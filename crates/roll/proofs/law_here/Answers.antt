use Rattle.roll.proofs.law_here.Goals as goal

-- the law of every host, at this one
pub returns : goal.returns
returns g c = record { law = c.serial_equivalence.ensures.law _ _; value = c.serial_equivalence.ensures.value }
