use Rattle.std.proofs.Common.{◌≡◌, ◌≤◌, true, length, refl, ◌∙◌, arith, rules}
use Rattle.task.specs.Task.{accesses_of}
use Rattle.seat.specs.declared.Phase.TheVariants.{Bring, Put}
use Rattle.seat.specs.Phases.{sound_phase}
use Rattle.seat.proofs.Laws.{bring_low, bring_phase-add, put_phase-add, first_sound, bring_sound, put_sound, runs_soundly}
use Rattle.seat.proofs.seats.Seat.on.Goals as goal
use Rattle.seat.proofs.seats.Seat.on.Goals.{in-Free-Entered-true, in-Free-Entered-false, in-Waiting-Unblocked, in-Ready-Taken, in-Running-Bring-Stepped, in-Running-Put-Stepped, in-Running-Done-Finished}

-- no more values have been brought than there are accesses
pub overflow_add-brought : goal.overflow_add-brought
overflow_add-brought c =
    let xs = accesses_of c.args.self.now.task in
    let sound : sound_phase xs (Bring c.in-Running-Bring-Stepped.access c.in-Running-Bring-Stepped.brought) ≡ true = search rules in
    let low = bring_low xs _ _ sound in
    let few : length xs ≤ 15 = search rules in
    omega arith

-- the phase after a sound one is sound
pub invariant_of-self : goal.invariant_of-self
invariant_of-self c =
    let xs = accesses_of c.args.self.now.task in
    let same = c.task-task.ensures in
    elim c.match-self.branch [
      | in-Free-Entered-true w ↦ record { phased = rw w.next-is refl }
      | in-Free-Entered-false w ↦ record { phased = rw w.next-is refl }
      | in-Waiting-Unblocked w ↦ record { phased = rw w.next-is refl }
      | in-Ready-Taken w ↦ record { phased = runs_soundly xs _ _ _ w.next-is (rw same at w.bring_from.ensures) (first_sound xs) }
      | in-Running-Bring-Stepped w ↦
          let i = w.in-Running-Bring-Stepped.access in
          let n = w.in-Running-Bring-Stepped.brought in
          let sound : sound_phase xs (Bring i n) ≡ true = search rules in
          let next = rw same at w.bring_from-in-Running-Bring-Stepped.ensures in
          record { phased = runs_soundly xs _ _ _ w.next-is (next ∙ bring_phase-add xs i n) (bring_sound xs i n sound) }
      | in-Running-Put-Stepped w ↦
          let i = w.in-Running-Put-Stepped.access in
          let n = w.in-Running-Put-Stepped.brought in
          let sound : sound_phase xs (Put i n) ≡ true = search rules in
          record { phased = runs_soundly xs _ _ _ w.next-is (rw same at w.put_from.ensures ∙ put_phase-add xs i n) (put_sound xs i n sound) }
      | in-Running-Done-Finished w ↦ record { phased = rw w.next-is refl }
    ]
