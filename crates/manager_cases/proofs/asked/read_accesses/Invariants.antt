use Rattle.std.proofs.Common.{◌≤◌, length}
use Rattle.std.specs.Str.Iter.{split_whitespace_rest}
use Rattle.manager_cases.proofs.asked.read_accesses.Given as goal

-- the words that are left are words of those at the start
abbrev pub invariant-loop-word : goal.invariant-loop-word
invariant-loop-word l =
    (goal.iterator-loop-word).can_next l.words × (goal.iterator-loop-word).is_finite l.words
    × (length (split_whitespace_rest l.words) ≤ length (split_whitespace_rest l.initial.words))
