-- The tables as they are made: no task, and every seat free. Assumes nothing.
use Rattle.std.proofs.Common.{◌≡◌, ℕ, zero, suc, ◌+◌, ◌≤◌, Bool, true, false, not, ◌&&◌, eqb, ltb, [], ◌∷◌, ◌++◌, length, get_or, replicate, vec_len, sym, refl, ap, ◌∙◌, add-zero, arith}
use mathlib.Core.Bool.{and-true}
use Rattle.std.proofs.lemmas.Bool.{both_ways, le-ltb}
use Rattle.std.proofs.lemmas.Bool.Decides.{nat_tests}
use Rattle.roll.specs.Tables.{tally}
use Rattle.roll.specs.Calls.{numbers}
use Rattle.acceptance.specs.Listed.{listed, member}
use Rattle.seat.specs.declared.seats.Seat.{Seat}
use Rattle.seat.specs.declared.Standing.TheVariants.{Free}
use Rattle.tracker.specs.Tracked.{Tracked}
use Rattle.manager.specs.declared.inner.Inner.{Inner}
use Rattle.manager.specs.Lines.{occurrences}
use Rattle.manager.specs.Model.{vacant, seat_at, ready_of, free_of}
use Rattle.manager.specs.Sound.{is_free, is_ready, free_at, ready_at, Sound}
use Rattle.manager.proofs.Occurs.{occurrences_push}

-- one number more
pub numbers_more : (i n : ℕ) → numbers i (suc n) ≡ numbers i n ++ ((i + n) ∷ [])
numbers_more i zero = ap (λ k. k ∷ []) (sym (add-zero i))
numbers_more i (suc n) = let same : suc i + n ≡ i + suc n = omega arith in ap (λ ks. i ∷ ks) (numbers_more (suc i) n ∙ ap (λ k. numbers (suc i) n ++ (k ∷ [])) same)

pub numbers_push : (n : ℕ) → numbers 0 (n + 1) ≡ numbers 0 n ++ (n ∷ [])
numbers_push n =
    let next : n + 1 ≡ suc n = omega arith in
    let same : 0 + n ≡ n = omega arith in
    ap (numbers 0) next ∙ numbers_more 0 n ∙ ap (λ k. numbers 0 n ++ (k ∷ [])) same

-- how many there are
pub length_numbers : (i n : ℕ) → length (numbers i n) ≡ n
length_numbers i zero = refl
length_numbers i (suc n) = ap suc (length_numbers (suc i) n)

-- each number below the end occurs once
pub occurrences_numbers : (s n : ℕ) → occurrences s (numbers 0 n) ≡ tally (ltb s n)
occurrences_numbers s zero = ap tally (sym (le-ltb s 0 (omega arith)))
occurrences_numbers s (suc n) =
    let same : 0 + n ≡ n = omega arith in
    ap (occurrences s) (numbers_more 0 n ∙ ap (λ k. numbers 0 n ++ (k ∷ [])) same) ∙ occurrences_push s (numbers 0 n) n ∙ ap (λ k. k + tally (eqb n s)) (occurrences_numbers s n) ∙ grind (arith, nat_tests)

-- a table of free seats has no other record
pub all_alike : (n s : ℕ) (x : Seat) → x.standing ≡ Free → (get_or (replicate n x) s vacant).standing ≡ Free
all_alike zero s x e = refl
all_alike (suc n) zero x e = e
all_alike (suc n) (suc s) x e = all_alike n s x e

-- the fields agree where every seat is free
module _ (i : Inner) (free : (s : ℕ) → (seat_at i s).standing ≡ Free) where
  all_free : (s : ℕ) → free_at i s ≡ true
  all_free s = ap is_free (free s)

  none_ready : (s : ℕ) → ready_at i s ≡ false
  none_ready s = ap is_ready (free s)

  pub sound_new : vec_len i.table.records ≡ 256 → i.seats ≤ 256 → i.versions ≤ 512 → listed i.order ≡ [] → free_of i ≡ numbers 0 i.seats → ready_of i ≡ [] →
      Tracked i.tracker [] → Sound i
  sound_new full seats versions none line ready tracked = record {
    seated = record {
      full = full;
      few_seats = seats;
      few_versions = versions;
      listed_seats = λ s. ap (member s) none ∙ ap not (sym (all_free s));
      within = λ s taken. absurd (both_ways (free_at i s) taken (all_free s));
      freed = λ s. ap (occurrences s) line ∙ occurrences_numbers s i.seats ∙ ap tally (sym (ap (λ (v : Bool). ltb s i.seats && v) (all_free s) ∙ and-true (ltb s i.seats)));
      lined = λ s. ap (occurrences s) ready ∙ ap tally (sym (none_ready s));
      tracked = rw none tracked;
    };
    waits = λ s taken. absurd (both_ways (free_at i s) taken (all_free s));
  }
