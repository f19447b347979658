-- What a change of the standing of one seat's entry, and its removal, leave of what holds of each entry, of the seats, the ready tasks
-- and the length of the roll. Assumes nothing.
use Rattle.std.proofs.Common.{◌≡◌, ℕ, suc, ◌+◌, ◌≤◌, eqb, ◌∷◌, ◌++◌, length, sym, ap, ◌∙◌, subst, arith, length-append}
use Rattle.std.specs.List.{AllByRecursion as All}
use Rattle.std.proofs.ByRecursion.{All-append}
use Rattle.host.specs.Meaning.{update}
use Rattle.order.proofs.Update.{update_here, update_other}
use Rattle.order.proofs.Opens.{all_front, all_back, all_both}
use Rattle.roll.specs.Roll.{Standing, Entry, Roll, stand, change, without}
use Rattle.roll.specs.Tables.{tally}
use Rattle.roll.proofs.Split.{Elsewhere, Split, count, count-++, once_itself, seats_of, seats-++, count_none}
use Rattle.roll.proofs.Keeps.{if_ready, readies, count_readies-++}
use Rattle.roll.proofs.Owed.{due, Paid}

module _ {s : ℕ} {k : Entry} {roll : Roll} (r : Split s k roll) where
  -- what holds of each entry holds of the one that was found
  pub all_found : (P : Entry → Type 0) → All P roll → P k
  all_found P h = (all_back P r.pre (k ∷ r.post) (subst (All P) r.is h)).0

  -- and of the others
  pub all_without : (P : Entry → Type 0) → All P roll → All P (without s roll)
  all_without P h =
      let g : All P (r.pre ++ (k ∷ r.post)) = subst (All P) r.is h in
      subst (All P) (sym r.removed) (All-append P r.pre r.post (all_front P r.pre (k ∷ r.post) g) (all_back P r.pre (k ∷ r.post) g).1)

  -- how often a seat is an entry's: before, with another standing, and after the removal
  pub seats_split : (x : ℕ) → count x (seats_of roll) ≡ count x (seats_of r.pre) + (tally (eqb k.job.seat x) + count x (seats_of r.post))
  seats_split x =
      ap (λ (es : Roll). count x (seats_of es)) r.is ∙ ap (count x) (seats-++ r.pre (k ∷ r.post)) ∙ count-++ x (seats_of r.pre) (seats_of (k ∷ r.post))

  pub seats_changed : (st : Standing) (x : ℕ) → count x (seats_of (change s st roll)) ≡ count x (seats_of roll)
  seats_changed st x =
      ap (λ (es : Roll). count x (seats_of es)) (r.changed st) ∙ ap (count x) (seats-++ r.pre (stand st k ∷ r.post)) ∙ count-++ x (seats_of r.pre) (seats_of (k ∷ r.post))
      ∙ sym (seats_split x)

  pub seats_removed : (x : ℕ) → count x (seats_of (without s roll)) ≡ count x (seats_of r.pre) + count x (seats_of r.post)
  seats_removed x =
      ap (λ (es : Roll). count x (seats_of es)) r.removed ∙ ap (count x) (seats-++ r.pre r.post) ∙ count-++ x (seats_of r.pre) (seats_of r.post)

  -- how often a seat is a ready entry's, likewise
  pub readies_split : (x : ℕ) → count x (readies roll) ≡ count x (readies r.pre) + (count x (if_ready k.standing k.job.seat) + count x (readies r.post))
  readies_split x =
      ap (λ (es : Roll). count x (readies es)) r.is ∙ count_readies-++ x r.pre (k ∷ r.post)
      ∙ ap (λ (n : ℕ). count x (readies r.pre) + n) (count-++ x (if_ready k.standing k.job.seat) (readies r.post))

  pub readies_changed : (st : Standing) (x : ℕ) → count x (readies (change s st roll)) ≡ count x (readies r.pre) + (count x (if_ready st k.job.seat) + count x (readies r.post))
  readies_changed st x =
      ap (λ (es : Roll). count x (readies es)) (r.changed st) ∙ count_readies-++ x r.pre (stand st k ∷ r.post)
      ∙ ap (λ (n : ℕ). count x (readies r.pre) + n) (count-++ x (if_ready st k.job.seat) (readies r.post))

  pub readies_removed : (x : ℕ) → count x (readies (without s roll)) ≡ count x (readies r.pre) + count x (readies r.post)
  readies_removed x = ap (λ (es : Roll). count x (readies es)) r.removed ∙ count_readies-++ x r.pre r.post

  -- how many entries there are, likewise
  length_split : length roll ≡ length r.pre + suc (length r.post)
  length_split = ap (λ (es : Roll). length es) r.is ∙ length-append r.pre (k ∷ r.post)

  pub length_changed : (st : Standing) → length (change s st roll) ≡ length roll
  length_changed st = ap (λ (es : Roll). length es) (r.changed st) ∙ length-append r.pre (stand st k ∷ r.post) ∙ sym length_split

  pub length_removed : suc (length (without s roll)) ≡ length roll
  length_removed = omega (arith, ap (λ (es : Roll). length es) r.removed, length-append r.pre r.post, length_split)

  -- where a seat is one entry's at most, the entries behind that one have other seats
  post_elsewhere : count s (seats_of roll) ≤ 1 → All (Elsewhere s) r.post
  post_elsewhere le = count_none s r.post (omega (arith, seats_split s, ap (λ (x : ℕ). tally (eqb x s)) r.sits_there, once_itself s))

  -- so what a change makes of that entry, and what is so of those of other seats, holds of each entry afterwards
  pub all_changed : (P Q : Entry → Type 0) (st : Standing) → count s (seats_of roll) ≤ 1 → ((e : Entry) → Elsewhere s e → P e → Q e) → (P k → Q (stand st k)) → All P roll → All Q (change s st roll)
  all_changed P Q st le other f h =
      let g : All P (r.pre ++ (k ∷ r.post)) = subst (All P) r.is h in
      let b : All P (k ∷ r.post) = all_back P r.pre (k ∷ r.post) g in
      subst (All Q) (sym (r.changed st))
      (All-append Q r.pre (stand st k ∷ r.post) (all_both (Elsewhere s) P Q other r.pre r.others (all_front P r.pre (k ∷ r.post) g))
      (f b.0, all_both (Elsewhere s) P Q other r.post (post_elsewhere le) b.1))

  -- where one more take or step has succeeded, and one call less is due
  pub paid_changed : (spent : ℕ → ℕ) (st : Standing) → count s (seats_of roll) ≤ 1 → due k.job.accesses k.standing ≡ suc (due k.job.accesses st) →
      All (Paid spent) roll → All (Paid (update spent s (suc (spent s)))) (change s st roll)
  paid_changed spent st le less h =
      let more : ℕ → ℕ = update spent s (suc (spent s)) in
      let here : more k.job.seat ≡ suc (spent k.job.seat) = subst (λ (x : ℕ). more x ≡ suc (spent x)) (sym r.sits_there) (update_here spent s (suc (spent s))) in
      all_changed (Paid spent) (Paid more) st le
      (λ e ne p. omega (arith, p, update_other spent s (suc (spent s)) e.job.seat ne)) (λ p. omega (arith, p, less, here)) h
