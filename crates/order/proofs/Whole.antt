-- All steps of one task, from its first, read and write what the task reads and writes when it runs alone. Assumes nothing.
use Rattle.std.proofs.Common.{◌≡◌, ℕ, zero, suc, ◌+◌, ◌<◌, true, false, eqb, List, [], ◌∷◌, ◌++◌, map, length, Some, sym, refl, ap, ◌∙◌, ap₂, zero-add, arith}
use Rattle.std.specs.List.{AllByRecursion as All}
use Rattle.std.proofs.lemmas.Bool.{ne_eqb, cond-true}
use Rattle.task.specs.Access.{Numbered, readers, writers}
use Rattle.host.specs.Meaning.{Fixed, Values, update, row}
use Rattle.one_at_a_time.specs.Alone.{values_read, written, alone}
use Rattle.order.specs.Steps.{Step, bring, put, brings, puts, steps, Job, done}
use Rattle.order.specs.Order.{Open, nth, Sound}
use Rattle.order.proofs.Update.{eqb_flip, update_here, update_other}
use Rattle.order.proofs.Commute.{size, may, change, step_keeps}
use Rattle.order.proofs.Left.{Above, Left, all_left}
use Rattle.order.proofs.Complete.{Elsewhere, runs, complete}

-- the elements of a row
nth_row_from : {V : Type 0} (f : ℕ → V) (q n p : ℕ) → p < n → nth (row q n f) p ≡ Some (f (q + p))
nth_row_from f q zero p lt = absurd (omega arith)
nth_row_from f q (suc n) zero lt = ap (λ (m : ℕ). Some (f m)) (omega arith)
nth_row_from f q (suc n) (suc p) lt = nth_row_from f (suc q) n p (omega arith) ∙ ap (λ (m : ℕ). Some (f m)) (omega arith)

pub nth_row : {V : Type 0} (f : ℕ → V) (n p : ℕ) → p < n → nth (row 0 n f) p ≡ Some (f p)
nth_row f n p lt = nth_row_from f 0 n p lt ∙ ap (λ (m : ℕ). Some (f m)) (zero-add p)

module _ {V : Type 0} (h : Fixed V) where
  -- a change leaves what is held aside for other seats
  change_away : (j : Job) (s : ℕ) → eqb s j.seat ≡ false → (σ : Step) (w : Values V) → (change h j σ w).aside s ≡ w.aside s
  change_away j s ne (bring x p) w = update_other w.aside j.seat (update (w.aside j.seat) p (w.at x.address)) s ne
  change_away j s ne (put x) w = refl

  -- and so do the steps of a task
  pub away : (j : Job) (s : ℕ) → eqb s j.seat ≡ false → (ss : List Step) (w : Values V) → (runs h j ss w).aside s ≡ w.aside s
  away j s ne [] w = refl
  away j s ne (σ ∷ ss) w = away j s ne ss (done h j σ w) ∙ step_keeps h (λ (v : Values V). v.aside s) j σ w (change_away j s ne σ w)

  -- and so do the steps left to tasks of other seats
  pub complete_away : (s : ℕ) (os : List (Open V)) → All (Elsewhere s) os → (w : Values V) → (complete h os w).aside s ≡ w.aside s
  complete_away s [] ne w = refl
  complete_away s (o ∷ os) ne w =
      complete_away s os ne.1 (runs h o.job o.left w) ∙ away o.job s (eqb_flip o.job.seat s ne.0) o.left w

  module _ (j : Job) where
    -- what is held aside for the task's seat
    abbrev own-seat : Values V → ℕ → V
    own-seat w = w.aside j.seat

    -- a bring changes its seat at its position
    bring_fills : (x : Numbered) (p : ℕ) (w : Values V) → (change h j (bring x p) w).aside j.seat ≡ update (own-seat w) p (w.at x.address)
    bring_fills x p w = update_here w.aside j.seat (update (own-seat w) p (w.at x.address))

    -- a bring that the host does fills its position
    pub filled_by : (x : Numbered) (p : ℕ) → may h j (bring x p) ≡ true → (w : Values V) → (done h j (bring x p) w).aside j.seat p ≡ w.at x.address
    filled_by x p allowed w =
        ap (λ (v : Values V). own-seat v p) (cond-true (may h j (bring x p)) (change h j (bring x p) w) w allowed)
        ∙ ap (λ (f : ℕ → V). f p) (bring_fills x p w) ∙ update_here (own-seat w) p (w.at x.address)

    -- a step leaves the positions of its seat below the one that it fills
    change_keeps : (q : ℕ) (σ : Step) → Above q σ → (w : Values V) → own-seat (change h j σ w) q ≡ own-seat w q
    change_keeps q (bring x p) lt w = ap (λ (f : ℕ → V). f q) (bring_fills x p w) ∙ update_other (own-seat w) p (w.at x.address) q (ne_eqb q p (λ e. omega arith))
    change_keeps q (put x) lt w = refl

    -- and so do several steps
    pub kept : (q : ℕ) (ss : List Step) → All (Above q) ss → (w : Values V) → own-seat (runs h j ss w) q ≡ own-seat w q
    kept q [] above w = refl
    kept q (σ ∷ ss) above w = kept q ss above.1 (done h j σ w) ∙ step_keeps h (λ (v : Values V). own-seat v q) j σ w (change_keeps q σ above.0 w)

    -- a bring leaves the values at the addresses
    bring_at : (x : Numbered) (p : ℕ) (w : Values V) → (done h j (bring x p) w).at ≡ w.at
    bring_at x p w = step_keeps h (λ (v : Values V). v.at) j (bring x p) w refl

    -- puts leave what is held aside
    puts_aside : (ws : List Numbered) (w : Values V) → (runs h j (puts ws) w).aside ≡ w.aside
    puts_aside [] w = refl
    puts_aside (x ∷ ws) w = puts_aside ws (done h j (put x) w) ∙ step_keeps h (λ (v : Values V). v.aside) j (put x) w refl

    -- after brings and puts the positions hold the values that were brought
    steps_fill : (p : ℕ) (rs ws : List Numbered) → Left h j (brings p rs ++ puts ws) → (w : Values V) →
        row p (length rs) (own-seat (runs h j (brings p rs ++ puts ws) w)) ≡ map (λ (x : Numbered). w.at x.address) rs
    steps_fill p [] ws left w = refl
    steps_fill p (x ∷ rs) ws left w =
        ap₂ (λ (v : V) (vs : List V). v ∷ vs)
        (kept p (brings (suc p) rs ++ puts ws) left.1 (done h j (bring x p) w) ∙ filled_by x p left.0.allowed w)
        (steps_fill (suc p) rs ws left.2 (done h j (bring x p) w) ∙ ap (λ (at : ℕ → V). map (λ (x : Numbered). at x.address) rs) (bring_at x p w))

    -- puts write by the values that are held aside
    puts_write : (ws : List Numbered) → Left h j (puts ws) → (w : Values V) → (runs h j (puts ws) w).at ≡ written h j.kind (row 0 (size j) (own-seat w)) ws w.at
    puts_write [] left w = refl
    puts_write (x ∷ ws) left w =
        ap (λ (v : Values V). (runs h j (puts ws) v).at) (cond-true (may h j (put x)) (change h j (put x) w) w left.0.allowed) ∙ puts_write ws left.2 (change h j (put x) w)

    -- and so do brings and puts
    steps_write : (p : ℕ) (rs ws : List Numbered) → Left h j (brings p rs ++ puts ws) → (w : Values V) →
        (runs h j (brings p rs ++ puts ws) w).at ≡ written h j.kind (row 0 (size j) (own-seat (runs h j (brings p rs ++ puts ws) w))) ws w.at
    steps_write p [] ws left w =
        puts_write ws left w ∙ ap (λ (f : ℕ → ℕ → V). written h j.kind (row 0 (size j) (f j.seat)) ws w.at) (sym (puts_aside ws w))
    steps_write p (x ∷ rs) ws left w =
        steps_write (suc p) rs ws left.2 (done h j (bring x p) w)
        ∙ ap (written h j.kind (row 0 (size j) (own-seat (runs h j (brings p (x ∷ rs) ++ puts ws) w))) ws) (bring_at x p w)

    module _ (s : Sound h j) (w : Values V) where
      -- all steps of a sound task read what it reads alone
      pub whole_reads : row 0 (size j) (own-seat (runs h j (steps j.accesses) w)) ≡ values_read w.at j.accesses
      whole_reads = steps_fill 0 (readers j.accesses) (writers j.accesses) (all_left h j s) w

      -- and write what it writes alone
      pub whole_writes : (runs h j (steps j.accesses) w).at ≡ alone h j.kind j.accesses w.at
      whole_writes =
          steps_write 0 (readers j.accesses) (writers j.accesses) (all_left h j s) w
          ∙ ap (λ (vs : List V). written h j.kind vs (writers j.accesses) w.at) whole_reads
