-- One more element in the slots that are in use, and the first taken out. Assumes nothing.
use Rattle.std.proofs.Common.{◌≡◌, ℕ, suc, ◌+◌, ◌-◌, ◌<◌, ◌≤◌, cond, ltb, List, [], ◌∷◌, ◌++◌, length, get_or, set, ap, ◌∙◌, ⊎_elim, refl, subst, add-one, arith}
use Rattle.std.proofs.lemmas.Bool.{cases_lt, lt-ltb, le-ltb}
use Rattle.queue.specs.Contents.{turned, contents, next_slot}
use Rattle.queue.specs.Window.{Within, window_of}
use Rattle.queue.specs.declared.window.Window.{Window}
use Rattle.queue.proofs.Turns.{set_near, set_round, pushed, popped, round_turn, length_contents}

-- an element in the slot behind the last one, before the end of the slots or round it
put_turned : {X : Type 0} (xs : List X) (h n : ℕ) (x : X) → h ≤ length xs → n < length xs → turned (set xs (next_slot (length xs) h n) x) h ≡ set (turned xs h) n x
put_turned xs h n x low few =
    ⊎_elim
    (λ near. rw (lt-ltb n (length xs - h) near) (set_near xs h n x (omega arith)))
    (λ far. rw (le-ltb n (length xs - h) far) (set_round xs h n x low far few))
    (cases_lt n (length xs - h))

push_at : {X : Type 0} (xs : List X) (w v : Window) (at : ℕ) (x : X) → Within w (length xs) → w.len < length xs → at ≡ next_slot (length xs) w.head w.len → v ≡ record { head = w.head; len = w.len + 1 } → window_of v (set xs at x) ≡ window_of w xs ++ (x ∷ [])
push_at xs w v at x within few e f =
    rw (f, e) (pushed xs w.head w.len x (set xs (next_slot (length xs) w.head w.len) x) few (omega arith) (put_turned xs w.head w.len x (omega arith) few))

-- stands at the end, once it is counted
pub window_pushed : {X : Type 0} (xs : List X) (m : ℕ) (w v : Window) (at : ℕ) (x : X) → length xs ≡ m → Within w m → w.len < m → at ≡ next_slot m w.head w.len → v ≡ record { head = w.head; len = w.len + 1 } → window_of v (set xs at x) ≡ window_of w xs ++ (x ∷ [])
window_pushed xs m w v at x long =
    subst (λ (n : ℕ). Within w n → w.len < n → at ≡ next_slot n w.head w.len → v ≡ record { head = w.head; len = w.len + 1 } → window_of v (set xs at x) ≡ window_of w xs ++ (x ∷ [])) long (push_at xs w v at x)

pop_at : {X : Type 0} (xs : List X) (w v : Window) (at : ℕ) (d : X) → Within w (length xs) → 0 < w.len → at ≡ w.head → v ≡ record { head = cond (ltb (at + 1) (length xs)) (at + 1) 0; len = w.len - 1 } → window_of w xs ≡ get_or xs at d ∷ window_of v xs
pop_at xs w v at d within some e f =
    let h = w.head in
    let n = w.len in
    let more : n ≡ suc (n - 1) = omega arith in
    let next : contents xs (suc h) (n - 1) ≡ contents xs (cond (ltb (h + 1) (length xs)) (h + 1) 0) (n - 1) =
    ⊎_elim
    (λ near. rw (lt-ltb (h + 1) (length xs) near, add-one) refl)
    (λ far. rw (le-ltb (h + 1) (length xs) far) (round_turn xs (n - 1) (suc h) (omega arith)))
    (cases_lt (h + 1) (length xs)) in
    rw (f, e) (ap (contents xs h) more ∙ popped xs h (n - 1) d (omega arith) (omega arith) ∙ ap (λ ys. get_or xs h d ∷ ys) next)

-- the first element, and then those from the next slot on
pub window_popped : {X : Type 0} (xs : List X) (m : ℕ) (w v : Window) (at : ℕ) (d : X) → length xs ≡ m → Within w m → 0 < w.len → at ≡ w.head → v ≡ record { head = cond (ltb (at + 1) m) (at + 1) 0; len = w.len - 1 } → window_of w xs ≡ get_or xs at d ∷ window_of v xs
window_popped xs m w v at d long =
    subst (λ (n : ℕ). Within w n → 0 < w.len → at ≡ w.head → v ≡ record { head = cond (ltb (at + 1) n) (at + 1) 0; len = w.len - 1 } → window_of w xs ≡ get_or xs at d ∷ window_of v xs) long (pop_at xs w v at d)

-- there are as many elements as are counted
pub length_window : {X : Type 0} (xs : List X) (m : ℕ) (w : Window) → length xs ≡ m → Within w m → length (window_of w xs) ≡ w.len
length_window xs m w long within = length_contents xs w.head w.len (omega arith) (omega arith)

-- where none is counted there is none
pub window_empty : {X : Type 0} (xs : List X) (w : Window) → w.len ≡ 0 → window_of w xs ≡ []
window_empty xs w e = ap (contents xs w.head) e
