-- A slot that is written past the last element, and the head that moves on. Assumes nothing.
use Rattle.std.proofs.Common.{◌≡◌, ℕ, suc, ◌+◌, ◌-◌, ◌<◌, ◌≤◌, List, [], ◌∷◌, ◌++◌, length, get_or, take, drop, set, sym, ap, ◌∙◌, append_assoc, append-nil, arith, length-append, length-drop, length-take, take_all, drop-cons, take-suc, drop-set-lt}
use lib.Seq.{take-set-le, take-set-lt, drop-set-add, set-append_left, take-append-le}
use Rattle.std.proofs.lemmas.List.{set-append_right, take_more_set, drop_all}
use Rattle.queue.specs.Contents.{turned, contents}

pub length_turned : {X : Type 0} (xs : List X) (h : ℕ) → h ≤ length xs → length (turned xs h) ≡ length xs
length_turned xs h le = simp (length-append, length-drop, length-take) (omega arith)

-- the place is before the end of the slots
pub set_near : {X : Type 0} (xs : List X) (h n : ℕ) (x : X) → h + n < length xs → turned (set xs (h + n) x) h ≡ set (turned xs h) n x
set_near xs h n x lt =
    let long : n < length (drop h xs) = simp length-drop (omega arith) in
    let le : h ≤ h + n = omega arith in
    rw (drop-set-add, take-set-le h xs (h + n) x le) (sym (set-append_left (drop h xs) (take h xs) n x long))

-- the place is round the end
pub set_round : {X : Type 0} (xs : List X) (h n : ℕ) (x : X) → h ≤ length xs → length xs - h ≤ n → n < length xs → turned (set xs (n - (length xs - h)) x) h ≡ set (turned xs h) n x
set_round xs h n x le far lt =
    let before : n - (length xs - h) < h = omega arith in
    let long : length (drop h xs) ≡ length xs - h = length-drop h xs in
    rw (drop-set-lt h xs (n - (length xs - h)) x before, take-set-lt h xs (n - (length xs - h)) x before) (sym (set-append_right (drop h xs) (take h xs) (length xs - h) n x long far))

pub pushed : {X : Type 0} (xs : List X) (h n : ℕ) (x : X) (ys : List X) → n < length xs → h ≤ length xs → turned ys h ≡ set (turned xs h) n x → contents ys h (n + 1) ≡ contents xs h n ++ (x ∷ [])
pushed xs h n x ys lt le e =
    let long : n < length (turned xs h) = rw (length_turned xs h le) lt in
    ap (take (n + 1)) e ∙ take_more_set (turned xs h) n x long

-- the head moves on by one, or round the end
pub popped : {X : Type 0} (xs : List X) (h n : ℕ) (d : X) → h < length xs → n < length xs → contents xs h (suc n) ≡ get_or xs h d ∷ contents xs (suc h) n
popped xs h n d lt few =
    let room : n ≤ length (drop (suc h) xs ++ take h xs) = simp (length-append, length-drop, length-take) (omega arith) in
    let rest : contents xs (suc h) n ≡ take n (drop (suc h) xs ++ take h xs) =
    ap (λ (ys : List _). take n (drop (suc h) xs ++ ys)) (take-suc xs h d lt) ∙ ap (take n) (sym (append_assoc (drop (suc h) xs) (take h xs) (get_or xs h d ∷ []))) ∙ take-append-le n (drop (suc h) xs ++ take h xs) (get_or xs h d ∷ []) room in
    ap (λ (ys : List _). take (suc n) (ys ++ take h xs)) (drop-cons xs h d lt) ∙ ap (λ (ys : List _). get_or xs h d ∷ ys) (sym rest)

pub round_turn : {X : Type 0} (xs : List X) (n h : ℕ) → length xs ≤ h → contents xs h n ≡ contents xs 0 n
round_turn xs n h e = ap (take n) (ap (λ (ys : List _). ys ++ take h xs) (drop_all h xs e) ∙ take_all h xs e ∙ sym (append-nil xs))

pub length_contents : {X : Type 0} (xs : List X) (h n : ℕ) → h ≤ length xs → n ≤ length xs → length (contents xs h n) ≡ n
length_contents xs h n le few = simp (length-take, length-append, length-drop) (omega arith)
