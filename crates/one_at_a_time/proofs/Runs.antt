-- One message more at the end of a run. Assumes nothing.
use Rattle.std.proofs.Common.{◌≡◌, ℕ, ◌+◌, ◌-◌, ◌<◌, List, [], ◌∷◌, ◌++◌, length, drop, sym, refl, ap, ◌∙◌, append_assoc, append-nil, arith, length-append, length-drop}
use Rattle.std.proofs.lemmas.List.{map_push}
use Rattle.host.specs.Meaning.{Fixed, Values}
use Rattle.layout.specs.Layout.{Contents, submits, finishes, layout}
use Rattle.one_at_a_time.specs.Journal.{Line, said, line, after, run, journal, after_all, run_all, stream}
use Rattle.one_at_a_time.specs.Ran.{messages, Next, Progress}

-- a line is that of its message
said_line : {V : Type 0} (h : Fixed V) (m : Contents) (at : ℕ → V) → said (line h m at) ≡ m
said_line h (submits name kind xs) at = refl
said_line h (finishes seat) at = refl

-- the values at the addresses are a part of all values
after_at : {V : Type 0} (h : Fixed V) (m : Contents) (w : Values V) → (after_all h m w).at ≡ after h m w.at
after_at h (submits name kind xs) w = refl
after_at h (finishes seat) w = refl

pub run_at : {V : Type 0} (h : Fixed V) (ms : List Contents) (w : Values V) → (run_all h ms w).at ≡ run h ms w.at
run_at h [] w = refl
run_at h (m ∷ ms) w = run_at h ms (after_all h m w) ∙ ap (run h ms) (after_at h m w)

-- one message more: its bytes, its line, the values after it
stream_push : (ms : List Contents) (m : Contents) → stream (ms ++ (m ∷ [])) ≡ stream ms ++ layout m
stream_push [] m = append-nil (layout m)
stream_push (x ∷ ms) m = ap (λ (bs : List ℕ). layout x ++ bs) (stream_push ms m) ∙ sym (append_assoc (layout x) (stream ms) (layout m))

journal_push : {V : Type 0} (h : Fixed V) (ms : List Contents) (m : Contents) (at : ℕ → V) → journal h (ms ++ (m ∷ [])) at ≡ journal h ms at ++ (line h m (run h ms at) ∷ [])
journal_push h [] m at = refl
journal_push {V} h (x ∷ ms) m at = ap (λ (ls : List (Line V)). line h x at ∷ ls) (journal_push h ms m (after h x at))

run_push : {V : Type 0} (h : Fixed V) (ms : List Contents) (m : Contents) (w : Values V) → run_all h (ms ++ (m ∷ [])) w ≡ after_all h m (run_all h ms w)
run_push h [] m w = refl
run_push h (x ∷ ms) m w = run_push h ms m (after_all h x w)

messages_push : {V : Type 0} (h : Fixed V) (ls : List (Line V)) (m : Contents) (at : ℕ → V) → messages (ls ++ (line h m at ∷ [])) ≡ messages ls ++ (m ∷ [])
messages_push h ls m at = map_push said ls (line h m at) ∙ ap (λ (x : Contents). messages ls ++ (x ∷ [])) (said_line h m at)

-- a message has bytes, so the bytes that are left become fewer
some_bytes : (m : Contents) → 0 < length (layout m)
some_bytes (submits name kind xs) = omega arith
some_bytes (finishes seat) = omega arith

pub fewer_left : {V : Type 0} (h : Fixed V) (bytes : List ℕ) (place place' : ℕ) (ls ls' : List (Line V)) (w w' : Values V) → Next h bytes place place' ls ls' w w' → length bytes - place' < length bytes - place
fewer_left h bytes place place' ls ls' w w' n =
    let some : 0 < length (layout n.message) = some_bytes n.message in
    let long : length bytes - place ≡ length (layout n.message) + (length bytes - place') =
    sym (length-drop place bytes) ∙ ap length n.laid ∙ length-append (layout n.message) (drop place' bytes)
    ∙ ap (λ (k : ℕ). length (layout n.message) + k) (length-drop place' bytes) in
    omega arith

-- one message more is run
pub progress_more : {V : Type 0} (h : Fixed V) (bytes : List ℕ) (place place' : ℕ) (ls ls' : List (Line V)) (w0 w w' : Values V) →
    Progress h bytes place ls w0 w → Next h bytes place place' ls ls' w w' → Progress h bytes place' ls' w0 w'
progress_more {V} h bytes place place' ls ls' w0 w w' p n =
    let m : Contents = n.message in
    let ms : List Contents = messages ls in
    let more : messages ls' ≡ ms ++ (m ∷ []) = ap messages n.lines ∙ messages_push h ls m w.at in
    let bytes-more : stream (messages ls') ≡ stream ms ++ layout m = ap stream more ∙ stream_push ms m in
    let all : w' ≡ run_all h (messages ls') w0 =
    n.values ∙ ap (after_all h m) p.all_values ∙ sym (run_push h ms m w0) ∙ ap (λ (l : List Contents). run_all h l w0) (sym more) in
    record {
      laid =
          p.laid ∙ ap (λ (bs : List ℕ). stream ms ++ bs) n.laid ∙ sym (append_assoc (stream ms) (layout m) (drop place' bytes))
          ∙ ap (λ (bs : List ℕ). bs ++ drop place' bytes) (sym bytes-more);
      moved =
          n.moved ∙ ap (λ (k : ℕ). k + length (layout m)) p.moved ∙ sym (length-append (stream ms) (layout m)) ∙ ap length (sym bytes-more);
      lines =
          n.lines ∙ ap (λ (k : List (Line V)). k ++ (line h m w.at ∷ [])) p.lines ∙ ap (λ (at : ℕ → V). journal h ms w0.at ++ (line h m at ∷ [])) p.values
          ∙ sym (journal_push h ms m w0.at) ∙ ap (λ (l : List Contents). journal h l w0.at) (sym more);
      values = ap (λ (v : Values V). v.at) all ∙ run_at h (messages ls') w0;
      all_values = all;
    }
