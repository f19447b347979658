-- The numbers of a run of bytes are bytes. Assumes nothing.
use Rattle.std.proofs.Common.{ℕ, suc, ◌+◌, ◌<◌, List, [], ◌∷◌, get_or, drop, get_or-drop}
use Rattle.layout.specs.Agreement.{Bytes}

-- a list that has a byte at every place is one of bytes
all_bytes : (bs : List ℕ) → ((i : ℕ) → get_or bs i 0 < 256) → Bytes bs
all_bytes [] f = tt
all_bytes (b ∷ bs) f = (f 0, all_bytes bs (λ i. f (suc i)))

-- and so are those from a place on
pub bytes_from : (at : ℕ) (bs : List ℕ) → ((i : ℕ) → get_or bs i 0 < 256) → Bytes (drop at bs)
bytes_from at bs f = all_bytes (drop at bs) (λ i. rw get_or-drop (f (at + i)))
