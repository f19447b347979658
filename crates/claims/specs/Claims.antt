-- The claims on one address in order of acceptance, and what they come to: how many hold the address, whether they write, who waits.
-- A claim is an access to one address, by the seat whose task makes it. Assumes nothing.
--
--   against, stuck, claims      a claim that conflicts with earlier ones; how many of a seat do; how many a seat has
--   State, canon                how many hold an address now, whether they write, and who waits; what a queue of claims comes to
--   joined_by, released         one more claim; a holder leaves
--   promotes, moves, settled    the first that waits becomes a holder, and all that may do
--   freed                       the versions that fall free when a holder leaves
use Rattle.std.specs.Prelude.{ℕ, zero, suc, ◌+◌, ◌-◌, Bool, true, false, cond, not, ◌&&◌, ◌||◌, List, [], ◌∷◌, ◌++◌, Some, None, Option, ◌==◌}
use Rattle.roll.specs.Tables.{tally}
use Rattle.claims.specs.declared.Claim.{Claim}

-- a claim that writes, or does not, conflicts with one of these on the same address
abbrev pub against : Bool → List Claim → Bool
against w [] = false
against w (c ∷ cs) = (w || c.writes) || against w cs

-- how many claims of a seat conflict with an earlier one; the earlier ones are handed over the latest first
abbrev pub stuck : List Claim → ℕ → List Claim → ℕ
stuck earlier t [] = 0
stuck earlier t (c ∷ cs) = tally (c.seat == t && against c.writes earlier) + stuck (c ∷ earlier) t cs

-- how many claims are a seat's
abbrev pub claims : ℕ → List Claim → ℕ
claims t [] = 0
claims t (c ∷ cs) = tally (c.seat == t) + claims t cs

-- one address: how many claims hold it now, whether they write, and the claims that wait, first in first
pub record State : Type 0 where
  pub holders : ℕ
  pub writing : Bool
  pub waiting : List Claim

-- nobody holds it, and nobody waits
abbrev pub vacant : State
vacant = record { holders = 0; writing = false; waiting = [] }

-- neither of the two writes
abbrev pub neither : Bool → Bool → Bool
neither true w = false
neither false w = not w

-- may a claim hold the address beside n holders that write, or do not?
abbrev pub may : ℕ → Bool → Bool → Bool
may zero wr w = true
may (suc n) wr w = neither wr w

-- n holders, and claims that wait: the first of them hold the address too, as long as they may
abbrev pub settle : ℕ → Bool → List Claim → State
settle n wr [] = record { holders = n; writing = wr; waiting = [] }
settle n wr (c ∷ cs) = cond (may n wr c.writes) (settle (suc n) c.writes cs) (record { holders = n; writing = wr; waiting = c ∷ cs })

-- what a queue of claims comes to
abbrev pub canon : List Claim → State
canon q = settle 0 false q

-- is the list empty?
abbrev pub nobody : List Claim → Bool
nobody [] = true
nobody (c ∷ cs) = false

-- may one more claim hold at once?
abbrev pub open_to : State → Bool → Bool
open_to st w = nobody st.waiting && may st.holders st.writing w

-- one more claim: it holds the address if it may, and else waits as the last
abbrev pub joined_by : State → Claim → State
joined_by st c =
    cond (open_to st c.writes)
    (record { holders = suc st.holders; writing = c.writes; waiting = st.waiting })
    (record { holders = st.holders; writing = st.writing; waiting = st.waiting ++ (c ∷ []) })

-- one less, and 0 stays 0
abbrev pub less : ℕ → ℕ
less zero = zero
less (suc n) = n

-- a holder leaves, and all that may hold the address then do
abbrev pub released : State → State
released st = settle (less st.holders) false st.waiting

-- the seat of the first claim that waits, if it may hold the address beside n holders
abbrev pub first_may : ℕ → Bool → List Claim → Option ℕ
first_may n wr [] = None
first_may n wr (c ∷ cs) = cond (may n wr c.writes) (Some c.seat) None

-- the first claim that waits becomes a holder, if it may
abbrev pub first_moves : ℕ → Bool → List Claim → State
first_moves n wr [] = record { holders = n; writing = wr; waiting = [] }
first_moves n wr (c ∷ cs) =
    cond (may n wr c.writes) (record { holders = suc n; writing = c.writes; waiting = cs }) (record { holders = n; writing = wr; waiting = c ∷ cs })

-- whose claim is the next to hold, if any; the address when it does
abbrev pub promotes : State → Option ℕ
promotes st = first_may st.holders st.writing st.waiting

abbrev pub moves : State → State
moves st = first_moves st.holders st.writing st.waiting

-- a holder leaves, and no claim that waits has become a holder yet
abbrev pub dropped : State → State
dropped st = record { holders = st.holders - 1; writing = false; waiting = st.waiting }

-- all that may hold the address do
abbrev pub settled : State → State
settled st = settle st.holders st.writing st.waiting

-- is the number 1?
abbrev pub lone : ℕ → Bool
lone zero = false
lone (suc zero) = true
lone (suc (suc n)) = false

-- is the first claim that waits a reader's?
abbrev pub reader_next : List Claim → Bool
reader_next [] = false
reader_next (c ∷ q) = not c.writes

-- how many versions fall free when a holder leaves: one if it is the last holder and no reader is the next
abbrev pub freed : State → ℕ
freed st = tally (lone st.holders && not (reader_next st.waiting))
