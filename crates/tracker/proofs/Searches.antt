-- The ways of a set, one after the other, and the way of an address. Assumes nothing.
use Rattle.std.proofs.Common.{◌≡◌, ℕ, ◌+◌, ◌*◌, ◌%◌, ◌<◌, List, length, get_or, map, Some, None, Option, MatchOption, sym, ap, ◌∙◌, subst, arith}
use Rattle.std.specs.List.{range_with_len, HoldsAt, AllWithin}
use Rattle.std.proofs.lemmas.List.FromFn.{get_or-map-range_with_len}
use Rattle.tracker.specs.State.{state_of}
use Rattle.tracker.specs.Table.{Absent, Found, Full, Free, Placed, lock_at}
use Rattle.tracker.specs.declared.ways.AddressTable.{AddressTable}
use Rattle.tracker.specs.declared.ways.Way.{Way}
use Rattle.tracker.proofs.Tables.{found_placed, free_placed}

-- the numbers of the ways of a set
abbrev pub ways_of : ℕ → List ℕ
ways_of s = map (λ k. s + 64 * k) (range_with_len 0 8)

-- what a search through the ways of a set finds
abbrev pub FirstWay : (ℕ → Type 0) → (ℕ → Type 0) → ℕ → Option Way → Type 0
FirstWay Yes No s r =
    MatchOption r (AllWithin No (ways_of s) 0 (length (ways_of s)))
    (λ x. Yes x.number × (i : ℕ) × (i < length (ways_of s)) × HoldsAt (λ y. y ≡ x.number) (ways_of s) i × AllWithin No (ways_of s) 0 i)

-- way k of a set
way_is : (s k d : ℕ) → k < 8 → get_or (ways_of s) k d ≡ s + 64 * k
way_is s k d lt = get_or-map-range_with_len (λ k. s + 64 * k) 0 8 k k d lt (omega arith)

-- a way of the set of an address leaves that remainder
way_home : (a s n i : ℕ) → s ≡ a % 64 → i < 8 → s + 64 * i ≡ n → n % 64 ≡ a % 64
way_home a s n i e lt at = omega arith

-- each way, if none passed; else one that did, of the same set
pub first_way : (Yes No : ℕ → Type 0) (a s : ℕ) (r : Option Way) → s ≡ a % 64 → FirstWay Yes No s r →
    MatchOption r ((k : ℕ) → k < 8 → No (a % 64 + 64 * k)) (λ w. (w.number % 64 ≡ a % 64) × Yes w.number)
first_way Yes No a s None e none = λ k lt. subst No (way_is s k 0 lt ∙ ap (λ n. n + 64 * k) e) (none k 0 (omega arith) lt)
first_way Yes No a s (Some w) e some =
    (way_home a s w.number some.1 e some.2 (sym (way_is s some.1 0 some.2) ∙ some.3 0), some.0)

-- a way that is not live, with what its type says of it
pub free_way : (w : AddressTable) (a : ℕ) (r : Option Way) →
    MatchOption r (Full w a) (λ x. (x.number % 64 ≡ a % 64) × ((state_of (lock_at w x.number)).holders ≡ 0)) → MatchOption r (Full w a) (λ x. Free w a x.number)
free_way w a None f = f
free_way w a (Some x) f = (x.low, f.0, f.1)

-- the way of an address, or else one that is not live
pub place_way : (w : AddressTable) (a : ℕ) (o r : Option Way) (P : Type 0) →
    MatchOption o (Absent w a) (λ x. (x.number % 64 ≡ a % 64) × Found w a x.number) → MatchOption o P (λ x. r ≡ Some x) →
    (P → MatchOption r (Full w a) (λ x. Free w a x.number)) → MatchOption r (Absent w a × Full w a) (λ x. Placed w a x.number)
place_way w a (Some x) r P f e v =
    subst (λ (q : Option Way). MatchOption q (Absent w a × Full w a) (λ x. Placed w a x.number)) (sym e) (found_placed w a x.number x.low f.0 f.1)
place_way w a None r P f p v = both r (v p)
  where
    both : (r : Option Way) → MatchOption r (Full w a) (λ x. Free w a x.number) → MatchOption r (Absent w a × Full w a) (λ x. Placed w a x.number)
    both None g = (f, g)
    both (Some x) g = free_placed w a x.number f g
