-- Bytes from the values of digits, two for each. Assumes nothing.
use Rattle.std.proofs.Common.{◌≡◌, ℕ, suc, ◌+◌, ◌*◌, ◌/◌, ◌<◌, ◌≤◌, true, cond, List, [], ◌∷◌, ◌++◌, length, take, drop, get_or, Option, Some, None, is_some, Ok, sym, refl, ap, ◌∙◌, arith, append_assoc, append-nil, length-take}
use Rattle.std.specs.List.{All, AllPass, filter_map, cons_option}
use Rattle.std.proofs.lemmas.List.{drop_more, drop_all}
use Rattle.std.proofs.lemmas.List.Elements.{All-nil, All-cons, All-head, All-tail, filter_passes}
use Rattle.hex.specs.Hex.{hex_digit_value, is_hex_digit, decode_of, decode_pairs, pair_value}
use Rattle.hex.proofs.Pairs.{cons_byte, decode_pairs-ok_pair}
use Rattle.hex.proofs.HexLemmas.{decode_of-even}
use Rattle.cases.specs.Hexadecimal.{digits, whole_pairs}

-- the values of the digits of a text
abbrev pub values : List ℕ → List ℕ
values text = filter_map hex_digit_value text

-- a byte for two values, and none for a last one alone
abbrev pub pairs : List ℕ → List ℕ
pairs [] = []
pairs (value ∷ []) = []
pairs (high ∷ low ∷ rest) = (high * 16 + low) ∷ pairs rest

-- after n values there are these bytes, and this value that has no second yet
pub record Paired (all : List ℕ) (n : ℕ) (bytes : List ℕ) (high : Option ℕ) : Type 0 where
  pub small : (h : ℕ) → high ≡ Some h → h < 16
  left : pairs all ≡ bytes ++ pairs (cons_option high (drop n all))

pub paired_none : (all : List ℕ) → Paired all 0 [] None
paired_none all = record { small = λ h e. cc e; left = refl }

-- a value without a second
pub paired_high : (all : List ℕ) (n : ℕ) (bytes : List ℕ) (d : ℕ) → Paired all n bytes None → n < length all → d ≡ get_or all n d → d < 16
    → Paired all (n + 1) bytes (Some d)
paired_high all n bytes d p lt is fits =
    record {
      small = λ h e. grind (arith);
      left = p.left ∙ ap (λ (l : List ℕ). bytes ++ pairs l) (drop_more all n d lt ∙ ap (λ (v : ℕ). v ∷ drop (n + 1) all) (sym is));
    }

-- a second value
pub paired_low : (all : List ℕ) (n : ℕ) (bytes : List ℕ) (h d : ℕ) → Paired all n bytes (Some h) → n < length all → d ≡ get_or all n d
    → Paired all (n + 1) (bytes ++ (h * 16 + d) ∷ []) None
paired_low all n bytes h d p lt is =
    record {
      small = λ k e. cc e;
      left =
          p.left ∙ ap (λ (l : List ℕ). bytes ++ pairs (h ∷ l)) (drop_more all n d lt ∙ ap (λ (v : ℕ). v ∷ drop (n + 1) all) (sym is))
          ∙ sym (append_assoc bytes ((h * 16 + d) ∷ []) (pairs (drop (n + 1) all)));
    }

-- a last value alone makes no byte
pairs_alone : (high : Option ℕ) → pairs (cons_option high []) ≡ []
pairs_alone None = refl
pairs_alone (Some h) = refl

-- no value is left
pub paired_all : (all : List ℕ) (n : ℕ) (bytes : List ℕ) (high : Option ℕ) → Paired all n bytes high → length all ≤ n → pairs all ≡ bytes
paired_all all n bytes high p end =
    p.left ∙ ap (λ (l : List ℕ). bytes ++ pairs (cons_option high l)) (drop_all n all end) ∙ ap (λ (l : List ℕ). bytes ++ l) (pairs_alone high)
    ∙ append-nil bytes

-- the value of a digit fits four bits
value_fits : (c v : ℕ) → hex_digit_value c ≡ Some v → v < 16
value_fits c v is = grind (arith)

fits_behind : (o : Option ℕ) (vs : List ℕ) → ((v : ℕ) → o ≡ Some v → v < 16) → All (λ v. v < 16) vs → All (λ v. v < 16) (cons_option o vs)
fits_behind None vs h all = all
fits_behind (Some v) vs h all = All-cons (λ v. v < 16) v vs (h v refl) all

pub values_fit : (text : List ℕ) → All (λ v. v < 16) (values text)
values_fit [] = All-nil (λ v. v < 16)
values_fit (c ∷ text) = fits_behind (hex_digit_value c) (values text) (value_fits c) (values_fit text)

-- the other characters have no value
same_behind : (c : ℕ) (rest : List ℕ) (o : Option ℕ) → hex_digit_value c ≡ o → values (cond (is_some o) (c ∷ rest) rest) ≡ cons_option o (values rest)
same_behind c rest None is = refl
same_behind c rest (Some v) is = ap (λ (o : Option ℕ). cons_option o (values rest)) is

values_of_digits : (text : List ℕ) → values (digits text) ≡ values text
values_of_digits [] = refl
values_of_digits (c ∷ text) = same_behind c (digits text) (hex_digit_value c) refl ∙ ap (cons_option (hex_digit_value c)) (values_of_digits text)

value_there : (o : Option ℕ) → is_some o ≡ true → (v : ℕ) × (o ≡ Some v)
value_there (Some v) h = (v, refl)
value_there None h = cc h

one_pair : (i a b : ℕ) (front rest : List ℕ) (high low : ℕ) → hex_digit_value a ≡ Some high → hex_digit_value b ≡ Some low
    → decode_pairs (i + 2) front ≡ Ok (pairs (values rest)) → decode_pairs i (a ∷ b ∷ front) ≡ Ok (pairs (values (a ∷ b ∷ rest)))
one_pair i a b front rest high low is_high is_low left =
    let pair : pair_value a b i ≡ Ok (high * 16 + low) = rw (is_high, is_low) refl in
    decode_pairs-ok_pair i a b _ front pair ∙ ap (cons_byte (high * 16 + low)) left ∙ rw (is_high, is_low) refl

-- pairs of digits decode to the bytes of their values
decoded_pairs : (i : ℕ) (ds : List ℕ) → AllPass is_hex_digit ds → decode_pairs i (whole_pairs ds) ≡ Ok (pairs (values ds))
unfolding decode_pairs
decoded_pairs i [] h = refl
decoded_pairs i (a ∷ []) h = ap Ok (sym (pairs_alone (hex_digit_value a)))
decoded_pairs i (a ∷ b ∷ rest) h =
    let tail = All-tail (λ c. is_hex_digit c ≡ true) a (b ∷ rest) h in
    let high = value_there (hex_digit_value a) (All-head (λ c. is_hex_digit c ≡ true) a (b ∷ rest) h) in
    let low = value_there (hex_digit_value b) (All-head (λ c. is_hex_digit c ≡ true) b rest tail) in
    let more : length (a ∷ b ∷ rest) / 2 * 2 ≡ suc (suc (length rest / 2 * 2)) = omega arith in
    ap (λ (n : ℕ). decode_pairs i (take n (a ∷ b ∷ rest))) more
    ∙ one_pair i a b (whole_pairs rest) rest high.0 low.0 high.1 low.1 (decoded_pairs (i + 2) rest (All-tail (λ c. is_hex_digit c ≡ true) b rest tail))

-- the whole pairs of the digits of a text decode to the bytes of its values
pub decoded : (text : List ℕ) → decode_of (whole_pairs (digits text)) ≡ Ok (pairs (values text))
decoded text =
    let n = length-take (length (digits text) / 2 * 2) (digits text) in
    decode_of-even (whole_pairs (digits text)) (omega (arith, n)) ∙ decoded_pairs 0 (digits text) (filter_passes is_hex_digit text)
    ∙ ap (λ (vs : List ℕ). Ok (pairs vs)) (values_of_digits text)
