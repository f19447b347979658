-- The hexadecimal digits of a text, and the bytes of a case. Assumes nothing.
use Rattle.std.specs.Prelude.{◌≡◌, ℕ, ◌*◌, ◌/◌, List, length, filter, take, Ok}
use Rattle.std.specs.List.{repeat}
use Rattle.std.specs.Str.Parse.{digits_value, without_leading_plus}
use Rattle.hex.specs.Hex.{is_hex_digit, decode_of}

-- the characters that are digits, in either case
abbrev pub digits : List ℕ → List ℕ
digits text = filter is_hex_digit text

-- without a last digit that has no second
abbrev pub whole_pairs : List ℕ → List ℕ
whole_pairs xs = take (length xs / 2 * 2) xs

-- the bytes are those that the text writes, as often as the decimal number says
abbrev pub IsRepeated : List ℕ → List ℕ → List ℕ → Type 0
IsRepeated number text bytes =
    (unit : List ℕ) × (decode_of (whole_pairs (digits text)) ≡ Ok unit) × (bytes ≡ repeat (digits_value 10 (without_leading_plus number)) unit)
