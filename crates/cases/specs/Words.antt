-- The words of a line. Assumes nothing.
use Rattle.std.specs.Prelude.{◌≡◌, ℕ, ◌<◌, List, ◌++◌, length}
use Rattle.std.specs.Char.{is_whitespace, is_not_whitespace}
use Rattle.std.specs.Str.{NoCharPasses}

-- a text begins with this word, behind white space or none, and this stands behind the word
abbrev pub BeginsWithWord : List ℕ → List ℕ → List ℕ → Type 0
BeginsWithWord text word rest =
    (gap : List ℕ) × (text ≡ gap ++ (word ++ rest)) × (0 < length word) × NoCharPasses is_not_whitespace gap × NoCharPasses is_whitespace word

-- these are the first three words of a line
abbrev pub FirstWords : List ℕ → List ℕ → List ℕ → List ℕ → Type 0
FirstWords line one two three =
    (after_one after_two after_three : List ℕ) × BeginsWithWord line one after_one × BeginsWithWord after_one two after_two × BeginsWithWord after_two three after_three
