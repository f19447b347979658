-- The text of a line, and of a rehearsal. Assumes nothing.
use Rattle.std.specs.Prelude.{ℕ, List, [], ◌∷◌, ◌++◌, codes, decimal}
use Rattle.std.specs.List.{flat_map}
use Rattle.rehearse_run.specs.declared.line.Line.{Line}
use Rattle.rehearse_run.specs.declared.line.Line.TheVariants.{Sub, Ran, No, End}

-- the word, and a space and the number in decimal if there is one
abbrev pub line_text : Line → List ℕ
line_text (Sub seat) = codes "sub " ++ decimal seat
line_text (Ran seat) = codes "ran " ++ decimal seat
line_text (No number) = codes "no " ++ decimal number
line_text End = codes "end"

-- with the newline at its end
abbrev pub bytes_of_line : Line → List ℕ
bytes_of_line l = line_text l ++ (10 ∷ [])

-- one line behind the other
abbrev pub text_of : List Line → List ℕ
text_of ls = flat_map bytes_of_line ls
