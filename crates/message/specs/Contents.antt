-- What a message of the code says, and what a read answers and leaves. Assumes nothing.
use Rattle.std.specs.Prelude.{◌≡◌, ℕ, ◌+◌, ◌-◌, ◌*◌, ◌≤◌, List, ◌∷◌, ◌++◌, length, drop, Ok, Err, Result}
use Rattle.fault.specs.declared.StreamFault.{StreamFault}
use Rattle.task.specs.declared.tasks.Task.{Task}
use Rattle.task.specs.Task.{accesses_of}
use Rattle.message.specs.declared.Message.{Message}
use Rattle.message.specs.declared.Message.TheVariants.{Submission, Finish}
use Rattle.message.specs.declared.kind.Kind.{Kind}
use Rattle.layout.specs.Layout.{Contents, submits, finishes, version, layout}
use Rattle.layout.specs.Reading.{Read, read}
use Rattle.message.specs.Kinds.{kind_code}

-- what a message says
abbrev pub contents_of : Message → Contents
contents_of (Submission task) = submits task.name task.kind (accesses_of task)
contents_of (Finish seat) = finishes seat

-- a read of these bytes at this place gives this answer and leaves that place: the message that stands there, laid out in just
-- the bytes from the place to that behind it; or the first fault, with the place as it was
abbrev pub Answered : List ℕ → ℕ → Result Message StreamFault → ℕ → Type 0
Answered bytes place (Ok message) after =
    (read place (drop place bytes) ≡ Ok (contents_of message, drop after bytes))
    × (drop place bytes ≡ layout (contents_of message) ++ drop after bytes)
    × (after ≡ place + length (layout (contents_of message)))
Answered bytes place (Err fault) after = (read place (drop place bytes) ≡ Err fault) × (after ≡ place)

-- a field of w bytes, as the reader has it, is read at a place of these bytes, in a message that begins at start: what its value
-- says, with the place behind it and within the bytes; or its fault, with the place as it was
abbrev pub FieldRead : {A X : Type 0} → (ℕ → List ℕ → Read A) → (X → A) → ℕ → List ℕ → ℕ → ℕ → Result X StreamFault → ℕ → Type 0
FieldRead field says w bytes start place (Ok x) after =
    (field (place - start) (drop place bytes) ≡ Ok (says x, drop after bytes)) × (after ≡ place + w) × (after ≤ length bytes)
FieldRead field says w bytes start place (Err fault) after = (field (place - start) (drop place bytes) ≡ Err fault) × (after ≡ place)

-- the same for a field that is a list, which the code holds in a form of its own
abbrev pub ListRead : {A X : Type 0} → (ℕ → List ℕ → Read (List A)) → (X → List A) → ℕ → List ℕ → ℕ → ℕ → Result X StreamFault → ℕ → Type 0
ListRead field items w bytes start place (Ok x) after =
    (field (place - start) (drop place bytes) ≡ Ok (items x, drop after bytes)) × (after ≡ place + w) × (after ≤ length bytes)
ListRead field items w bytes start place (Err fault) after = field (place - start) (drop place bytes) ≡ Err fault

-- the same for a message or what follows its first bytes, where the value says how many bytes it took
abbrev pub BodyRead : {X : Type 0} → (List ℕ → Read Contents) → (X → Contents) → (X → ℕ) → List ℕ → ℕ → Result X StreamFault → ℕ → Type 0
BodyRead body says w bytes place (Ok x) after = (body (drop place bytes) ≡ Ok (says x, drop after bytes)) × (after ≡ place + w x)
BodyRead body says w bytes place (Err fault) after = body (drop place bytes) ≡ Err fault

-- what a submitted task says; and how many bytes its submission has behind the first two
abbrev pub submitted : Task → Contents
submitted task = contents_of (Submission task)

abbrev pub submission_width : Task → ℕ
submission_width task = 10 + 9 * length (accesses_of task)

-- how many bytes a message has
abbrev pub message_width : Message → ℕ
message_width m = length (layout (contents_of m))

-- the first two bytes are read: the version, which is known, and the kind; or the fault of the message
abbrev pub HeaderRead : List ℕ → ℕ → Result Kind StreamFault → ℕ → Type 0
HeaderRead bytes place (Ok kind) after = (drop place bytes ≡ version ∷ (kind_code kind ∷ drop after bytes)) × (after ≡ place + 2) × (after ≤ length bytes)
HeaderRead bytes place (Err fault) after = read place (drop place bytes) ≡ Err fault
