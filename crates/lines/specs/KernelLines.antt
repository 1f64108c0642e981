-- What a kernel line says of the words after its command, and why they are refused.
use Rattle.std.specs.Prelude.{◌≡◌, ◌≢◌, ℕ, List, [], ◌∷◌, ◌⊎◌, Result, codes}
use Rattle.lines.specs.declared.kernel_line.KernelLine.{KernelLine}
use Rattle.lines.specs.declared.kernel_line.KernelLine.TheVariants.{Facts, Pack, Unpack, Step, Steps, Drain}
use Rattle.lines.specs.declared.fault.Fault.{Fault}
use Rattle.lines.specs.Words.{Text, OkOrFault, Spells, SpellEach, SpellsToSlash}
use Rattle.lines.specs.Parts.{unsigned, signed, letter, Part, number_part, numbers_part, to_slash_part, side_part, end_part, FailsIn}

-- the command of a line
abbrev pub command_of : KernelLine → Text
command_of Facts = codes "facts"
command_of (Pack side list) = codes "pack"
command_of (Unpack side count list) = codes "unpack"
command_of (Step row weights activations) = codes "step"
command_of (Steps row) = codes "steps"
command_of (Drain row) = codes "drain"

-- none of the six commands
abbrev pub IsNoCommand : Text → Type 0
IsNoCommand command =
    (command ≢ codes "facts") × (command ≢ codes "pack") × (command ≢ codes "unpack")
    × (command ≢ codes "step") × (command ≢ codes "steps") × (command ≢ codes "drain")

-- one word, which spells the row
abbrev pub SaysRow : ℕ → List Text → Type 0
SaysRow row words = (word : Text) × (words ≡ word ∷ []) × Spells (unsigned 64) word row

-- the words after the command spell what the line holds
abbrev pub Says : KernelLine → List Text → Type 0
Says Facts words = words ≡ []
Says (Pack side list) words =
    (spelled : List Text) × (words ≡ letter side ∷ spelled) × SpellEach signed spelled list.items
Says (Unpack side count list) words =
    (word : Text) × (spelled : List Text) × (words ≡ letter side ∷ word ∷ spelled)
    × Spells (unsigned 64) word count × SpellEach (unsigned 16) spelled list.items
Says (Step row weights activations) words =
    (word : Text) × (rest : List Text) × (spelled : List Text) × (words ≡ word ∷ rest)
    × Spells (unsigned 64) word row × SpellsToSlash (unsigned 16) rest spelled weights.items
    × SpellEach (unsigned 16) spelled activations.items
Says (Steps row) words = SaysRow row words
Says (Drain row) words = SaysRow row words

-- ---- the parts of each line, with the texts that refuse it

abbrev pub facts_parts : List Part
facts_parts = end_part (codes "facts") ∷ []

abbrev pub code_text : Text
code_text = codes "codes from -32768 to 32767"

abbrev pub word_text : Text
word_text = codes "words from 0 to 65535"

abbrev pub row_text : Text
row_text = codes "ROW from 0 to 18446744073709551615"

abbrev pub count_text : Text
count_text = codes "N from 0 to 18446744073709551615"

abbrev pub pack_parts : List Part
pack_parts = side_part (codes "pack w CODE... or pack a CODE...") ∷ numbers_part signed code_text ∷ []

abbrev pub unpack_usage : Text
unpack_usage = codes "unpack w N WORD... or unpack a N WORD..."

abbrev pub unpack_parts : List Part
unpack_parts = side_part unpack_usage ∷ number_part (unsigned 64) unpack_usage count_text ∷ numbers_part (unsigned 16) word_text ∷ []

abbrev pub step_usage : Text
step_usage = codes "step ROW WORD... / WORD..."

abbrev pub step_parts : List Part
step_parts = number_part (unsigned 64) step_usage row_text ∷ to_slash_part (unsigned 16) step_usage word_text ∷ numbers_part (unsigned 16) word_text ∷ []

abbrev pub row_parts : Text → List Part
row_parts usage = number_part (unsigned 64) usage row_text ∷ end_part usage ∷ []

-- a line of that command, or the part at which its words fail
abbrev pub Parses : Text → List Part → List Text → Result KernelLine Fault → Type 0
Parses command parts words result =
    OkOrFault result (λ line. (command_of line ≡ command) × Says line words) (FailsIn parts words)

-- why the words after a command are refused, and with which text
abbrev pub Refused : Text → List Text → Text → Type 0
Refused command words text =
    ((command ≡ codes "facts") × FailsIn facts_parts words text)
    ⊎ ((command ≡ codes "pack") × FailsIn pack_parts words text)
    ⊎ ((command ≡ codes "unpack") × FailsIn unpack_parts words text)
    ⊎ ((command ≡ codes "step") × FailsIn step_parts words text)
    ⊎ ((command ≡ codes "steps") × FailsIn (row_parts (codes "steps ROW")) words text)
    ⊎ ((command ≡ codes "drain") × FailsIn (row_parts (codes "drain ROW")) words text)
