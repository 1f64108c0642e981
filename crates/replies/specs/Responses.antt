-- What a kernel replies to a line, and what it means afterwards.
use Rattle.std.specs.Prelude.{◌≡◌, ℕ, List, length, ℤ, Ok, Err, Result}
use Rattle.codes.specs.declared.shape.Shape.{Shape}
use Rattle.codes.specs.declared.side.Side.{Side}
use Rattle.kernels.specs.declared.refusal.PackRefusal.{PackRefusal}
use Rattle.kernels.specs.declared.refusal.UnpackRefusal.{UnpackRefusal}
use Rattle.kernels.specs.declared.refusal.RowRefusal.{RowRefusal}
use Rattle.kernels.specs.declared.refusal.StepRefusal.{StepRefusal}
use Rattle.kernels.specs.Groups.{Packing, Unpacking}
use Rattle.kernels.specs.Answers.{row_answer, step_answer}
use Rattle.kernels.specs.Lists.{words_for, packed_list, pack_list_answer, unpacked_list, unpack_list_answer}
use Rattle.kernels.specs.Meanings.{Meaning, Stepped, Drained, gain_at}
use Rattle.lines.specs.declared.kernel_line.KernelLine.{KernelLine}
use Rattle.lines.specs.declared.kernel_line.KernelLine.TheVariants as line
use Rattle.replies.specs.declared.reply.Reply.{Reply}
use Rattle.replies.specs.declared.reply.Reply.TheVariants.{Facts, Words, Codes, Stepped as SteppedReply, Steps, Total}
use Rattle.replies.specs.Answers.{pack_refused, unpack_refused, row_refused, step_refused}

-- ---- lists

-- the reply is a list of these words
abbrev pub IsWords : List ℕ → Reply → Type 0
IsWords words (Words v) = v.items ≡ words
IsWords words _ = ⊥

-- the reply is a list of the codes that were unpacked
abbrev pub IsCodes : Result (List ℤ) ℕ → Reply → Type 0
IsCodes unpacked (Codes v) = unpacked ≡ Ok v.items
IsCodes unpacked _ = ⊥

abbrev pub WordsOrRefused : Result (Unit {0}) PackRefusal → List ℕ → Reply → Type 0
WordsOrRefused (Ok u) words reply = IsWords words reply
WordsOrRefused (Err refusal) words reply = reply ≡ pack_refused refusal

abbrev pub CodesOrRefused : Result (Unit {0}) UnpackRefusal → Result (List ℤ) ℕ → Reply → Type 0
CodesOrRefused (Ok u) unpacked reply = IsCodes unpacked reply
CodesOrRefused (Err refusal) unpacked reply = reply ≡ unpack_refused refusal

-- the packing of a list into exactly the words that it needs, or its refusal
abbrev pub PackReplied : Packing → Shape → Side → List ℤ → Reply → Type 0
PackReplied packed s side list reply =
    WordsOrRefused (pack_list_answer s side list (words_for s side (length list))) (packed_list packed s side list) reply

-- the n codes that are asked for, or the refusal of their unpacking
abbrev pub UnpackReplied : Unpacking → Shape → Side → (n : ℕ) → List ℕ → Reply → Type 0
UnpackReplied unpacked s side n words reply =
    CodesOrRefused (unpack_list_answer unpacked s side n words) (unpacked_list unpacked s side n words) reply

-- ---- rows

abbrev pub step_reply : Result (Unit {0}) StepRefusal → Reply
step_reply (Ok u) = SteppedReply
step_reply (Err refusal) = step_refused refusal

abbrev pub steps_reply : Result ℕ RowRefusal → Reply
steps_reply (Ok steps) = Steps steps
steps_reply (Err refusal) = row_refused refusal

abbrev pub total_reply : Result ℤ RowRefusal → Reply
total_reply (Ok total) = Total total
total_reply (Err refusal) = row_refused refusal

-- ---- what a line asks

-- the reply of a kernel that packs and unpacks so and means m
abbrev pub Replied : (packed : Shape → Packing) (unpacked : Shape → Unpacking) → Meaning → KernelLine → Reply → Type 0
Replied packed unpacked m line.Facts reply = reply ≡ Facts m.facts
Replied packed unpacked m (line.Pack side list) reply = PackReplied (packed m.facts.shape) m.facts.shape side list.items reply
Replied packed unpacked m (line.Unpack side n words) reply = UnpackReplied (unpacked m.facts.shape) m.facts.shape side n words.items reply
Replied packed unpacked m (line.Step row weights activations) reply =
    reply ≡ step_reply (step_answer (gain_at (unpacked m.facts.shape) m row weights.items activations.items))
Replied packed unpacked m (line.Steps row) reply = reply ≡ steps_reply (row_answer row (m.steps row))
Replied packed unpacked m (line.Drain row) reply = reply ≡ total_reply (row_answer row (m.total row))

-- the reply is a list, which takes memory
abbrev pub TakesMemory : KernelLine → Type 0
TakesMemory (line.Pack side list) = Unit {0}
TakesMemory (line.Unpack side n words) = Unit {0}
TakesMemory _ = ⊥

-- a line leads from the meaning m to n: only a step and a drain change it
abbrev pub After : (unpacked : Shape → Unpacking) → Meaning → KernelLine → Meaning → Type 0
After unpacked m (line.Step row weights activations) n = Stepped row (gain_at (unpacked m.facts.shape) m row weights.items activations.items) m n
After unpacked m (line.Drain row) n = Drained row m n
After unpacked m _ n = n ≡ m
