-- The numbers of the refusals. The places that a refusal carries are its fields.
use Rattle.std.specs.Prelude.{ℕ}
use Rattle.kernels.specs.declared.refusal.PackRefusal.{PackRefusal}
use Rattle.kernels.specs.declared.refusal.PackRefusal.TheVariants.{Count as PackCount, Words as PackWords, Code}
use Rattle.kernels.specs.declared.refusal.UnpackRefusal.{UnpackRefusal}
use Rattle.kernels.specs.declared.refusal.UnpackRefusal.TheVariants.{Count as UnpackCount, Words as UnpackWords, Group}
use Rattle.kernels.specs.declared.refusal.CodeRefusal.{CodeRefusal}
use Rattle.kernels.specs.declared.refusal.CodeRefusal.TheVariants.{Place, Length as CodeLength, Packing as CodePacking}
use Rattle.kernels.specs.declared.refusal.RowRefusal.{RowRefusal}
use Rattle.kernels.specs.declared.refusal.RowRefusal.TheVariants.{Row as NoRow}
use Rattle.kernels.specs.declared.refusal.StepRefusal.{StepRefusal}
use Rattle.kernels.specs.declared.refusal.StepRefusal.TheVariants.{Row, Length, Packing, Interval}

abbrev pub pack_number : PackRefusal → ℕ
pack_number PackCount = 11
pack_number PackWords = 12
pack_number (Code place) = 13

abbrev pub unpack_number : UnpackRefusal → ℕ
unpack_number UnpackCount = 11
unpack_number UnpackWords = 12
unpack_number (Group group) = 14

abbrev pub code_number : CodeRefusal → ℕ
code_number Place = 11
code_number CodeLength = 22
code_number CodePacking = 23

abbrev pub row_number : RowRefusal → ℕ
row_number NoRow = 21

abbrev pub step_number : StepRefusal → ℕ
step_number Row = 21
step_number Length = 22
step_number Packing = 23
step_number Interval = 24
