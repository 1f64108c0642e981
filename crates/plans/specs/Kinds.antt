-- What each kind of plan fixes: its number, its codes, its groups and its words.
use Rattle.std.specs.Prelude.{◌≡◌, ◌≢◌, ℕ, ◌-◌, ◌^◌, pos, neg_ℤ, Result, MatchResult}
use Rattle.codes.specs.declared.ends.Ends.{Ends}
use Rattle.codes.specs.declared.shape.Shape.{Shape}
use Rattle.plans.specs.declared.kind.Kind.{Kind}
use Rattle.plans.specs.declared.kind.Kind.TheVariants.{P1, P2, Planes, Split}
use Rattle.plans.specs.declared.request.Request.{Request}
use Rattle.plans.specs.declared.refusal.PlanRefusal.{PlanRefusal}
use Rattle.plans.specs.declared.refusal.PlanRefusal.TheVariants.{UnknownKind}

abbrev pub kind_number : Kind → ℕ
kind_number P1 = 1
kind_number P2 = 2
kind_number Planes = 3
kind_number Split = 4

-- a number stands for the kind that has it; a number that no kind has is refused as unknown
abbrev pub KindNumbered : ℕ → Result Kind PlanRefusal → Type 0
KindNumbered number a =
    MatchResult a (λ k. kind_number k ≡ number) (λ e. (e ≡ UnknownKind) × ((k : Kind) → kind_number k ≢ number))

-- the size is a number of bits: codes run from 0 to 2^size − 1
abbrev pub bit_ends : (size : ℕ) → Ends
bit_ends size = record { low = pos 0; high = pos (2 ^ size - 1) }

-- the ends of the codes of a size; in the signed split the size is the highest code, and codes run from −size to size
abbrev pub ends_of : Kind → (size : ℕ) → Ends
ends_of P1 size = bit_ends size
ends_of P2 size = bit_ends size
ends_of Planes size = bit_ends size
ends_of Split size = record { low = neg_ℤ (pos size); high = pos size }

-- codes of a group
abbrev pub group_size : Kind → Request → ℕ
group_size P1 r = r.depth
group_size P2 r = r.depth
group_size Planes r = 16
group_size Split r = 2

-- words of a packed group of codes of a size: bit planes take one for each bit
abbrev pub group_words : Kind → (size : ℕ) → ℕ
group_words P1 size = 1
group_words P2 size = 1
group_words Planes size = size
group_words Split size = 1

-- the shape of the packing
abbrev pub shape_of : Kind → Request → Shape
shape_of k r = record {
  weight_ends = ends_of k r.weight_size;
  activation_ends = ends_of k r.activation_size;
  group = group_size k r;
  weight_words = group_words k r.weight_size;
  activation_words = group_words k r.activation_size;
}
