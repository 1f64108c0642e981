-- What the shape and the rows of the kernel keep to.
use Rattle.std.specs.Prelude.{◌≡◌, ℕ, ◌*◌, ◌≤◌, pos, neg_ℤ, unsigned_abs}
use Rattle.codes.specs.declared.ends.Ends.{Ends}
use Rattle.codes.specs.declared.shape.Shape.{Shape}
use Rattle.codes.specs.Codes.{Range}
use Rattle.split.specs.declared.split_row.SplitRow.{SplitRow}
use Rattle.split.specs.Lanes.{LaneWithin}

-- the size of codes: the highest of them
abbrev pub size_of : Ends → ℕ
size_of e = unsigned_abs e.high

-- codes from −size to size, with sizes from 1 to 127
abbrev pub EndsFit : Ends → Type 0
EndsFit e = (e.low ≡ neg_ℤ (pos (size_of e))) × (e.high ≡ pos (size_of e)) × Range 1 127 (size_of e)

-- such codes on both sides, two codes a group, and one word
abbrev pub ShapeFits : Shape → Type 0
ShapeFits s =
    EndsFit s.weight_ends × EndsFit s.activation_ends × (s.group ≡ 2) × (s.weight_words ≡ 1) × (s.activation_words ≡ 1)

-- the most that one product adds to a lane, or takes off it
abbrev pub most_of : Shape → ℕ
most_of s = size_of s.weight_ends * size_of s.activation_ends

-- a row within its interval
abbrev pub RowHolds : (most interval : ℕ) → SplitRow → Type 0
RowHolds most interval row =
    (row.steps ≤ interval) × LaneWithin row.steps most row.first × LaneWithin row.steps most row.second
