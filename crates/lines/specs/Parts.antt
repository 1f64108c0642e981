-- The parts of a line, one after another, and which of them its words fail to give.
use Rattle.std.specs.Prelude.{◌≡◌, ◌≢◌, ℕ, ℤ, List, [], ◌∷◌, ◌⊎◌, Result, codes}
use Rattle.std.specs.Int.{w16}
use Rattle.std.specs.Str.Parse.{ParsesUnsigned, ParsesSigned, ExplainsUnsignedError, ExplainsSignedError, HasUnsignedDigitsIfOk, HasSignedDigitsIfOk}
use Rattle.std.specs.declared.num.ParseIntError.{ParseIntError}
use Rattle.codes.specs.declared.side.Side.{Side}
use Rattle.codes.specs.declared.side.Side.TheVariants.{Weights, Activations}
use Rattle.lines.specs.Words.{Text, FirstSpells, NoNumber, SpellEach, OneSpellsNone, SpellsToSlash, NoListToSlash}

-- what the library reads of a word as a number of so many bits, from 0 up
abbrev pub unsigned : ℕ → Text → Result ℕ ParseIntError → Type 0
unsigned bits word r = ParsesUnsigned bits 10 word r × ExplainsUnsignedError 10 word r × HasUnsignedDigitsIfOk word r

-- what it reads of a word as a code, a signed number of 16 bits
abbrev pub signed : Text → Result ℤ ParseIntError → Type 0
signed word r = ParsesSigned w16 10 word r × ExplainsSignedError 10 word r × HasSignedDigitsIfOk word r

-- the letter of a side
abbrev pub letter : Side → Text
letter Weights = codes "w"
letter Activations = codes "a"

-- the first word is no letter of a side, or there is none
pub record FirstIsNoSide (words : List Text) : Type 0 where
  pub unlike : (s : Side) (rest : List Text) → words ≢ letter s ∷ rest

abbrev pub NoSide : Text → List Text → Text → Type 0
NoSide usage words text = FirstIsNoSide words × (text ≡ usage)

-- ---- the parts of a line, one after another

-- how words begin with a part, the rest following, and with which text they are refused there
pub record Part : Type 1 where
  pub begins : List Text → List Text → Type 0
  pub refused : List Text → Text → Type 0

abbrev pub number_part : {T E : Type 0} → (Text → Result T E → Type 0) → Text → Text → Part
number_part {T} gives usage own = record {
  begins = λ words rest. (v : T) × FirstSpells gives words rest v;
  refused = NoNumber gives usage own;
}

abbrev pub numbers_part : {T E : Type 0} → (Text → Result T E → Type 0) → Text → Part
numbers_part {T} gives own = record {
  begins = λ words rest. (numbers : List T) × SpellEach gives words numbers × (rest ≡ []);
  refused = λ words text. OneSpellsNone gives words × (text ≡ own);
}

abbrev pub to_slash_part : {T E : Type 0} → (Text → Result T E → Type 0) → Text → Text → Part
to_slash_part {T} gives usage own = record {
  begins = λ words rest. (numbers : List T) × SpellsToSlash gives words rest numbers;
  refused = NoListToSlash gives usage own;
}

abbrev pub side_part : Text → Part
side_part usage = record {
  begins = λ words rest. (s : Side) × (words ≡ letter s ∷ rest);
  refused = NoSide usage;
}

abbrev pub end_part : Text → Part
end_part usage = record {
  begins = λ words rest. (words ≡ []) × (rest ≡ []);
  refused = λ words text. (words ≢ []) × (text ≡ usage);
}

-- words begin with the first parts, and what is left is refused with the text at the next part
unfoldable pub FailsIn : List Part → List Text → Text → Type 0
FailsIn [] words text = ⊥
FailsIn (part ∷ parts) words text =
    part.refused words text ⊎ ((rest : List Text) × part.begins words rest × FailsIn parts rest text)
