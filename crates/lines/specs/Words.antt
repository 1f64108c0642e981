-- The words of a line, the numbers that they spell, and why they are refused.
use Rattle.std.specs.Prelude.{◌≡◌, ◌≢◌, ℕ, List, [], ◌∷◌, ◌++◌, ◌⊎◌, map, if◌then◌else◌, Ok, Err, Result, MatchResult, codes}
use Rattle.std.specs.Char.{is_ascii_whitespace}
use Rattle.std.specs.List.{AllZip, AllByRecursion}
use Rattle.std.specs.Str.Iter.{split_ascii_whitespace_text}
use Rattle.std.specs.Borrow.{Bor}
use Rattle.lines.specs.declared.words.Words.{Words}
use Rattle.lines.specs.declared.fault.Fault.{Fault}
use Rattle.lines.specs.declared.fault.Fault.TheVariants.{Expected, Memory}

-- a text is the list of its bytes, and so is a word
abbrev pub Text : Type 0
Text = List ℕ

-- the texts behind references
abbrev pub texts : List (Bor Text) → List Text
texts = map (λ word. word.now)

-- a word that has ended, where it has bytes
abbrev pub ended : Text → List Text
ended [] = []
ended (b ∷ word) = (b ∷ word) ∷ []

-- the words of bytes behind a word that has begun: a blank ends a word (space, tab, line feed, form feed, carriage return)
abbrev pub words_from : (begun : Text) → List ℕ → List Text
words_from begun [] = ended begun
words_from begun (b ∷ bytes) =
    if is_ascii_whitespace b then ended begun ++ words_from [] bytes else words_from (begun ++ (b ∷ [])) bytes

-- the words of a text: what stands between blanks
abbrev pub words_in : Text → List Text
words_in = words_from []

-- the words that are left: those that are cut already, and those of the text behind them
abbrev pub words_left : Words → List Text
words_left words = texts words.left.now ++ words_in (split_ascii_whitespace_text words.behind)

-- what the line should be
abbrev pub usage_of : Words → Text
usage_of words = words.usage.now

-- what is said of the text that was expected, and what of a lack of memory
abbrev pub FaultSays : Type 0 → Fault → (Text → Type 0) → Type 0
FaultSays memory (Expected text) P = P text.now
FaultSays memory Memory P = memory

-- a value, or else another line was expected; memory cannot lack
abbrev pub OkOrExpected : {A : Type 0} → Result A Fault → (A → Type 0) → (Text → Type 0) → Type 0
OkOrExpected result P Q = MatchResult result P (λ fault. FaultSays ⊥ fault Q)

-- the same, where memory may lack
abbrev pub OkOrFault : {A : Type 0} → Result A Fault → (A → Type 0) → (Text → Type 0) → Type 0
OkOrFault result P Q = MatchResult result P (λ fault. FaultSays (Unit {0}) fault Q)

-- ---- numbers, as the type's `from_str` gives them

-- a word spells a number
abbrev pub Spells : {T E : Type 0} → (Text → Result T E → Type 0) → Text → T → Type 0
Spells gives word v = gives word (Ok v)

-- a word spells no number
abbrev pub SpellsNone : {T E : Type 0} → (Text → Result T E → Type 0) → Text → Type 0
SpellsNone {T} {E} gives word = (e : E) × gives word (Err e)

-- each word spells the number at its place
abbrev pub SpellEach : {T E : Type 0} → (Text → Result T E → Type 0) → List Text → List T → Type 0
SpellEach gives = AllZip (Spells gives)

-- ---- one number

-- the first word spells the number, and the rest follows
pub record FirstSpells {T E : Type 0} (gives : Text → Result T E → Type 0) (words rest : List Text) (v : T) : Type 0 where
  pub word : Text
  pub parts : words ≡ word ∷ rest
  pub spelled : Spells gives word v

-- the first word spells no number
pub record FirstSpellsNone {T E : Type 0} (gives : Text → Result T E → Type 0) (words : List Text) : Type 0 where
  pub word : Text
  pub rest : List Text
  pub parts : words ≡ word ∷ rest
  pub wrong : SpellsNone gives word

-- why there is no number: no word is left, or the first spells none
abbrev pub NoNumber : {T E : Type 0} → (Text → Result T E → Type 0) → Text → Text → List Text → Text → Type 0
NoNumber gives usage own words text =
    ((words ≡ []) × (text ≡ usage)) ⊎ (FirstSpellsNone gives words × (text ≡ own))

-- ---- all words that are left

-- the first of the words that spells no number
pub record OneSpellsNone {T E : Type 0} (gives : Text → Result T E → Type 0) (words : List Text) : Type 0 where
  pub before : List Text
  pub word : Text
  pub after : List Text
  pub numbers : List T
  pub parts : words ≡ before ++ (word ∷ after)
  pub spelled : SpellEach gives before numbers
  pub wrong : SpellsNone gives word

-- ---- the words before a slash

abbrev pub slash : Text
slash = codes "/"

abbrev pub IsNoSlash : Text → Type 0
IsNoSlash word = word ≢ slash

-- the words before the first slash spell the numbers, and the rest follows the slash
pub record SpellsToSlash {T E : Type 0} (gives : Text → Result T E → Type 0) (words rest : List Text) (numbers : List T) : Type 0 where
  pub before : List Text
  pub parts : words ≡ before ++ (slash ∷ rest)
  pub no_slash : AllByRecursion IsNoSlash before
  pub spelled : SpellEach gives before numbers

-- the first of the words that spells no number, with no slash up to it
pub record OneBeforeSlashSpellsNone {T E : Type 0} (gives : Text → Result T E → Type 0) (words : List Text) : Type 0 where
  pub first : OneSpellsNone gives words
  pub no_slash : AllByRecursion IsNoSlash first.before
  pub no_slash_there : IsNoSlash first.word

-- each of the words spells a number, and none is a slash
pub record NoSlashAtAll {T E : Type 0} (gives : Text → Result T E → Type 0) (words : List Text) : Type 0 where
  pub numbers : List T
  pub spelled : SpellEach gives words numbers
  pub no_slash : AllByRecursion IsNoSlash words

-- why there is no such list: no slash is there, or a word before it spells none
abbrev pub NoListToSlash : {T E : Type 0} → (Text → Result T E → Type 0) → Text → Text → List Text → Text → Type 0
NoListToSlash gives usage own words text =
    (NoSlashAtAll gives words × (text ≡ usage))
    ⊎ (OneBeforeSlashSpellsNone gives words × (text ≡ own))
