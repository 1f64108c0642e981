-- What a loop over the words of a line has taken.
use Rattle.std.proofs.Common.{◌≡◌, List, [], ◌∷◌, ◌++◌, refl, sym, ap, ◌∙◌, append_assoc, Result, inr}
use Rattle.std.specs.Prelude.{Bool, false, IsTrue, ◌↔◌}
use Rattle.std.specs.List.{AllByRecursion}
use Rattle.std.proofs.lemmas.Bool.{false≢true}
use Rattle.lines.specs.declared.fault.Fault.{Fault}
use Rattle.lines.specs.declared.fault.Fault.TheVariants.{Expected, Memory}
use Rattle.lines.specs.Words.{Text, FaultSays, Spells, SpellsNone, SpellEach, OneSpellsNone, IsNoSlash, slash, OneBeforeSlashSpellsNone, NoListToSlash}

-- the words before those that are left, and the numbers that they spell
pub record Taken {T E : Type 0} (gives : Text → Result T E → Type 0) (words rest : List Text) (numbers : List T) : Type 0 where
  pub before : List Text
  pub parts : words ≡ before ++ rest
  pub spelled : SpellEach gives before numbers

each_more : {T E : Type 0} (gives : Text → Result T E → Type 0) (words : List Text) (numbers : List T) (word : Text) (v : T) → SpellEach gives words numbers → Spells gives word v → SpellEach gives (words ++ (word ∷ [])) (numbers ++ (v ∷ []))
each_more gives [] [] word v all one = (one, tt)
each_more gives [] (n ∷ ns) word v all one = absurd all
each_more gives (w ∷ ws) [] word v all one = absurd all
each_more gives (w ∷ ws) (n ∷ ns) word v all one = (all.0, each_more gives ws ns word v all.1 one)

pub one_more : {T E : Type 0} (gives : Text → Result T E → Type 0) (words left rest : List Text) (numbers more : List T) (word : Text) (v : T) → Taken gives words left numbers → left ≡ word ∷ rest → Spells gives word v → more ≡ numbers ++ (v ∷ []) → Taken gives words rest more
one_more gives words left rest numbers more word v h e one m = record {
  before = h.before ++ (word ∷ []);
  parts = h.parts ∙ (ap (λ xs. h.before ++ xs) e ∙ sym (append_assoc h.before (word ∷ []) rest));
  spelled = rw m (each_more gives h.before numbers word v h.spelled one);
}

pub one_wrong : {T E : Type 0} (gives : Text → Result T E → Type 0) (words left rest : List Text) (numbers : List T) (word : Text) → Taken gives words left numbers → left ≡ word ∷ rest → SpellsNone gives word → OneSpellsNone gives words
one_wrong gives words left rest numbers word h e wrong = record {
  before = h.before;
  word = word;
  after = rest;
  numbers = numbers;
  parts = h.parts ∙ ap (λ xs. h.before ++ xs) e;
  spelled = h.spelled;
  wrong = wrong;
}

-- the same, with no slash among the words taken
pub record TakenBeforeSlash {T E : Type 0} (gives : Text → Result T E → Type 0) (words rest : List Text) (numbers : List T) : Type 0 where
  pub taken : Taken gives words rest numbers
  pub no_slash : AllByRecursion IsNoSlash taken.before

pub none_before_slash : {T E : Type 0} (gives : Text → Result T E → Type 0) (words : List Text) (numbers : List T) → numbers ≡ [] → TakenBeforeSlash gives words words numbers
none_before_slash gives words numbers e = rw e record { taken = record { before = []; parts = refl; spelled = tt }; no_slash = tt }

no_slash_more : (words : List Text) (word : Text) → AllByRecursion IsNoSlash words → IsNoSlash word → AllByRecursion IsNoSlash (words ++ (word ∷ []))
no_slash_more [] word all unlike = (unlike, tt)
no_slash_more (w ∷ ws) word all unlike = (all.0, no_slash_more ws word all.1 unlike)

pub one_more_before_slash : {T E : Type 0} (gives : Text → Result T E → Type 0) (words left rest : List Text) (numbers more : List T) (word : Text) (v : T) → TakenBeforeSlash gives words left numbers → left ≡ word ∷ rest → IsNoSlash word → Spells gives word v → more ≡ numbers ++ (v ∷ []) → TakenBeforeSlash gives words rest more
unfolding one_more
one_more_before_slash gives words left rest numbers more word v h e unlike one m = record {
  taken = one_more gives words left rest numbers more word v h.taken e one m;
  no_slash = no_slash_more h.taken.before word h.no_slash unlike;
}

pub wrong_before_slash : {T E : Type 0} (gives : Text → Result T E → Type 0) (words left rest : List Text) (numbers : List T) (word : Text) → TakenBeforeSlash gives words left numbers → left ≡ word ∷ rest → IsNoSlash word → SpellsNone gives word → OneBeforeSlashSpellsNone gives words
unfolding one_wrong
wrong_before_slash gives words left rest numbers word h e unlike wrong = record {
  first = one_wrong gives words left rest numbers word h.taken e wrong;
  no_slash = h.no_slash;
  no_slash_there = unlike;
}

pub unlike_slash : {b : Bool} {word : Text} → (IsTrue b ↔ (word ≡ slash)) → b ≡ false → IsNoSlash word
unlike_slash h n is = absurd (false≢true (sym n ∙ h.1 is))

pub refused_before_slash : {T E : Type 0} (gives : Text → Result T E → Type 0) (usage own : Text) (fault : Fault) (words left rest : List Text) (numbers : List T) (word : Text) → TakenBeforeSlash gives words left numbers → left ≡ word ∷ rest → IsNoSlash word → FaultSays ⊥ fault (λ text. SpellsNone gives word × (text ≡ own)) → FaultSays (Unit {0}) fault (NoListToSlash gives usage own words)
refused_before_slash gives usage own (Expected text) words left rest numbers word h e unlike w = inr (wrong_before_slash gives words left rest numbers word h e unlike w.0, w.1)
refused_before_slash gives usage own Memory words left rest numbers word h e unlike w = tt
