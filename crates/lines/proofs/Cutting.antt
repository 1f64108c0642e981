-- Words that are cut off a text.
use Rattle.std.proofs.Common.{◌≡◌, ℕ, List, [], ◌∷◌, ◌++◌, ◌<◌, ◌≤◌, length, refl, sym, ap, ◌∙◌, append_assoc, true, false, subst, ⊎_elim, get_or, Option, Some, None, arith, tests}
use Rattle.std.specs.Prelude.{MatchOption}
use Rattle.std.specs.Char.{is_ascii_whitespace}
use Rattle.std.specs.List.{AllByRecursion, AllPass}
use Rattle.std.specs.Borrow.{Bor}
use Rattle.std.specs.Str.{NoCharPasses}
use Rattle.std.specs.Str.Iter.{CutsAsciiWord, IsAsciiSeparator}
use Rattle.std.proofs.lemmas.Bool.{cases_lt}
use Rattle.std.proofs.lemmas.Grind.{get_or_default_zero}
use Rattle.std.proofs.lemmas.List.{append-nil}
use Rattle.std.proofs.lemmas.List.Elements.{recursion_from_All}
use Rattle.std.proofs.lemmas.Str.{NoCharPasses-byte}
use Rattle.lines.specs.Words.{Text, texts, words_from, words_in}

abbrev IsBlank : ℕ → Type 0
IsBlank b = is_ascii_whitespace b ≡ true

abbrev IsNoBlank : ℕ → Type 0
IsNoBlank b = is_ascii_whitespace b ≡ false

-- blanks in front of words
blanks_passed : (gap rest : List ℕ) → AllByRecursion IsBlank gap → words_in (gap ++ rest) ≡ words_in rest
blanks_passed [] rest all = refl
blanks_passed (b ∷ gap) rest all = rw all.0 (blanks_passed gap rest all.1)

-- the bytes of a word, behind those that it has begun with
word_passed : (begun word rest : List ℕ) → AllByRecursion IsNoBlank word → words_from begun (word ++ rest) ≡ words_from (begun ++ word) rest
word_passed begun [] rest none = ap (λ w. words_from w rest) (sym (append-nil begun))
word_passed begun (b ∷ word) rest none =
    rw none.0 (word_passed (begun ++ (b ∷ [])) word rest none.1 ∙ ap (λ w. words_from w rest) (append_assoc begun (b ∷ []) word))

-- a word ends at a blank, or where nothing is left
word_ended : (word sep rest : List ℕ) → 0 < length word → AllByRecursion IsBlank sep → length sep ≤ 1 → (length sep ≡ 0 → length rest ≡ 0) → words_from word (sep ++ rest) ≡ word ∷ words_in rest
word_ended [] sep rest some all one last = absurd (omega arith)
word_ended (b ∷ word) [] [] some all one last = refl
word_ended (b ∷ word) [] (c ∷ rest) some all one last = let e : length (c ∷ rest) ≡ 0 = last refl in absurd (omega (arith, e))
word_ended (b ∷ word) (s ∷ []) rest some all one last = rw all.0 refl
word_ended (b ∷ word) (s ∷ t ∷ sep) rest some all one last = absurd (omega arith)

-- ---- no character of a word is a blank, and so no byte

high_no_blank : (b : ℕ) → 128 ≤ b → IsNoBlank b
high_no_blank b h = grind (arith, tests)

byte_no_blank : (word : Text) (k d : ℕ) → NoCharPasses is_ascii_whitespace word → k < length word → IsNoBlank (get_or word k d)
byte_no_blank word k d none l =
    subst IsNoBlank (sym (get_or_default_zero word k d l)) (⊎_elim (λ low. NoCharPasses-byte is_ascii_whitespace word k none l low) (λ high. high_no_blank _ high) (cases_lt (get_or word k 0) 128))

none_blank : (word : Text) → NoCharPasses is_ascii_whitespace word → AllByRecursion IsNoBlank word
none_blank word none = recursion_from_All IsNoBlank word (λ k d l. byte_no_blank word k d none l)

-- ---- a cut

no_word : (text : Text) → AllPass is_ascii_whitespace text → words_in text ≡ []
no_word text all =
    ap words_in (sym (append-nil text)) ∙ blanks_passed text [] (recursion_from_All IsBlank text all)

first_word : (text gap word sep rest : Text) → text ≡ gap ++ (word ++ (sep ++ rest)) → 0 < length word → NoCharPasses is_ascii_whitespace word → AllPass is_ascii_whitespace gap → IsAsciiSeparator sep rest → words_in text ≡ word ∷ words_in rest
first_word text gap word sep rest parts some none blank ends =
    ap words_in parts
    ∙ blanks_passed gap (word ++ (sep ++ rest)) (recursion_from_All IsBlank gap blank)
    ∙ word_passed [] word (sep ++ rest) (none_blank word none)
    ∙ word_ended word sep rest some (recursion_from_All IsBlank sep ends.0) ends.1 ends.2

no_bytes : (text : Text) → length text ≡ 0 → words_in text ≡ []
no_bytes [] e = refl
no_bytes (b ∷ text) e = absurd (omega (arith, e))

cut : (text : Text) (word : Option (Bor Text)) (rest : Text) → CutsAsciiWord text word rest (λ gap x sep. gap ++ (x ++ (sep ++ rest))) → MatchOption word ((words_in text ≡ []) × (words_in rest ≡ [])) (λ w. words_in text ≡ w.now ∷ words_in rest)
cut text None rest h = (no_word text h.0, no_bytes rest h.1)
cut text (Some w) rest (some, none, fits, (gap, sep, parts, blank, ends)) = first_word text gap w.now sep rest parts some none blank ends

-- the same, where no word is cut already
pub cut_behind : (left : List (Bor Text)) (text : Text) (word : Option (Bor Text)) (rest : Text) → length left < 1 → CutsAsciiWord text word rest (λ gap x sep. gap ++ (x ++ (sep ++ rest))) → MatchOption word ((texts left ++ words_in text ≡ []) × (texts left ++ words_in rest ≡ [])) (λ w. texts left ++ words_in text ≡ w.now ∷ (texts left ++ words_in rest))
cut_behind [] text word rest few h = cut text word rest h
cut_behind (_ ∷ _) text word rest few h = absurd (omega arith)
