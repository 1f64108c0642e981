use Rattle.std.proofs.Common.{◌≡◌, length}
use Rattle.lines.specs.Words.{words_left, usage_of}
use Rattle.lines.proofs.Taken.{TakenBeforeSlash}
use Rattle.lines.proofs.words.Words.numbers_before_slash.Given as goal

abbrev pub invariant-loop-word : goal.invariant-loop-word
invariant-loop-word g l = record {
  taken : TakenBeforeSlash g.T.FromStr.from_str_gives (words_left l.initial.self) (words_left l.self) l.list.items;
  usage : usage_of l.self ≡ usage_of l.initial.self;
}

abbrev pub decreases-loop-word : goal.decreases-loop-word
decreases-loop-word g l = length (words_left l.self)
