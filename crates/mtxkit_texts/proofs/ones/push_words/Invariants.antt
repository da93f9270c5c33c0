use Rattle.std.proofs.Common.{◌≡◌, ◌++◌, length, string_bytes}
use Rattle.sparse_parser.specs.InnerReading.{words_of}
use Rattle.mtxkit_texts.specs.Ones.{copied, spaced}
use Rattle.mtxkit_texts.proofs.ones.push_words.Given as goal

abbrev pub invariant-loop-word : goal.invariant-loop-word
invariant-loop-word l = string_bytes l.ones ++ spaced (copied (words_of l.rest))
    ≡ string_bytes l.initial.ones ++ spaced (copied (words_of l.line))

abbrev pub decreases-loop-word : goal.decreases-loop-word
decreases-loop-word l = length (words_of l.rest)
