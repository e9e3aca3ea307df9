use Rattle.std.proofs.Common.{◌≡◌, ◌++◌, take}
use Rattle.command_text.specs.WordList.{word_bytes, spaced}
use Rattle.command_text.proofs.texts.push_spaced.Given as goal

abbrev pub invariant-loop-word : goal.invariant-loop-word
invariant-loop-word l = l.out.items ≡ l.fn.out.items ++ spaced (word_bytes (take l.word-index l.words))
