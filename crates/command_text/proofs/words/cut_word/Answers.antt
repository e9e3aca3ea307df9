use Rattle.command_text.proofs.WordLemmas.{first_word}
use Rattle.command_text.proofs.words.cut_word.Goals as goal

pub returns : goal.returns
returns c =
    rw (c.split_at.ensures.front, c.split_at.ensures.back)
    (first_word c.args.text.now _ c.len_of_word.ensures.word c.requires.some c.requires.word c.len_of_word.ensures.within c.len_of_word.ensures.end)
