-- The lines of a journal, one after another.
use Rattle.std.proofs.Common.{ℕ, ◌≡◌, ◌+◌, ◌<◌, List, [], ◌∷◌, ◌++◌, sym, ap, ◌∙◌, append_assoc, length, take, get_or}
use Rattle.std.proofs.lemmas.List.{take_more, append-nil}
use Rattle.farm_board.specs.declared.entries.Call.{Call}
use Rattle.judge_commands.specs.Judged.{journal_line, journal_text}

one_more : (calls : List Call) (next : Call) → journal_text (calls ++ next ∷ []) ≡ journal_text calls ++ journal_line next
one_more [] next = append-nil (journal_line next)
one_more (call ∷ calls) next =
    ap (λ t. journal_line call ++ t) (one_more calls next) ∙ sym (append_assoc (journal_line call) (journal_text calls) (journal_line next))

pub journal_more : (calls : List Call) (i : ℕ) (d : Call) → i < length calls → journal_text (take (i + 1) calls) ≡ journal_text (take i calls) ++ journal_line (get_or calls i d)
journal_more calls i d h = ap journal_text (take_more calls i d h) ∙ one_more (take i calls) (get_or calls i d)
