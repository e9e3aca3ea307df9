-- The summary of a table, line by line.
use Rattle.std.proofs.Common.{ℕ, ◌≡◌, ◌+◌, ◌<◌, List, [], ◌∷◌, ◌++◌, sym, ap, ◌∙◌, append_assoc, append-nil, length, take, get_or, codes}
use Rattle.std.proofs.lemmas.List.{take_more}
use Rattle.farm_kinds.specs.declared.kinds.Kind.{Kind}
use Rattle.farm_kinds.specs.declared.outcomes.TableRow.{TableRow}
use Rattle.farm_kinds.specs.Kinds.{name_of, every_kind}
use Rattle.judge_commands.specs.Making.{count_line, kind_lines, digest_line, summary_text}

one_more : (rows : List TableRow) (kinds : List Kind) (next : Kind) → kind_lines rows (kinds ++ next ∷ []) ≡ kind_lines rows kinds ++ count_line rows (name_of next)
one_more rows [] next = append-nil (count_line rows (name_of next))
one_more rows (kind ∷ kinds) next =
    ap (λ t. count_line rows (name_of kind) ++ t) (one_more rows kinds next)
    ∙ sym (append_assoc (count_line rows (name_of kind)) (kind_lines rows kinds) (count_line rows (name_of next)))

pub kinds_more : (rows : List TableRow) (kinds : List Kind) (i : ℕ) (d : Kind) → i < length kinds
    → kind_lines rows (take (i + 1) kinds) ≡ kind_lines rows (take i kinds) ++ count_line rows (name_of (get_or kinds i d))
kinds_more rows kinds i d h = ap (kind_lines rows) (take_more kinds i d h) ∙ one_more rows (take i kinds) (get_or kinds i d)

-- the lines of the kinds, of `compiler-error` and of the digest, one behind the other
pub summary_is : (rows read : List TableRow) (none kinds counts all : List ℕ) → read ≡ rows → none ≡ [] → kinds ≡ none ++ kind_lines read every_kind
    → counts ≡ kinds ++ count_line read (codes "compiler-error") → all ≡ counts ++ digest_line rows → all ≡ summary_text rows
summary_is rows read none kinds counts all same empty one two three =
    let first : kinds ≡ kind_lines rows every_kind = one ∙ ap (λ t. t ++ kind_lines read every_kind) empty ∙ ap (λ rs. kind_lines rs every_kind) same in
    three ∙ ap (λ t. t ++ digest_line rows) (two ∙ ap (λ t. t ++ count_line read (codes "compiler-error")) first)
    ∙ ap (λ rs. kind_lines rows every_kind ++ count_line rs (codes "compiler-error") ++ digest_line rows) same
    ∙ append_assoc (kind_lines rows every_kind) (count_line rows (codes "compiler-error")) (digest_line rows)
