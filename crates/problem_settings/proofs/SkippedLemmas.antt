-- Keys that are skipped, entry by entry and line by line.
use Rattle.std.proofs.Common.{◌≡◌, List, [], ◌∷◌, ◌++◌, true, false, sym, ap, ◌∙◌, Some, append_assoc}
use Rattle.std.proofs.lemmas.List.{append-nil}
use Rattle.std.specs.Prelude.{ℕ, if◌then◌else◌, is_none}
use Rattle.problem_settings.specs.declared.keys.Key.TheVariants as key
use Rattle.problem_settings.specs.declared.skipped.SkippedKey.{SkippedKey}
use Rattle.problem_settings.specs.Lines.{LineValue}
use Rattle.problem_settings.specs.Fields.{Field, content_of, field_of, after_spaces, trimmed}
use Rattle.problem_settings.specs.Entries.{entries}
use Rattle.problem_settings.specs.Sizes.{is_deeper}
use Rattle.problem_settings.specs.ProblemYaml.{belongs, is_unknown_key, key_named}
use Rattle.problem_settings.specs.DomjudgeIni.{setting_of}
use Rattle.problem_settings.specs.Skipped.{block_skipped, items_skipped, limits_skipped, setting_skipped, settings_skipped, size_skipped, skipped_at, skipped_from}
use Rattle.problem_settings.specs.Views.{below, front, is_under, past}
use Rattle.problem_settings.proofs.EntryLemmas.{deeper_under, entries_first, known_front, past_front}

-- the keys of an entry, and then those of the entries behind it
pub entry_step : (done : List SkippedKey) (head : LineValue) (lines : List LineValue)
    → (done ++ skipped_at record { head = head; below = front (belongs head) lines } (field_of head.text))
    ++ skipped_from (entries belongs (past (belongs head) lines))
    ≡ done ++ skipped_from (entries belongs (head ∷ lines))
entry_step done head lines =
    append_assoc done (skipped_at record { head = head; below = front (belongs head) lines } (field_of head.text))
    (skipped_from (entries belongs (past (belongs head) lines)))
    ∙ ap (λ es. done ++ skipped_from es) (sym (entries_first belongs head lines))

-- below `limits`, only indented lines belong to the entry
pub limits_entry : (head : LineValue) (lines : List LineValue) (field : Field)
    → field_of head.text ≡ Some field → key_named field.key ≡ Some key.Limits
    → limits_skipped record { head = head; below = front (belongs head) lines } field.value
    ≡ limits_skipped record { head = head; below = below lines } field.value
limits_entry head lines field is named =
    let known : is_unknown_key (field_of head.text) ≡ false = ap is_unknown_key is ∙ ap is_none named in
    ap (λ (ls : List LineValue). limits_skipped record { head = head; below = ls } field.value) (known_front head lines known)

-- the key of a line of a block, and then those of the lines behind it
pub block_step : (done : List SkippedKey) (line : LineValue) (lines : List LineValue) → is_under line ≡ true
    → (done ++ size_skipped line (field_of (content_of line.text)))
    ++ block_skipped (entries is_deeper (below (past (is_deeper line) lines)))
    ≡ done ++ block_skipped (entries is_deeper (below (line ∷ lines)))
block_step done line lines under =
    append_assoc done (size_skipped line (field_of (content_of line.text)))
    (block_skipped (entries is_deeper (below (past (is_deeper line) lines))))
    ∙ sym (ap (λ t. done ++ block_skipped (entries is_deeper (if t then line ∷ below lines else []))) under
    ∙ ap (λ es. done ++ block_skipped es) (entries_first is_deeper line (below lines))
    ∙ ap (λ ls. done ++ (size_skipped line (field_of (content_of line.text)) ++ block_skipped (entries is_deeper ls)))
    (past_front (is_deeper line) is_under lines (deeper_under line)))

-- a block ends before a line that is not indented
pub block_end : (done : List SkippedKey) (line : LineValue) (lines : List LineValue) → is_under line ≡ false
    → done ++ block_skipped (entries is_deeper (below (line ∷ lines))) ≡ done
block_end done line lines under =
    ap (λ t. done ++ block_skipped (entries is_deeper (if t then line ∷ below lines else []))) under ∙ append-nil done

-- the key of an item, and then those of the items behind it
pub item_step : (done : List SkippedKey) (line : LineValue) (item : List ℕ) (items : List (List ℕ))
    → (done ++ size_skipped line (field_of (trimmed (after_spaces item)))) ++ items_skipped line items
    ≡ done ++ items_skipped line (item ∷ items)
item_step done line item items = append_assoc done (size_skipped line (field_of (trimmed (after_spaces item)))) (items_skipped line items)

-- the key of a setting, and then those of the lines behind it
pub setting_step : (done : List SkippedKey) (line : LineValue) (lines : List LineValue)
    → (done ++ setting_skipped line (setting_of line.text)) ++ settings_skipped lines
    ≡ done ++ settings_skipped (line ∷ lines)
setting_step done line lines = append_assoc done (setting_skipped line (setting_of line.text)) (settings_skipped lines)
