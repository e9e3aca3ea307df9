use Rattle.std.proofs.Common.{ℕ, ◌≡◌, ◌++◌, List, Result, Ok, Err, OnOk, codes, append_assoc, sym, ap, ◌∙◌}
use Rattle.std.specs.Fmt.{decimal}
use Rattle.contest_folder.specs.FaultTexts.{printed}
use Rattle.contest_folder.proofs.texts.push_wide.Goals as goal

further : {T E : Type 0} (r : Result T E) (old new last prefix between tail : List ℕ) → OnOk r (last ≡ new ++ (between ++ tail)) → new ≡ old ++ prefix
    → OnOk r (last ≡ old ++ (prefix ++ between ++ tail))
further (Ok x) old new last prefix between tail h e =
    h ∙ ap (λ t. t ++ (between ++ tail)) e ∙ append_assoc old prefix (between ++ tail) ∙ ap (λ t. old ++ t) (sym (append_assoc prefix between tail))
further (Err x) old new last prefix between tail h e = h

pub returns : goal.returns
returns c =
    further c.push_counted.result c.args.text.now.items c.push_named.new.text.items c.push_counted.new.text.items (codes "wide answer " ++ printed c.args.name.now)
    (codes " token ") (decimal c.args.at) c.push_counted.ensures c.in_ok-push_named.ensures
