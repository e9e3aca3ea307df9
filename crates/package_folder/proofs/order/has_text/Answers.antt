use Rattle.std.proofs.Common.{◌≡◌, List, ℕ, length, Result, Ok, Err, Bool, true, false, is_ok, is_some, sym, ap, ◌∙◌, find, string_bytes, bytes_eq, rules, Option, Some, None}
use Rattle.std.specs.List.{list_any}
use Rattle.std.specs.List.Sorted.{IsSearchInRange, IsBinarySearchResult}
use Rattle.std.proofs.lemmas.Fn.{always_returns_same}
use Rattle.package_folder.specs.Order.{compare_bytes, IsRising}
use Rattle.package_folder.specs.Paths.{texts}
use Rattle.package_folder.proofs.Searches.{searched, any_found}
use Rattle.package_folder.proofs.Strings.{Str, any_texts}
use Rattle.package_folder.proofs.order.has_text.Goals as goal

is_there : (strings : List Str) (t : List ℕ) (r : Result ℕ ℕ) → IsRising (texts strings) → IsSearchInRange r (length strings)
    → IsBinarySearchResult (λ (s : Str). compare_bytes (string_bytes s) t) strings r → is_ok r ≡ is_some (find (λ (s : Str). bytes_eq t (string_bytes s)) strings)
is_there strings t (Ok at) rising within h = sym (ap is_some (searched (λ (s : Str). string_bytes s) t strings (Ok at) rising within h).2)
is_there strings t (Err at) rising within h = sym (ap is_some (searched (λ (s : Str). string_bytes s) t strings (Err at) rising within h))

pub returns : goal.returns
returns c =
    let facts = c.binary_search_by.ensures in
    let text = c.args.text.now in
    let by_bytes = facts.position (λ (s : Str). compare_bytes (string_bytes s) text) (always_returns_same _ _ _ (λ a r g called. (search rules, search rules))) in
    c.is_ok.ensures.value ∙ is_there c.args.strings.now text c.binary_search_by.result c.requires facts.bound by_bytes
    ∙ sym (any_found (λ (s : Str). bytes_eq text (string_bytes s)) c.args.strings.now) ∙ sym (any_texts (bytes_eq text) c.args.strings.now)
