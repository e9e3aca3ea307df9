use Rattle.std.proofs.Common.{ℕ, ◌≡◌, ◌+◌, ◌-◌, List, Option, Some, None, true, false, cond, length, take, codes, nat_eq, option_map, Bor, MatchOption, IsCharBoundary, sym, ap, ◌∙◌, subst, arith, ◌≤◌}
use Rattle.std.specs.List.{ends_with}
use Rattle.std.specs.Str.Pattern.{FindsTextSuffix, StripsSuffix}
use Rattle.std.proofs.lemmas.Str.Pattern.{ends_text}
use Rattle.package_notes.specs.Files.{without_ans}
use Rattle.package_notes.proofs.files.without_ans.Goals as goal

abbrev ending : List ℕ
ending = codes ".ans"

stripped : (s : List ℕ) (r : Option (Bor (List ℕ))) → MatchOption r (FindsTextSuffix ending s None) (λ x. StripsSuffix (FindsTextSuffix ending) s x.now)
    → option_map (λ (x : Bor (List ℕ)). x.now) r ≡ without_ans s
stripped s None h = ap (λ t. cond t (Some (take (length s - 4) s)) None) (ends_text false ending s h)
stripped s (Some x) h =
    let four : h.0 ≡ 4 = h.1.0 in
    let within : h.0 ≤ length s = let e : length x.now + h.0 ≡ length s = h.3 in omega arith in
    let cut : IsCharBoundary s (length s - h.0) = subst (λ k. IsCharBoundary s (length s - k)) (sym four) h.1.2 in
    let ends : true ≡ ends_with nat_eq s ending = ends_text true ending s (h.0, h.1, within, cut) in
    ap Some h.2 ∙ ap (λ k. Some (take (length s - k) s)) four ∙ ap (λ t. cond t (Some (take (length s - 4) s)) None) ends

pub returns : goal.returns
returns c = stripped c.args.path.now c.strip_suffix.result c.strip_suffix.ensures.cases
