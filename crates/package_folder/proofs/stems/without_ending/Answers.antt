use Rattle.std.proofs.Common.{ℕ, ◌≡◌, ◌+◌, ◌-◌, List, Option, Some, None, Bool, true, false, cond, length, take, codes, nat_eq, option_map, Bor, MatchOption, IsCharBoundary, refl, sym, ap, ◌∙◌, subst, arith, ◌≤◌}
use Rattle.std.specs.List.{ends_with}
use Rattle.std.specs.Str.Pattern.{FindsTextSuffix, StripsSuffix}
use Rattle.std.proofs.lemmas.Str.Pattern.{ends_text}
use Rattle.package_folder.specs.Names.{without_in}
use Rattle.package_folder.proofs.stems.without_ending.Goals as goal

abbrev ending : List ℕ
ending = codes ".in"

stripped : (s : List ℕ) (r : Option (Bor (List ℕ))) → MatchOption r (FindsTextSuffix ending s None) (λ x. StripsSuffix (FindsTextSuffix ending) s x.now)
    → option_map (λ (x : Bor (List ℕ)). x.now) r ≡ without_in s
stripped s None h = ap (λ t. cond t (Some (take (length s - 3) s)) None) (ends_text false ending s h)
stripped s (Some x) h =
    let three : h.0 ≡ 3 = h.1.0 in
    let within : h.0 ≤ length s = let e : length x.now + h.0 ≡ length s = h.3 in omega arith in
    let cut : IsCharBoundary s (length s - h.0) = subst (λ k. IsCharBoundary s (length s - k)) (sym three) h.1.2 in
    let ends : true ≡ ends_with nat_eq s ending = ends_text true ending s (h.0, h.1, within, cut) in
    ap Some h.2 ∙ ap (λ k. Some (take (length s - k) s)) three ∙ ap (λ t. cond t (Some (take (length s - 3) s)) None) ends

pub returns : goal.returns
returns c = stripped c.args.path.now c.strip_suffix.result c.strip_suffix.ensures.cases
