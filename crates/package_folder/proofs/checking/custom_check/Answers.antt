use Rattle.std.proofs.Common.{◌≡◌, ◌≤◌, List, ℕ, Result, Ok, Err, Contains, length, refl, sym, ap, subst, ◌∙◌, arith, rules}
use Rattle.std.proofs.lemmas.Option.{MatchOption-at_some}
use Rattle.farm_tree.specs.declared.entries.Entry.{Entry}
use Rattle.farm_tree.specs.Listing.{IsListing}
use Rattle.package_folder.specs.Reading.{validators_of, distinct, only_validator}
use Rattle.package_folder.proofs.Validators.{listed_none, listed_one, listed_many}
use Rattle.package_folder.proofs.checking.custom_check.Goals as goal

pub returns-in-empty-clause-check : goal.returns-in-empty-clause-check
returns-in-empty-clause-check g c = λ files told.
    let path = c.args.path.now in
    let folder : c.as_str.result.now ≡ validators_of path = c.as_str.ensures.value ∙ c.in_ok-folder.ensures in
    let listing = subst (λ (f : List ℕ). IsListing f files c.in-Ok.entries) folder (MatchOption-at_some _ _ files told c.in-Ok.ensures.answer).1 in
    let few : length c.in-Ok.entries ≡ 0 = rw c.as_slice.ensures at (let h : length c.as_slice.result.now ≡ 0 = omega arith in h) in
    λ going. sym (listed_none files path c.args.flags (validators_of path) c.in-Ok.entries listing few)

pub returns-in-len1-clause-check : goal.returns-in-len1-clause-check
returns-in-len1-clause-check g c = λ files told.
    let path = c.args.path.now in
    let folder : c.as_str.result.now ≡ validators_of path = c.as_str.ensures.value ∙ c.in_ok-folder.ensures in
    let listing = subst (λ (f : List ℕ). IsListing f files c.in-Ok.entries) folder (MatchOption-at_some _ _ files told c.in-Ok.ensures.answer).1 in
    let one : length c.in-Ok.entries ≡ 1 = rw c.as_slice.ensures at (let h : length c.as_slice.result.now ≡ 1 = omega arith in h) in
    let among : Contains c.in-Ok.entries c.entry-item.result =
    rw c.as_slice.ensures at (let h : Contains c.as_slice.result.now c.entry-item.result = (0, omega arith, sym c.entry-item.is) in h) in
    λ going. c.validator_at.ensures.check files (c.in-Ok.ensures.same ∙ told) going
    ∙ sym (listed_one files path c.args.flags (validators_of path) c.in-Ok.entries c.entry-item.result listing one among)

pub returns-in_default-clause-check : goal.returns-in_default-clause-check
returns-in_default-clause-check g c = λ files told.
    let path = c.args.path.now in
    let folder : c.as_str.result.now ≡ validators_of path = c.as_str.ensures.value ∙ c.in_ok-folder.ensures in
    let listing = subst (λ (f : List ℕ). IsListing f files c.in-Ok.entries) folder (MatchOption-at_some _ _ files told c.in-Ok.ensures.answer).1 in
    let many : 2 ≤ length c.in-Ok.entries = rw c.as_slice.ensures at (let h : 2 ≤ length c.as_slice.result.now = omega arith in h) in
    λ going. rw c.as_slice.ensures (sym (listed_many files path c.args.flags (validators_of path) c.in-Ok.entries listing many))
