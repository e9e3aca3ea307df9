use Rattle.std.proofs.Common.{ℕ, ◌≡◌, ◌≤◌, ◌++◌, ◌∷◌, [], List, length, map, find, take, true, false, Option, Some, None, is_none, Result, Err, All, refl, sym, ap, subst, ◌∙◌, arith, rules, IsUtf8, length-append, ⊎_elim}
use Rattle.std.proofs.lemmas.List.{take_all, drop_all, length-map}
use Rattle.std.proofs.lemmas.Bool.{cases_lt}
use Rattle.std.proofs.lemmas.List.Elements.{All-push}
use Rattle.farm_tree.specs.declared.reads.TreeFile.{TreeFile}
use Rattle.contest_folder.specs.declared.faults.ContestFault.{ContestFault}
use Rattle.contest_folder.specs.declared.faults.ContestFault.TheVariants as fault
use Rattle.contest_folder.specs.declared.lines.Entry.{Entry}
use Rattle.contest_folder.specs.declared.roster.Submission.{Submission}
use Rattle.contest_folder.specs.RosterShape.{IsPlaced, problem_named}
use Rattle.contest_folder.specs.SubmissionLines.{lacks_problem}
use Rattle.contest_folder.specs.Images.{images_of, image_file, lacks_image, submission_of, submissions_imaged, problem_sizes, added, added_all, image_sizes, total_limit, held_or_none}
use Rattle.contest_folder.proofs.Items.{find_item, map_item, image_item, none_is}
use Rattle.contest_folder.proofs.Held.{no_image, an_image, within_before, some_or_none, ended, all_kept}
use Rattle.contest_folder.proofs.images.read_submissions.Goals as goal

pub returns-in_err-image-clause-submissions : goal.returns-in_err-image-clause-submissions
returns-in_err-image-clause-submissions g c = λ files told going.
    let entries = c.args.entries.now in
    let problems = c.args.problems.now in
    let folder = images_of c.args.path.now in
    let item = c.entry-item.result in
    let e = c.in_err-image.field-0.0 in
    let is : c.from_residual-in_err-image.result ≡ Err e = search rules in
    let at : c.as_str.result.now ≡ folder = c.as_str.ensures.value ∙ c.in_ok-folder.ensures in
    let said = rw at at (c.in_err-image.ensures.image files (c.loop-entry.invariant.same ∙ told) (rw is at going)) in
    let missing = no_image item.line (image_file files folder item) e said in
    let found : find (lacks_image files folder) entries ≡ Some item =
    sym (c.loop-entry.invariant.found files told) ∙ find_item (lacks_image files folder) entries c.loop-entry.entry-index item true c.loop-entry-test.true c.entry-item.is missing.0 in
    rw is (ap Err missing.1 ∙ ap (λ (o : Option Entry). submissions_imaged o problems (map (submission_of files folder) entries)) (sym found))

pub loop-entry-preserved : goal.loop-entry-preserved
loop-entry-preserved g c =
    let entries = c.args.entries.now in
    let problems = c.args.problems.now in
    let folder = images_of c.args.path.now in
    let item = c.entry-item.result in
    let i = c.loop-entry.entry-index in
    let image = c.in_ok-image.image in
    let before = c.loop-entry.held in
    let after = c.add.new.self in
    let at : c.as_str.result.now ≡ folder = c.as_str.ensures.value ∙ c.in_ok-folder.ensures in
    let one : Submission = record { team = item.team; problem = item.problem; image = image } in
    let got : (files : List TreeFile) → g.T.Tree.files c.args.tree.now ≡ Some files → (is_none (image_file files folder item) ≡ false) × (image ≡ held_or_none (image_file files folder item)) =
    λ files told. an_image item.line (image_file files folder item) image (rw at at (c.in_ok-image.ensures.image files (c.loop-entry.invariant.same ∙ told) (λ stop. stop))) in
    let placed : IsPlaced problems one =
    some_or_none (problem_named problems item.problem) (none_is (lacks_problem problems) entries i item c.requires.placed c.loop-entry-test.true c.entry-item.is) in
    record {
      found = λ files told.
          sym (find_item (lacks_image files folder) entries i item false c.loop-entry-test.true c.entry-item.is (got files told).0)
          ∙ c.loop-entry.invariant.found files told;
      total = λ files told.
          c.in_ok-add.ensures.total ∙ ap (λ t. added t (length image)) (c.loop-entry.invariant.total files told)
          ∙ ap (λ (im : List ℕ). added (added_all 0 (problem_sizes problems ++ image_sizes (map (submission_of files folder) (take i entries)))) (length im)) (got files told).1
          ∙ sym (image_item (submission_of files folder) (problem_sizes problems) entries i item c.loop-entry-test.true c.entry-item.is);
      held = λ files told within.
          let earlier : before.total ≤ total_limit = within_before before.total (length image) (rw c.in_ok-add.ensures.total at within) in
          c.in_ok-add.ensures.held within
          ∙ ap (λ (ss : List Submission). ss ++ one ∷ []) (c.loop-entry.invariant.held files told earlier)
          ∙ ap (λ (im : List ℕ). map (submission_of files folder) (take i entries) ++ record { team = item.team; problem = item.problem; image = im } ∷ []) (got files told).1
          ∙ sym (map_item (submission_of files folder) entries i item c.loop-entry-test.true c.entry-item.is);
      count = ⊎_elim
          (λ over. let kept = ap (λ (ss : List Submission). length ss) (c.in_ok-add.ensures.past over) in omega (arith, kept, c.loop-entry.invariant.count))
          (λ within. let more = ap (λ (ss : List Submission). length ss) (c.in_ok-add.ensures.held (omega (arith, within))) in omega (arith, more, length-append {A = Submission}, c.loop-entry.invariant.count))
          (cases_lt total_limit after.total);
      placed = ⊎_elim
          (λ over. subst (λ (ss : List Submission). All (IsPlaced problems) ss) (sym (c.in_ok-add.ensures.past over)) c.loop-entry.invariant.placed)
          (λ within. subst (λ (ss : List Submission). All (IsPlaced problems) ss) (sym (c.in_ok-add.ensures.held (omega (arith, within))))
          (All-push (IsPlaced problems) before.submissions.items one c.loop-entry.invariant.placed placed))
          (cases_lt total_limit after.total);
      same = c.in_ok-image.ensures.same ∙ c.loop-entry.invariant.same;
      first = c.in_ok-image.ensures.first (λ e. cc) ∙ c.loop-entry.invariant.first;
    }

pub returns-clause-submissions : goal.returns-clause-submissions
returns-clause-submissions g c = λ files told going.
    let entries = c.args.entries.now in
    let problems = c.args.problems.now in
    let folder = images_of c.args.path.now in
    let i = c.loop-entry.entry-index in
    let over : length entries ≤ i = omega (arith, c.loop-entry-test.false) in
    let all : take i entries ≡ entries = take_all i entries over in
    let none : find (lacks_image files folder) entries ≡ None =
    sym (c.loop-entry.invariant.found files told) ∙ ap (find (lacks_image files folder)) (drop_all i entries over) in
    let total = c.loop-entry.invariant.total files told ∙ ap (λ (es : List Entry). added_all 0 (problem_sizes problems ++ image_sizes (map (submission_of files folder) es))) all in
    let held = λ (within : c.loop-entry.held.total ≤ total_limit). c.loop-entry.invariant.held files told within ∙ ap (λ (es : List Entry). map (submission_of files folder) es) all in
    c.within.ensures.submissions
    ∙ ended c.loop-entry.held problems (map (submission_of files folder) entries) (length entries) (sym (length-map entries (submission_of files folder))) total held
    ∙ ap (λ (o : Option Entry). submissions_imaged o problems (map (submission_of files folder) entries)) (sym none)

pub read_image-requires : goal.read_image-requires
read_image-requires g c =
    subst (λ (e : Entry). IsUtf8 e.file) (sym c.entry-item.is) (c.requires.files c.loop-entry.entry-index c.entry-item.result c.loop-entry-test.true)

pub returns-clause-placed : goal.returns-clause-placed
returns-clause-placed g c = all_kept (IsPlaced c.args.problems.now) c.loop-entry.held.submissions.items c.within.result c.within.ensures.kept c.loop-entry.invariant.placed

one_fault : {A : Type 0} (r : Result A ContestFault) (e f : ContestFault) → r ≡ Err e → r ≡ Err f → e ≡ f
one_fault r e f is at = cc

pub returns-in_err-image-clause-first : goal.returns-in_err-image-clause-first
returns-in_err-image-clause-first g c = λ other.
    let e = c.in_err-image.field-0.0 in
    let is : c.from_residual-in_err-image.result ≡ Err e = search rules in
    c.in_err-image.ensures.first (λ tree. other (is ∙ ap Err (one_fault (Err e) e fault.Tree refl tree))) ∙ c.loop-entry.invariant.first
