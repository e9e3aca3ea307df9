-- Steps of a reading, one after another.
use Rattle.std.proofs.Common.{ℕ, ◌≡◌, List, Option, Result, Ok, Err, refl, sym, ap, ◌∙◌, subst}
use Rattle.farm_tree.specs.declared.reads.TreeFile.{TreeFile}
use Rattle.farm_tree.specs.Reading.{file_at}
use Rattle.package_folder.specs.declared.package.PackageFault.{PackageFault}
use Rattle.package_folder.specs.Told.{Answers}
use Rattle.package_folder.specs.Reading.{and_then, file_within}

-- a fault of a step is that of the whole
pub err_then : {A B : Type 0} (e : PackageFault) (defined : Result A PackageFault) (next : A → Result B PackageFault)
    → Answers {A = A} (Err e) defined → Answers {A = B} (Err e) (and_then next defined)
err_then e defined next h = λ going. ap (and_then next) (h going)

pub ok_then : {A B : Type 0} (a : A) (defined : Result A PackageFault) (next : A → Result B PackageFault) (result : Result B PackageFault)
    → Answers (Ok a) defined → Answers result (next a) → Answers result (and_then next defined)
ok_then a defined next result h more = λ going. more going ∙ ap (and_then next) (h (λ stop. stop))

pub file_err : {B : Type 0} (e : PackageFault) (name p q : List ℕ) (files : List TreeFile) (next : Option (List ℕ) → Result B PackageFault) → p ≡ q
    → Answers {A = Option (List ℕ)} (Err e) (file_within name (file_at files p)) → Answers {A = B} (Err e) (and_then next (file_within name (file_at files q)))
file_err {B} e name p q files next same h =
    subst (λ (path : List ℕ). Answers {A = B} (Err e) (and_then next (file_within name (file_at files path)))) same
    (err_then e (file_within name (file_at files p)) next h)

pub file_ok : {B : Type 0} (file : Option (List ℕ)) (name p q : List ℕ) (files : List TreeFile) (next : Option (List ℕ) → Result B PackageFault)
    (result : Result B PackageFault) → p ≡ q → Answers (Ok file) (file_within name (file_at files p)) → Answers result (next file)
    → Answers result (and_then next (file_within name (file_at files q)))
file_ok file name p q files next result same h more =
    subst (λ (path : List ℕ). Answers result (and_then next (file_within name (file_at files path)))) same
    (ok_then file (file_within name (file_at files p)) next result h more)
