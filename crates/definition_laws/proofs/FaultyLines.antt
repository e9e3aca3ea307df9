-- No line before the one that is told has a fault.
use Rattle.std.proofs.Common.{ℕ, ◌≡◌, ◌⊎◌, inl, inr, List, [], ◌∷◌, ◌++◌, Option, Some, None, Result, Ok, Err, Bool, true, false, cond, refl, sym, ap, ◌∙◌, subst}
use Rattle.std.specs.Prelude.{⊤, is_some, nat_lt, codes}
use Rattle.std.specs.Str.{bytes_eq}
use Rattle.problem_settings.specs.declared.sizes.Sizes.{Sizes}
use Rattle.problem_settings.specs.declared.yaml.BadLine.{BadLine}
use Rattle.problem_settings.specs.declared.yaml.YamlWhy.{YamlWhy}
use Rattle.problem_settings.specs.declared.yaml.YamlWhy.TheVariants.{Tab, Indent, NoColon, Repeated}
use Rattle.problem_settings.specs.declared.yaml.Validation.{Validation as Check}
use Rattle.problem_settings.specs.Lines.{LineValue, is_blank, lines_of}
use Rattle.problem_settings.specs.Fields.{Field, indent_of, has_tab, is_indented, field_of}
use Rattle.problem_settings.specs.Scalars.{scalar_of}
use Rattle.problem_settings.specs.Entries.{Entry, entries_after, entries, fault_at, bad, at_line, stray, said_unless, alone, and_then}
use Rattle.problem_settings.specs.Sizes.{no_sizes, is_deeper, with_line, block_from, block_sizes, line_sizes}
use Rattle.problem_settings.specs.ProblemYaml.{key_named, name_in, shallow_in, name_below, name_said, validation_named, validation_said, flags_said, sizes_said, belongs, Said, nothing, with_key, with_field, with_entry, said_from, yaml_in, yaml_of}
use Rattle.definition_laws.specs.FirstFault.{said_of_lines, IsFirstFault}

abbrev Lines : Type 0
Lines = List LineValue

regroup : {A : Type 0} (xs ys zs : List A) → (xs ++ ys) ++ zs ≡ xs ++ (ys ++ zs)
regroup [] ys zs = refl
regroup (x ∷ xs) ys zs = ap (λ z. x ∷ z) (regroup xs ys zs)

nothing_behind : {A : Type 0} (xs : List A) → xs ++ [] ≡ xs
nothing_behind [] = refl
nothing_behind (x ∷ xs) = ap (λ z. x ∷ z) (nothing_behind xs)

-- ---- what is read of the lines below a head, and where its fault stands

record FaultAtHead {A : Type 0} (head : LineValue) (read : Lines → Result A BadLine) (f : BadLine) : Type 0 where
  pub told : f.line ≡ head.number
  pub alone_too : read [] ≡ Err f

record FaultBelow {A : Type 0} (read : Lines → Result A BadLine) (below : Lines) (f : BadLine) : Type 0 where
  pub before : Lines
  pub line : LineValue
  pub behind : Lines
  pub below_is : below ≡ before ++ line ∷ behind
  pub told : f.line ≡ line.number
  pub fine : (a : A) × (read before ≡ Ok a)
  pub faulty : read (before ++ line ∷ []) ≡ Err f

abbrev Stands : {A : Type 0} → LineValue → (Lines → Result A BadLine) → Lines → BadLine → Type 0
Stands {A} head read below f = FaultAtHead {A = A} head read f ⊎ FaultBelow {A = A} read below f

-- each fault of it stands at the head or at a line below, behind lines without one
abbrev IsOrderly : {A : Type 0} → LineValue → (Lines → Result A BadLine) → Type 0
IsOrderly {A} head read = (below : Lines) (f : BadLine) → read below ≡ Err f → Stands {A = A} head read below f

never : {A : Type 0} (head : LineValue) (a : A) → IsOrderly {A = A} head (λ below. Ok a)
never head a below f e = let no' : ⊥ = cc in absurd no'

at_head : {A : Type 0} (head : LineValue) (why : YamlWhy) → IsOrderly {A = A} head (λ below. bad head why)
at_head {A} head why below f e =
    let same : fault_at head why ≡ f = same_fault (fault_at head why) f e in
    inl (record { told = ap (λ (x : BadLine). x.line) (sym same); alone_too = e })
  where
    same_fault : (x y : BadLine) → ◌≡◌ {A = Result A BadLine} (Err x) (Err y) → x ≡ y
    same_fault x y g = cc

mapped : {A B : Type 0} (head : LineValue) (read : Lines → Result A BadLine) (g : A → B) → IsOrderly {A = A} head read → IsOrderly {A = B} head (λ below. and_then (λ a. Ok (g a)) (read below))
mapped {A} {B} head read g orderly below f e = by (read below) refl e
  where
    onto : (r : Result A BadLine) → r ≡ Err f → and_then {B = B} (λ a. Ok (g a)) r ≡ Err f
    onto r k = ap (and_then {B = B} (λ a. Ok (g a))) k

    there : Stands {A = A} head read below f → Stands {A = B} head (λ lines. and_then (λ a. Ok (g a)) (read lines)) below f
    there (inl h) = inl (record { told = h.told; alone_too = onto (read []) h.alone_too })
    there (inr b) = inr (record {
      before = b.before;
      line = b.line;
      behind = b.behind;
      below_is = b.below_is;
      told = b.told;
      fine = (g b.fine.0, ap (and_then {B = B} (λ a. Ok (g a))) b.fine.1);
      faulty = onto (read (b.before ++ b.line ∷ [])) b.faulty;
    })

    by : (r : Result A BadLine) → read below ≡ r → and_then {B = B} (λ a. Ok (g a)) r ≡ Err f → Stands {A = B} head (λ lines. and_then (λ a. Ok (g a)) (read lines)) below f
    by (Ok a) k h = let no' : ⊥ = cc in absurd no'
    by (Err x) k h = let same : x ≡ f = cc in there (orderly below f (k ∙ ap (λ (y : BadLine). Err y) same))

-- a head that says something by itself, and below which no line may stand
alone_at : {A : Type 0} (head : LineValue) (said : Result A YamlWhy) → IsOrderly {A = A} head (λ below. and_then (alone below) (at_line head said))
alone_at {A} head (Err why) below f e = at_head {A = A} head why below f e
alone_at {A} head (Ok a) [] f e = let no' : ⊥ = cc in absurd no'
alone_at {A} head (Ok a) (line ∷ below) f e =
    let same : fault_at line (stray line.text) ≡ f = cc in
    inr (record {
      before = [];
      line = line;
      behind = below;
      below_is = refl;
      told = ap (λ (x : BadLine). x.line) (sym same);
      fine = (a, refl);
      faulty = e;
    })

-- ---- name

record Shallow (depth : ℕ) (lines : Lines) (f : BadLine) : Type 0 where
  pub before : Lines
  pub line : LineValue
  pub behind : Lines
  pub lines_are : lines ≡ before ++ line ∷ behind
  pub told : f.line ≡ line.number
  pub fine : shallow_in depth before ≡ None
  pub faulty : shallow_in depth (before ++ line ∷ []) ≡ Some f

abbrev told_by : LineValue → Bool → Bool → Option BadLine → Option BadLine
told_by line t u rest = cond t (Some (fault_at line Tab)) (cond u (Some (fault_at line Indent)) rest)

shallow_first : (depth : ℕ) (lines : Lines) (f : BadLine) → shallow_in depth lines ≡ Some f → Shallow depth lines f
shallow_first depth [] f e = let no' : ⊥ = cc in absurd no'
shallow_first depth (line ∷ lines) f e = by (has_tab line.text) refl (nat_lt (indent_of line.text) depth) refl e (shallow_first depth lines f)
  where
    here : (why : YamlWhy) → fault_at line why ≡ f → shallow_in depth (line ∷ []) ≡ Some f → Shallow depth (line ∷ lines) f
    here why same faulty = record { before = []; line = line; behind = lines; lines_are = refl; told = ap (λ (x : BadLine). x.line) (sym same); fine = refl; faulty = faulty }

    by : (t : Bool) → has_tab line.text ≡ t → (u : Bool) → nat_lt (indent_of line.text) depth ≡ u → told_by line t u (shallow_in depth lines) ≡ Some f → (shallow_in depth lines ≡ Some f → Shallow depth lines f) → Shallow depth (line ∷ lines) f
    by true k u l h rest = let same : fault_at line Tab ≡ f = cc in here Tab same (ap (λ (t : Bool). told_by line t (nat_lt (indent_of line.text) depth) None) k ∙ h)
    by false k true l h rest = let same : fault_at line Indent ≡ f = cc in here Indent same (ap (λ (t : Bool). told_by line t (nat_lt (indent_of line.text) depth) None) k ∙ (ap (λ (u : Bool). told_by line false u None) l ∙ h))
    by false k false l h rest =
        let r = rest h in
        let skip : (z : Option BadLine) → told_by line (has_tab line.text) (nat_lt (indent_of line.text) depth) z ≡ z
        = λ z. ap (λ (t : Bool). told_by line t (nat_lt (indent_of line.text) depth) z) k ∙ ap (λ (u : Bool). told_by line false u z) l in
        record {
          before = line ∷ r.before;
          line = r.line;
          behind = r.behind;
          lines_are = ap (λ (z : Lines). line ∷ z) r.lines_are;
          told = r.told;
          fine = skip (shallow_in depth r.before) ∙ r.fine;
          faulty = skip (shallow_in depth (r.before ++ r.line ∷ [])) ∙ r.faulty;
        }

name_orderly : (head : LineValue) → IsOrderly {A = List ℕ} head name_below
name_orderly head [] f e = let no' : ⊥ = cc in absurd no'
name_orderly head (line ∷ lines) f e = by (name_in line.text) refl (shallow_in (indent_of line.text) lines) refl e
  where
    by : (r : Result (List ℕ) YamlWhy) → name_in line.text ≡ r → (o : Option BadLine) → shallow_in (indent_of line.text) lines ≡ o → and_then (said_unless o) (at_line line r) ≡ Err f → Stands {A = List ℕ} head name_below (line ∷ lines) f
    by (Err why) k o l h =
        let same : fault_at line why ≡ f = cc in
        inr (record {
          before = [];
          line = line;
          behind = lines;
          below_is = refl;
          told = ap (λ (x : BadLine). x.line) (sym same);
          fine = ([], refl);
          faulty = ap (λ (r : Result (List ℕ) YamlWhy). and_then (said_unless None) (at_line line r)) k ∙ h;
        })
    by (Ok name) k None l h = let no' : ⊥ = cc in absurd no'
    by (Ok name) k (Some x) l h =
        let same : x ≡ f = cc in
        let s = shallow_first (indent_of line.text) lines f (l ∙ ap (λ (y : BadLine). Some y) same) in
        inr (record {
          before = line ∷ s.before;
          line = s.line;
          behind = s.behind;
          below_is = ap (λ (z : Lines). line ∷ z) s.lines_are;
          told = s.told;
          fine = (name, ap (λ (r : Result (List ℕ) YamlWhy). and_then (said_unless (shallow_in (indent_of line.text) s.before)) (at_line line r)) k ∙ ap (λ (o : Option BadLine). said_unless o name) s.fine);
          faulty = ap (λ (r : Result (List ℕ) YamlWhy). and_then (said_unless (shallow_in (indent_of line.text) (s.before ++ s.line ∷ []))) (at_line line r)) k ∙ ap (λ (o : Option BadLine). said_unless o name) s.faulty;
        })

-- ---- entries one after the other

module _ {S : Type 0} (takes : LineValue → LineValue → Bool) (step : S → Entry → Result S BadLine) where
  abbrev read_all : S → List Entry → Result S BadLine
  read_all s [] = Ok s
  read_all s (entry ∷ others) = and_then (λ t. read_all t others) (step s entry)

  abbrev entry_with : LineValue → Lines → Entry
  entry_with head below = record { head = head; below = below }

  -- the first fault of lines
  record First (s : S) (lines : Lines) (f : BadLine) : Type 0 where
    pub before : Lines
    pub line : LineValue
    pub behind : Lines
    pub lines_are : lines ≡ before ++ line ∷ behind
    pub told : f.line ≡ line.number
    pub fine : (t : S) × (read_all s (entries takes before) ≡ Ok t)
    pub faulty : read_all s (entries takes (before ++ line ∷ [])) ≡ Err f

  abbrev AllTaken : LineValue → Lines → Type 0
  AllTaken head [] = ⊤
  AllTaken head (line ∷ lines) = (takes head line ≡ true) × AllTaken head lines

  prefix_taken : (head : LineValue) (xs ys : Lines) → AllTaken head (xs ++ ys) → AllTaken head xs
  prefix_taken head [] ys h = tt
  prefix_taken head (x ∷ xs) ys h = (h.0, prefix_taken head xs ys h.1)

  push_taken : (head : LineValue) (xs : Lines) (y : LineValue) → AllTaken head xs → takes head y ≡ true → AllTaken head (xs ++ y ∷ [])
  push_taken head [] y h k = (k, tt)
  push_taken head (x ∷ xs) y h k = (h.0, push_taken head xs y h.1 k)

  -- lines that belong to the head are one entry with it, and the others go on
  gathered : (head : LineValue) (prefix below more : Lines) → AllTaken head below → entries_after takes head prefix (below ++ more) ≡ entries_after takes head (prefix ++ below) more
  gathered head prefix [] more h = ap (λ (z : Lines). entries_after takes head z more) (sym (nothing_behind prefix))
  gathered head prefix (line ∷ below) more h =
      ap (λ (t : Bool). cond t (entries_after takes head (prefix ++ line ∷ []) (below ++ more)) (entry_with head prefix ∷ entries_after takes line [] (below ++ more))) h.0
      ∙ (gathered head (prefix ++ line ∷ []) below more h.1 ∙ ap (λ (z : Lines). entries_after takes head z more) (regroup prefix (line ∷ []) below))

  one_entry : (head : LineValue) (below : Lines) → AllTaken head below → entries takes (head ∷ below) ≡ entry_with head below ∷ []
  one_entry head below h = ap (λ (z : Lines). entries_after takes head [] z) (sym (nothing_behind below)) ∙ gathered head [] below [] h

  one_more : (head : LineValue) (below : Lines) (line : LineValue) (more : Lines) → AllTaken head below → takes head line ≡ false
      → entries takes (head ∷ (below ++ line ∷ more)) ≡ entry_with head below ∷ entries takes (line ∷ more)
  one_more head below line more h k =
      gathered head [] below (line ∷ more) h
      ∙ ap (λ (t : Bool). cond t (entries_after takes head (below ++ line ∷ []) more) (entry_with head below ∷ entries_after takes line [] more)) k

  read_one : (s : S) (head : LineValue) (below : Lines) → AllTaken head below → read_all s (entries takes (head ∷ below)) ≡ and_then (λ t. Ok t) (step s (entry_with head below))
  read_one s head below h = ap (read_all s) (one_entry head below h)

  -- a fault of this entry
  in_entry : (s : S) (head : LineValue) (below behind : Lines) (f : BadLine) → AllTaken head below → Stands {A = S} head (λ lines. step s (entry_with head lines)) below f → First s (head ∷ (below ++ behind)) f
  in_entry s head below behind f h (inl at) = record {
    before = [];
    line = head;
    behind = below ++ behind;
    lines_are = refl;
    told = at.told;
    fine = (s, refl);
    faulty = ap (and_then (λ t. Ok t)) at.alone_too;
  }
  in_entry s head below behind f h (inr at) =
      let taken : AllTaken head (at.before ++ at.line ∷ at.behind) = subst (AllTaken head) at.below_is h in
      let taken_one : AllTaken head ((at.before ++ at.line ∷ []) ++ at.behind) = subst (AllTaken head) (sym (regroup at.before (at.line ∷ []) at.behind)) taken in
      record {
        before = head ∷ at.before;
        line = at.line;
        behind = at.behind ++ behind;
        lines_are = ap (λ (z : Lines). head ∷ (z ++ behind)) at.below_is ∙ ap (λ (z : Lines). head ∷ z) (regroup at.before (at.line ∷ at.behind) behind);
        told = at.told;
        fine = (at.fine.0, read_one s head at.before (prefix_taken head at.before (at.line ∷ at.behind) taken) ∙ ap (and_then (λ t. Ok t)) at.fine.1);
        faulty = read_one s head (at.before ++ at.line ∷ []) (prefix_taken head (at.before ++ at.line ∷ []) at.behind taken_one) ∙ ap (and_then (λ t. Ok t)) at.faulty;
      }

  -- behind an entry without a fault
  behind_entry : (s t : S) (head : LineValue) (below : Lines) (line : LineValue) (lines : Lines) (f : BadLine) → AllTaken head below → takes head line ≡ false → step s (entry_with head below) ≡ Ok t
      → First t (line ∷ lines) f → First s (head ∷ (below ++ line ∷ lines)) f
  behind_entry s t head below line lines f h k ok first' = by first'.before first'.lines_are first'.fine first'.faulty
    where
      goes_on : (x : LineValue) (more : Lines) → line ≡ x → read_all s (entries takes (head ∷ (below ++ x ∷ more))) ≡ read_all t (entries takes (x ∷ more))
      goes_on x more same =
          ap (read_all s) (one_more head below x more h (ap (takes head) (sym same) ∙ k))
          ∙ ap (and_then (λ u. read_all u (entries takes (x ∷ more)))) ok

      by : (before : Lines) → line ∷ lines ≡ before ++ first'.line ∷ first'.behind → ((u : S) × (read_all t (entries takes before) ≡ Ok u)) → read_all t (entries takes (before ++ first'.line ∷ [])) ≡ Err f → First s (head ∷ (below ++ line ∷ lines)) f
      by [] are fine faulty =
          let same : line ≡ first'.line = cc in
          record {
            before = head ∷ below;
            line = first'.line;
            behind = first'.behind;
            lines_are = ap (λ (z : Lines). head ∷ (below ++ z)) are;
            told = first'.told;
            fine = (t, read_one s head below h ∙ ap (and_then (λ u. Ok u)) ok);
            faulty = goes_on first'.line [] same ∙ faulty;
          }
      by (x ∷ before) are fine faulty =
          let same : line ≡ x = cc in
          record {
            before = head ∷ (below ++ x ∷ before);
            line = first'.line;
            behind = first'.behind;
            lines_are = ap (λ (z : Lines). head ∷ (below ++ z)) are ∙ ap (λ (z : Lines). head ∷ z) (sym (regroup below (x ∷ before) (first'.line ∷ first'.behind)));
            told = first'.told;
            fine = (fine.0, goes_on x before same ∙ fine.1);
            faulty = ap (λ (z : Lines). read_all s (entries takes (head ∷ z))) (regroup below (x ∷ before) (first'.line ∷ [])) ∙ (goes_on x (before ++ first'.line ∷ []) same ∙ faulty);
          }

  module _ (orderly : (s : S) (head : LineValue) → IsOrderly {A = S} head (λ lines. step s (entry_with head lines))) where
    first_after : (s : S) (head : LineValue) (below lines : Lines) (f : BadLine) → AllTaken head below → read_all s (entries_after takes head below lines) ≡ Err f → First s (head ∷ (below ++ lines)) f
    first_after s head below [] f h e = in_entry s head below [] f h (orderly s head below f (only (step s (entry_with head below)) e))
      where
        only : (r : Result S BadLine) → and_then (λ t. Ok t) r ≡ Err f → r ≡ Err f
        only (Ok t) k = let no' : ⊥ = cc in absurd no'
        only (Err x) k = let same : x ≡ f = cc in ap (λ (y : BadLine). Err y) same
    first_after s head below (line ∷ lines) f h e =
        by (takes head line) refl e (first_after s head (below ++ line ∷ []) lines f) (λ t. first_after t line [] lines f tt)
      where
        by : (b : Bool) → takes head line ≡ b → read_all s (cond b (entries_after takes head (below ++ line ∷ []) lines) (entry_with head below ∷ entries_after takes line [] lines)) ≡ Err f
            → (AllTaken head (below ++ line ∷ []) → read_all s (entries_after takes head (below ++ line ∷ []) lines) ≡ Err f → First s (head ∷ ((below ++ line ∷ []) ++ lines)) f)
            → ((t : S) → read_all t (entries_after takes line [] lines) ≡ Err f → First t (line ∷ lines) f) → First s (head ∷ (below ++ line ∷ lines)) f
        by true k g gather next = subst (λ (z : Lines). First s (head ∷ z) f) (regroup below (line ∷ []) lines) (gather (push_taken head below line h k) g)
        by false k g gather next = which (step s (entry_with head below)) refl g
          where
            which : (r : Result S BadLine) → step s (entry_with head below) ≡ r → and_then (λ t. read_all t (entries_after takes line [] lines)) r ≡ Err f → First s (head ∷ (below ++ line ∷ lines)) f
            which (Ok t) l m = behind_entry s t head below line lines f h k l (next t m)
            which (Err x) l m = let same : x ≡ f = cc in in_entry s head below (line ∷ lines) f h (orderly s head below f (l ∙ ap (λ (y : BadLine). Err y) same))

    first_of_lines : (s : S) (lines : Lines) (f : BadLine) → read_all s (entries takes lines) ≡ Err f → First s lines f
    first_of_lines s [] f e = let no' : ⊥ = cc in absurd no'
    first_of_lines s (line ∷ lines) f e = first_after s line [] lines f tt e

-- ---- sizes on lines of their own

line_orderly : {A : Type 0} (head : LineValue) (r : Result A YamlWhy) → IsOrderly {A = A} head (λ below. at_line head r)
line_orderly {A} head (Ok a) = never {A = A} head a
line_orderly {A} head (Err why) = at_head {A = A} head why

abbrev step_block : ℕ → Sizes → Entry → Result Sizes BadLine
step_block depth sizes entry = at_line entry.head (with_line depth sizes entry.head.text)

block_is : (depth : ℕ) (sizes : Sizes) (items : List Entry) → block_from depth sizes items ≡ read_all is_deeper (step_block depth) sizes items
block_is depth sizes [] = refl
block_is depth sizes (item ∷ items) = by (step_block depth sizes item) (λ s. block_is depth s items)
  where
    by : (r : Result Sizes BadLine) → ((s : Sizes) → block_from depth s items ≡ read_all is_deeper (step_block depth) s items)
        → and_then (λ s. block_from depth s items) r ≡ and_then (λ s. read_all is_deeper (step_block depth) s items) r
    by (Ok s) rest = rest s
    by (Err f) rest = refl

block_orderly : (head : LineValue) → IsOrderly {A = Sizes} head block_sizes
block_orderly head [] f e = let no' : ⊥ = cc in absurd no'
block_orderly head (line ∷ lines) f e = inr (by first'.before first'.lines_are first'.fine first'.faulty)
  where
    depth : ℕ
    depth = indent_of line.text

    first' : First is_deeper (step_block (indent_of line.text)) no_sizes (line ∷ lines) f
    first' =
        first_of_lines is_deeper (step_block (indent_of line.text)) (λ s at. line_orderly {A = Sizes} at (with_line (indent_of line.text) s at.text)) no_sizes (line ∷ lines) f
        (sym (block_is (indent_of line.text) no_sizes (entries is_deeper (line ∷ lines))) ∙ e)

    sizes_by : (x : LineValue) (more : Lines) → line ≡ x → block_sizes (x ∷ more) ≡ read_all is_deeper (step_block (indent_of line.text)) no_sizes (entries is_deeper (x ∷ more))
    sizes_by x more same =
        ap (λ (y : LineValue). block_from (indent_of y.text) no_sizes (entries is_deeper (x ∷ more))) (sym same)
        ∙ block_is (indent_of line.text) no_sizes (entries is_deeper (x ∷ more))

    by : (before : Lines) → line ∷ lines ≡ before ++ first'.line ∷ first'.behind
        → ((t : Sizes) × (read_all is_deeper (step_block (indent_of line.text)) no_sizes (entries is_deeper before) ≡ Ok t))
        → read_all is_deeper (step_block (indent_of line.text)) no_sizes (entries is_deeper (before ++ first'.line ∷ [])) ≡ Err f → FaultBelow {A = Sizes} block_sizes (line ∷ lines) f
    by [] are fine faulty =
        let same : line ≡ first'.line = cc in
        record {
          before = [];
          line = first'.line;
          behind = first'.behind;
          below_is = are;
          told = first'.told;
          fine = (no_sizes, refl);
          faulty = sizes_by first'.line [] same ∙ faulty;
        }
    by (x ∷ before) are fine faulty =
        let same : line ≡ x = cc in
        record {
          before = x ∷ before;
          line = first'.line;
          behind = first'.behind;
          below_is = are;
          told = first'.told;
          fine = (fine.0, sizes_by x before same ∙ fine.1);
          faulty = sizes_by x (before ++ first'.line ∷ []) same ∙ faulty;
        }

-- ---- the keys

when : {A : Type 0} (head : LineValue) (t : Bool) (read other : Lines → Result A BadLine) → IsOrderly {A = A} head read → IsOrderly {A = A} head other → IsOrderly {A = A} head (λ below. cond t (read below) (other below))
when head true read other h k = h
when head false read other h k = k

abbrev at_key : LineValue → Lines → Entry
at_key head below = record { head = head; below = below }

name_said_orderly : (head : LineValue) (value : List ℕ) → IsOrderly {A = List ℕ} head (λ below. name_said (at_key head below) value)
name_said_orderly head value =
    when {A = List ℕ} head (is_blank value) name_below (λ below. and_then (alone below) (at_line head (scalar_of value))) (name_orderly head) (alone_at {A = List ℕ} head (scalar_of value))

sizes_said_orderly : (head : LineValue) (value : List ℕ) → IsOrderly {A = Sizes} head (λ below. sizes_said (at_key head below) value)
sizes_said_orderly head value =
    when {A = Sizes} head (is_blank value) block_sizes (λ below. and_then (alone below) (at_line head (line_sizes value))) (block_orderly head) (alone_at {A = Sizes} head (line_sizes value))

repeated_or : {A : Type 0} (said : Said) (head : LineValue) (t : Bool) (read : Lines → Result A BadLine) (g : A → Said) → IsOrderly {A = A} head read
    → IsOrderly {A = Said} head (λ below. cond t (bad head Repeated) (and_then (λ a. Ok (g a)) (read below)))
repeated_or {A} said head t read g h =
    when {A = Said} head t (λ below. bad head Repeated) (λ below. and_then (λ a. Ok (g a)) (read below)) (at_head {A = Said} head Repeated) (mapped {A = A} {B = Said} head read g h)

-- the keys: their crate names the type to no other
abbrev read_by : {A : Type 0} → (List ℕ → Option A) → Type 0
read_by {A} read = A

abbrev Key : Type 0
Key = read_by key_named

abbrev key_by : Bool → Bool → Bool → Bool → Option Key
key_by name validation flags limits =
    cond name (key_named (codes "name"))
    (cond validation (key_named (codes "validation")) (cond flags (key_named (codes "validator_flags")) (cond limits (key_named (codes "limits")) None)))

key_orderly : (said : Said) (head : LineValue) (value : List ℕ) (t u v w : Bool) → IsOrderly {A = Said} head (λ below. with_key (key_by t u v w) said (at_key head below) value)
key_orderly said head value true u v w =
    repeated_or {A = List ℕ} said head (is_some said.name) (λ below. name_said (at_key head below) value) (λ name. record said { name = Some name }) (name_said_orderly head value)
key_orderly said head value false true v w =
    repeated_or {A = Check} said head (is_some said.validation) (λ below. validation_said (at_key head below) value) (λ check. record said { validation = Some check })
    (alone_at {A = Check} head (and_then validation_named (scalar_of value)))
key_orderly said head value false false true w =
    repeated_or {A = List ℕ} said head (is_some said.flags) (λ below. flags_said (at_key head below) value) (λ flags. record said { flags = Some flags })
    (alone_at {A = List ℕ} head (scalar_of value))
key_orderly said head value false false false true =
    repeated_or {A = Sizes} said head (is_some said.sizes) (λ below. sizes_said (at_key head below) value) (λ sizes. record said { sizes = Some sizes }) (sizes_said_orderly head value)
key_orderly said head value false false false false = never {A = Said} head said

field_orderly : (said : Said) (head : LineValue) (field : Option Field) → IsOrderly {A = Said} head (λ below. with_field said (at_key head below) field)
field_orderly said head None = at_head {A = Said} head NoColon
field_orderly said head (Some field) =
    key_orderly said head field.value (bytes_eq field.key (codes "name")) (bytes_eq field.key (codes "validation")) (bytes_eq field.key (codes "validator_flags")) (bytes_eq field.key (codes "limits"))

entry_orderly : (said : Said) (head : LineValue) → IsOrderly {A = Said} head (λ below. with_entry said (at_key head below))
entry_orderly said head =
    when {A = Said} head (is_indented head.text) (λ below. bad head (stray head.text)) (λ below. with_field said (at_key head below) (field_of head.text))
    (at_head {A = Said} head (stray head.text)) (field_orderly said head (field_of head.text))

said_is : (said : Said) (items : List Entry) → said_from said items ≡ read_all belongs with_entry said items
said_is said [] = refl
said_is said (entry ∷ others) = by (with_entry said entry) (λ s. said_is s others)
  where
    by : (r : Result Said BadLine) → ((s : Said) → said_from s others ≡ read_all belongs with_entry s others) → and_then (λ s. said_from s others) r ≡ and_then (λ s. read_all belongs with_entry s others) r
    by (Ok s) rest = rest s
    by (Err f) rest = refl

faulty_said : (r : Result Said BadLine) (f : BadLine) → and_then (λ said. Ok (yaml_in said)) r ≡ Err f → r ≡ Err f
faulty_said (Ok said) f e = let no' : ⊥ = cc in absurd no'
faulty_said (Err x) f e = let same : x ≡ f = cc in ap (λ (y : BadLine). Err y) same

pub first_fault : (text : List ℕ) (fault : BadLine) → yaml_of text ≡ Err fault → IsFirstFault (lines_of text) fault
unfolding yaml_of
first_fault text fault e =
    let lines = lines_of text in
    let said : read_all belongs with_entry nothing (entries belongs lines) ≡ Err fault
    = sym (said_is nothing (entries belongs lines)) ∙ faulty_said (said_of_lines lines) fault e in
    let first' = first_of_lines belongs with_entry entry_orderly nothing lines fault said in
    record {
      before = first'.before;
      line = first'.line;
      behind = first'.behind;
      lines_are = first'.lines_are;
      told = first'.told;
      fine = (first'.fine.0, said_is nothing (entries belongs first'.before) ∙ first'.fine.1);
      faulty = said_is nothing (entries belongs (first'.before ++ first'.line ∷ [])) ∙ first'.faulty;
    }
