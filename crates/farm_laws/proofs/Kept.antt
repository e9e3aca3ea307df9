-- Changes of the judge that leave every row as it was.
use Rattle.std.proofs.Common.{ℕ, zero, suc, ◌≡◌, ◌-◌, List, [], ◌∷◌, Option, Some, None, Bool, true, false, cond, refl, sym, ap, ◌∙◌, length, map, set, slice_get, take}
use Rattle.std.specs.Prelude.{nat_lt}
use Rattle.std.specs.List.{fold}
use Rattle.std.specs.Option.{option_map, option_and_then, unwrap_or}
use Rattle.std.proofs.lemmas.Option.{slice_get-map}
use Rattle.farm_kinds.specs.declared.kinds.Kind.{Kind}
use Rattle.farm_kinds.specs.declared.outcomes.AskEnd.TheVariants as ask
use Rattle.farm_kinds.specs.declared.outcomes.Mode.{Mode}
use Rattle.farm_kinds.specs.declared.outcomes.Task.{Task}
use Rattle.farm_model.specs.Numbered.{item_of, change_item}
use Rattle.farm_model.specs.Refusing.{refused_or}
use Rattle.farm_model.specs.Leases.{held_count}
use Rattle.farm_model.specs.Rows.{Row}
use Rattle.farm_model.specs.Judgings.{Judging, task_of, judging_rows, mark_handed, mark_asked, mark_dropped, with_asked}
use Rattle.farm_model.specs.Judge.{JudgeState, claim_refusal, claimed, first_open, judge_claim, open_of, batch_size, hand_out, hand_out_all, batch_from, fetch_refusal, judge_fetch, renew_refusal, renew_leases, judge_renew, ask_refusal, judge_ask, drop_judging}
use Rattle.farm_laws.proofs.Items.{item_at}
use Rattle.farm_laws.proofs.Cells.{cell_at}

-- Lists whose items are changed

-- a change of an item that keeps what is seen of it keeps what is seen of all
seen_same : {A B : Type 0} (view : A → B) (f : A → A) → ((x : A) → view (f x) ≡ view x) → (xs : List A) (i : ℕ) (x : A) → slice_get xs i ≡ Some x → map view (set xs i (f x)) ≡ map view xs
seen_same view f h [] i x e = cc
seen_same view f h (y ∷ xs) zero x e = let same : y ≡ x = cc in ap (λ w. w ∷ map view xs) (h x ∙ ap view (sym same))
seen_same view f h (y ∷ xs) (suc i) x e = ap (λ ws. view y ∷ ws) (seen_same view f h xs i x e)

pub changed_same : {A B : Type 0} (view : A → B) (f : A → A) → ((x : A) → view (f x) ≡ view x) → (xs : List A) (n : ℕ) (o : Option A) → item_of xs n ≡ o → map view (change_item xs n f o) ≡ map view xs
changed_same view f h xs n None e = refl
changed_same view f h xs n (Some x) e = seen_same view f h xs (n - 1) x (item_at xs n x e).1

-- What is seen of rows alone

abbrev pub lengths_of : List Judging → List ℕ
lengths_of judgings = map (λ judging. length judging.row) judgings

row_lengths : (judgings : List Judging) → lengths_of judgings ≡ map (λ (row : Row). length row) (judging_rows judgings)
row_lengths [] = refl
row_lengths (g ∷ judgings) = ap (λ ls. length g.row ∷ ls) (row_lengths judgings)

pub lengths_same : (new old : List Judging) → judging_rows new ≡ judging_rows old → lengths_of new ≡ lengths_of old
lengths_same new old same = row_lengths new ∙ ap (map (λ (row : Row). length row)) same ∙ sym (row_lengths old)

-- the kind in a cell of a row, where there is one
abbrev kind_of_row : Option Row → ℕ → Option Kind
kind_of_row o t = unwrap_or (option_and_then (λ row. item_of row t) o) None

kind_by_row : (b : Bool) (o : Option Judging) (t : ℕ)
    → unwrap_or (option_and_then (λ judging. item_of judging.row t) (cond b o None)) None ≡ kind_of_row (cond b (option_map (λ judging. judging.row) o) None) t
kind_by_row true None t = refl
kind_by_row true (Some g) t = refl
kind_by_row false o t = refl

cell_by_rows : (judgings : List Judging) (j t : ℕ) → cell_at judgings j t ≡ kind_of_row (item_of (judging_rows judgings) j) t
cell_by_rows judgings j t =
    kind_by_row (nat_lt 0 j) (slice_get judgings (j - 1)) t
    ∙ ap (λ (o : Option Row). kind_of_row (cond (nat_lt 0 j) o None) t) (sym (slice_get-map (λ judging. judging.row) judgings (j - 1)))

pub cells_same : (new old : List Judging) (j t : ℕ) → judging_rows new ≡ judging_rows old → cell_at new j t ≡ cell_at old j t
cells_same new old j t same = cell_by_rows new j t ∙ ap (λ (rows : List Row). kind_of_row (item_of rows j) t) same ∙ sym (cell_by_rows old j t)

abbrev pub modes_of : List Judging → List Mode
modes_of judgings = map (λ judging. judging.mode) judgings

-- Changes of the judge

-- the rule, and the mode and the row of every judging, are as they were
pub record KeepsRows (old new : JudgeState) : Type 0 where
  pub rule : new.rule ≡ old.rule
  pub modes : modes_of new.judgings ≡ modes_of old.judgings
  pub rows : judging_rows new.judgings ≡ judging_rows old.judgings

pub same_rows : (s : JudgeState) → KeepsRows s s
same_rows s = record { rule = refl; modes = refl; rows = refl }

-- what is refused changes nothing
refused_keeps : {R : Type 0} (s : JudgeState) (refusal : Option R) (done : JudgeState × R) → KeepsRows s done.0 → KeepsRows s (refused_or s refusal done).0
refused_keeps s None done kept = kept
refused_keeps s (Some x) done kept = same_rows s

-- a task that is handed out is marked, and a lease on it is added
claimed_keeps : (s : JudgeState) (host : ℕ) (task : Option Task) → KeepsRows s (claimed s host task).0
claimed_keeps s host None = same_rows s
claimed_keeps s host (Some task) = record {
  rule = refl;
  modes = changed_same (λ (judging : Judging). judging.mode) (mark_handed task.test) (λ judging. refl) s.judgings task.judging (item_of s.judgings task.judging) refl;
  rows = changed_same (λ (judging : Judging). judging.row) (mark_handed task.test) (λ judging. refl) s.judgings task.judging (item_of s.judgings task.judging) refl;
}

pub claim_keeps : (s : JudgeState) (host : ℕ) → KeepsRows s (judge_claim s host).0
claim_keeps s host = refused_keeps s (claim_refusal s.leases host) (claimed s host (first_open s)) (claimed_keeps s host (first_open s))

hands_keep : (s : JudgeState) (host : ℕ) (tasks : List Task) → KeepsRows s (hand_out_all s host tasks)
hands_keep s host [] = same_rows s
hands_keep s host (task ∷ tasks) =
    let first = claimed_keeps s host (Some task) in
    let others = hands_keep (hand_out s host task) host tasks in
    record { rule = others.rule ∙ first.rule; modes = others.modes ∙ first.modes; rows = others.rows ∙ first.rows }

batch_keeps : (s : JudgeState) (host size : ℕ) (task : Option Task) → KeepsRows s (batch_from s host size task).0
batch_keeps s host size None = same_rows s
batch_keeps s host size (Some task) = hands_keep s host (take size (open_of s task.judging))

pub fetch_keeps : (s : JudgeState) (host most : ℕ) → KeepsRows s (judge_fetch s host most).0
fetch_keeps s host most =
    let size = batch_size most (held_count s.leases host) in
    refused_keeps s (fetch_refusal s.leases host) (batch_from s host size (first_open s)) (batch_keeps s host size (first_open s))

-- a renewal changes leases alone
pub renew_keeps : (s : JudgeState) (host j t : ℕ) → KeepsRows s (judge_renew s host j t).0
renew_keeps s host j t = refused_keeps s (renew_refusal s host j t) (renew_leases s host j) (record { rule = refl; modes = refl; rows = refl })

-- a judging that was asked for keeps its mode and its row
pub ask_keeps : (s : JudgeState) (j : ℕ) → KeepsRows s (judge_ask s j).0
ask_keeps s j = refused_keeps s (ask_refusal s.judgings j) (record s { judgings = with_asked s.judgings j }, ask.Done) (record {
  rule = refl;
  modes = changed_same (λ (judging : Judging). judging.mode) mark_asked (λ judging. refl) s.judgings j (item_of s.judgings j) refl;
  rows = changed_same (λ (judging : Judging). judging.row) mark_asked (λ judging. refl) s.judgings j (item_of s.judgings j) refl;
})

drop_keeps : (s : JudgeState) (j : ℕ) → KeepsRows s (drop_judging s j)
drop_keeps s j = record {
  rule = refl;
  modes = changed_same (λ (judging : Judging). judging.mode) mark_dropped (λ judging. refl) s.judgings j (item_of s.judgings j) refl;
  rows = changed_same (λ (judging : Judging). judging.row) mark_dropped (λ judging. refl) s.judgings j (item_of s.judgings j) refl;
}

-- judgings that are dropped keep their rows
pub drops_keep : (s : JudgeState) (js : List ℕ) → KeepsRows s (fold drop_judging s js)
drops_keep s [] = same_rows s
drops_keep s (j ∷ js) =
    let first = drop_keeps s j in
    let others = drops_keep (drop_judging s j) js in
    record { rule = others.rule ∙ first.rule; modes = others.modes ∙ first.modes; rows = others.rows ∙ first.rows }
