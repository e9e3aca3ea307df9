-- The cells of judgings, and what each event does to them.
use Rattle.std.proofs.Common.{ℕ, zero, suc, ◌≡◌, ◌≢◌, ◌-◌, List, [], ◌∷◌, ◌++◌, Option, Some, None, Bool, true, false, cond, eqb, ◌&&◌, refl, sym, ap, ◌∙◌, subst, set, slice_get, replicate, append_assoc}
use Rattle.std.specs.Prelude.{nat_lt}
use Rattle.std.specs.Option.{option_map, option_and_then, option_or, unwrap_or, is_some}
use Rattle.std.proofs.lemmas.List.{append-nil}
use Rattle.std.proofs.lemmas.Bool.{eqb-true, eqb-false}
use Rattle.farm_kinds.specs.declared.kinds.Kind.{Kind}
use Rattle.farm_kinds.specs.declared.outcomes.Class.{Class}
use Rattle.farm_kinds.specs.declared.outcomes.Mode.{Mode}
use Rattle.farm_kinds.specs.declared.outcomes.Count.{Count}
use Rattle.farm_kinds.specs.declared.outcomes.Count.TheVariants as count
use Rattle.farm_kinds.specs.declared.events.Reply.TheVariants as reply
use Rattle.farm_model.specs.Numbered.{item_of, change_item}
use Rattle.farm_model.specs.Refusing.{when, unless, first_of}
use Rattle.farm_model.specs.Rows.{Row, same_kind}
use Rattle.farm_model.specs.Leases.{same_task}
use Rattle.farm_model.specs.Judgings.{Judging, empty_judging, task_of, cell_of, is_judging, has_test, kept_count, is_dropped, was_handed, entry_refusal, result_refusal, fill_cell, with_result}
use Rattle.farm_model.specs.Refusals.{count_reply}
use Rattle.farm_laws.proofs.Items.{item_at, with_same, with_other}
use Rattle.farm_laws.proofs.Each.{Each}

-- the kind that a cell holds; none where it is empty, or is not there
abbrev pub cell_at : List Judging → ℕ → ℕ → Option Kind
cell_at judgings j t = unwrap_or (cell_of judgings j t) None

-- Refusals

-- why a result does not count: a, b and h are whether its judging and its test are there and its task was
-- handed out, d whether the judging was dropped, and k is the kind that its cell keeps
abbrev count_refusal : (a b h d : Bool) → Option Kind → Kind → Option Count
count_refusal a b h d k given = first_of (
    unless a count.NoJudging ∷ unless b count.NoTest ∷ unless h count.NotHanded ∷ option_map (kept_count given) k ∷ when d count.Dropped ∷ [])

kept_other : (b : Bool) (kept given : Kind) → cond b (count.Repeat kept) (count.Differs kept given) ≢ count.Counted
kept_other true kept given = λ e. cc
kept_other false kept given = λ e. cc

refusal_other : (a b h d : Bool) (k : Option Kind) (given : Kind) (c : Count) → count_refusal a b h d k given ≡ Some c → c ≢ count.Counted
refusal_other false b h d k given c r = λ e. cc
refusal_other true false h d k given c r = λ e. cc
refusal_other true true false d k given c r = λ e. cc
refusal_other true true true d (Some kept) given c r = λ e. kept_other (same_kind kept given) kept given (let f : kept_count given kept ≡ c = cc in f ∙ e)
refusal_other true true true true None given c r = λ e. cc
refusal_other true true true false None given c r = cc

empty_cell : (a h d : Bool) (o : Option (Option Kind)) (given : Kind) → count_refusal a (is_some o) h d (unwrap_or o None) given ≡ None → o ≡ Some None
empty_cell false h d o given r = cc
empty_cell true h d None given r = cc
empty_cell true false d (Some k) given r = cc
empty_cell true true d (Some None) given r = refl
empty_cell true true d (Some (Some k)) given r = cc

-- what it tells of a cell that a result is refused, or is not
pub record TellsOf (refusal : Option Count) (cell : Option (Option Kind)) : Type 0 where
  -- a result is never refused by saying that it counts
  pub other : (c : Count) → refusal ≡ Some c → c ≢ count.Counted
  -- a result counts only where its cell is there and empty
  pub empty : refusal ≡ None → cell ≡ Some None

refusal_tells : (a h d : Bool) (o : Option (Option Kind)) (given : Kind) → TellsOf (count_refusal a (is_some o) h d (unwrap_or o None) given) o
refusal_tells a h d o given = record {
  other = λ c r. refusal_other a (is_some o) h d (unwrap_or o None) given c r;
  empty = λ r. empty_cell a h d o given r;
}

pub result_tells : (js : List Judging) (j t : ℕ) (given : Kind) → TellsOf (result_refusal js j t given) (cell_of js j t)
result_tells js j t given = refusal_tells (is_judging js j) (was_handed js j t) (is_dropped js j) (cell_of js j t) given

-- a result from outside is refused as a host's is of a task that was handed out
handed_refusal : (a b d : Bool) (k : Option Kind) (given : Kind)
    → count_refusal a b true d k given ≡ first_of (unless a count.NoJudging ∷ unless b count.NoTest ∷ option_map (kept_count given) k ∷ when d count.Dropped ∷ [])
handed_refusal false b d k given = refl
handed_refusal true false d k given = refl
handed_refusal true true d k given = refl

pub entry_tells : (js : List Judging) (j t : ℕ) (given : Kind) → TellsOf (entry_refusal js j t given) (cell_of js j t)
entry_tells js j t given = subst (λ (r : Option Count). TellsOf r (cell_of js j t))
    (handed_refusal (is_judging js j) (has_test js j t) (is_dropped js j) (unwrap_or (cell_of js j t) None) given)
    (refusal_tells (is_judging js j) true (is_dropped js j) (cell_of js j t) given)

pub count_reply_other : (j t : ℕ) (c : Count) → c ≢ count.Counted → count_reply j t c ≢ reply.Counted
count_reply_other j t count.NoJudging n = λ e. cc
count_reply_other j t count.NoTest n = λ e. cc
count_reply_other j t count.NotHanded n = λ e. cc
count_reply_other j t (count.Repeat kept) n = λ e. cc
count_reply_other j t (count.Differs kept given) n = λ e. cc
count_reply_other j t count.Dropped n = λ e. cc
count_reply_other j t count.Counted n = absurd (n refl)

-- Cells of changed judgings

-- the kind in a cell of a judging, where there is one
abbrev pub kind_in : Option Judging → ℕ → Option Kind
kind_in o t = unwrap_or (option_and_then (λ judging. item_of judging.row t) o) None

copied : {X : Type 0} (n i : ℕ) (x : X) → unwrap_or (slice_get (replicate n x) i) x ≡ x
copied zero i x = refl
copied (suc n) zero x = refl
copied (suc n) (suc i) x = copied n i x

unwrapped : {X : Type 0} (b : Bool) (o : Option X) (d : X) → unwrap_or o d ≡ d → unwrap_or (cond b o None) d ≡ d
unwrapped true o d h = h
unwrapped false o d h = refl

-- no cell of the judging holds a kind
abbrev pub IsUnjudged : Judging → Type 0
IsUnjudged judging = (t : ℕ) → kind_in (Some judging) t ≡ None

pub empty_unjudged : (class : Class) (n : ℕ) (mode : Mode) (asked : Bool) → IsUnjudged (empty_judging class n mode asked)
empty_unjudged class n mode asked t = unwrapped (nat_lt 0 t) (slice_get (replicate n None) (t - 1)) None (copied n (t - 1) None)

last_empty : (judgings : List Judging) (new : Judging) → IsUnjudged new → (i t : ℕ) → kind_in (slice_get (judgings ++ new ∷ []) i) t ≡ kind_in (slice_get judgings i) t
last_empty [] new none zero t = none t
last_empty [] new none (suc i) t = refl
last_empty (g ∷ judgings) new none zero t = refl
last_empty (g ∷ judgings) new none (suc i) t = last_empty judgings new none i t

same_kinds : (b : Bool) (x y : Option Judging) (t : ℕ) → kind_in x t ≡ kind_in y t → kind_in (cond b x None) t ≡ kind_in (cond b y None) t
same_kinds true x y t h = h
same_kinds false x y t h = refl

-- a new judging has no kind in any cell
cell_append : (judgings : List Judging) (new : Judging) → IsUnjudged new → (j t : ℕ) → cell_at (judgings ++ new ∷ []) j t ≡ cell_at judgings j t
cell_append judgings new none j t = same_kinds (nat_lt 0 j) (slice_get (judgings ++ new ∷ []) (j - 1)) (slice_get judgings (j - 1)) t (last_empty judgings new none (j - 1) t)

-- new judgings have none
pub cells_append : (judgings new : List Judging) → Each IsUnjudged new → (j t : ℕ) → cell_at (judgings ++ new) j t ≡ cell_at judgings j t
cells_append judgings [] none j t = ap (λ (js : List Judging). cell_at js j t) (append-nil judgings)
cells_append judgings (g ∷ new) none j t =
    ap (λ (js : List Judging). cell_at js j t) (sym (append_assoc judgings (g ∷ []) new))
    ∙ cells_append (judgings ++ g ∷ []) new none.1 j t
    ∙ cell_append judgings g none.0 j t

pub or_none : {X : Type 0} (o : Option X) → option_or o None ≡ o
or_none None = refl
or_none (Some x) = refl

-- the judging and the row that have the cell
pub record HasEmpty (judgings : List Judging) (j t : ℕ) : Type 0 where
  pub judging : Judging
  pub there : item_of judgings j ≡ Some judging
  pub empty : item_of judging.row t ≡ Some None

has_empty : (judgings : List Judging) (j t : ℕ) (o : Option Judging) → item_of judgings j ≡ o → option_and_then (λ judging. item_of judging.row t) o ≡ Some None → HasEmpty judgings j t
has_empty judgings j t None e h = cc
has_empty judgings j t (Some g) e h = record { judging = g; there = e; empty = h }

pub empty_there : (judgings : List Judging) (j t : ℕ) → cell_of judgings j t ≡ Some None → HasEmpty judgings j t
empty_there judgings j t h = has_empty judgings j t (item_of judgings j) refl h

-- what a cell holds once a cell was filled
abbrev pub filled_at : ℕ → ℕ → Kind → ℕ → ℕ → Option Kind
filled_at j t kind j' t' = cond (same_task (task_of j t) (task_of j' t')) (Some kind) None

filled_same : (judgings : List Judging) (j t : ℕ) (kind : Kind) (e : HasEmpty judgings j t) → item_of (with_result judgings j t kind) j ≡ Some (fill_cell t kind e.judging)
filled_same judgings j t kind e =
    ap (λ o. item_of (change_item judgings j (fill_cell t kind) o) j) e.there ∙ with_same judgings j e.judging (fill_cell t kind e.judging) e.there

filled_other : (judgings : List Judging) (j j' t : ℕ) (kind : Kind) (e : HasEmpty judgings j t) → j ≢ j' → item_of (with_result judgings j t kind) j' ≡ item_of judgings j'
filled_other judgings j j' t kind e n =
    ap (λ o. item_of (change_item judgings j (fill_cell t kind) o) j') e.there
    ∙ with_other judgings j j' (fill_cell t kind e.judging) (item_at judgings j e.judging e.there).0 n

-- in the judging of the cell
pub fill_in : (row : Row) (t t' : ℕ) (kind : Kind) → item_of row t ≡ Some None → (b : Bool) → eqb t t' ≡ b
    → unwrap_or (item_of (set row (t - 1) (Some kind)) t') None ≡ option_or (unwrap_or (item_of row t') None) (cond b (Some kind) None)
fill_in row t t' kind h true e =
    let same : t ≡ t' = eqb-true t t' e in
    ap (λ (u : ℕ). unwrap_or (item_of (set row (t - 1) (Some kind)) u) None) (sym same) ∙ ap (λ o. unwrap_or o None) (with_same row t None (Some kind) h)
    ∙ sym (ap (λ (u : ℕ). option_or (unwrap_or (item_of row u) None) (Some kind)) (sym same) ∙ ap (λ o. option_or (unwrap_or o None) (Some kind)) h)
fill_in row t t' kind h false e =
    let other : t ≢ t' = eqb-false t t' e in
    ap (λ o. unwrap_or o None) (with_other row t t' (Some kind) (item_at row t None h).0 other) ∙ sym (or_none (unwrap_or (item_of row t') None))

fill_at : (judgings : List Judging) (j t : ℕ) (kind : Kind) (e : HasEmpty judgings j t) (j' t' : ℕ) (b : Bool) → eqb j j' ≡ b
    → cell_at (with_result judgings j t kind) j' t' ≡ option_or (cell_at judgings j' t') (cond (b && eqb t t') (Some kind) None)
fill_at judgings j t kind e j' t' true h =
    let same : j ≡ j' = eqb-true j j' h in
    ap (λ (i : ℕ). cell_at (with_result judgings j t kind) i t') (sym same) ∙ ap (λ o. kind_in o t') (filled_same judgings j t kind e)
    ∙ fill_in e.judging.row t t' kind e.empty (eqb t t') refl
    ∙ ap (λ o. option_or (kind_in o t') (cond (eqb t t') (Some kind) None)) (sym e.there)
    ∙ ap (λ (i : ℕ). option_or (cell_at judgings i t') (cond (eqb t t') (Some kind) None)) same
fill_at judgings j t kind e j' t' false h =
    ap (λ o. kind_in o t') (filled_other judgings j j' t kind e (eqb-false j j' h)) ∙ sym (or_none (cell_at judgings j' t'))

-- a result fills its cell and no other
pub cell_filled : (judgings : List Judging) (j t : ℕ) (kind : Kind) → cell_of judgings j t ≡ Some None → (j' t' : ℕ)
    → cell_at (with_result judgings j t kind) j' t' ≡ option_or (cell_at judgings j' t') (filled_at j t kind j' t')
cell_filled judgings j t kind h j' t' = fill_at judgings j t kind (empty_there judgings j t h) j' t' (eqb j j') refl
