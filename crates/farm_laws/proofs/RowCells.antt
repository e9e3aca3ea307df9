-- The row of a judging by its cells.
use Rattle.std.proofs.Common.{ℕ, ◌≡◌, ◌+◌, ◌-◌, ◌<◌, List, [], ◌++◌, Option, Some, None, Bool, true, false, cond, refl, sym, ap, ◌∙◌, arith, length, map, slice_get}
use Rattle.std.specs.Prelude.{nat_lt}
use Rattle.std.specs.Option.{option_map, option_or, unwrap_or, is_some}
use Rattle.std.proofs.lemmas.Option.{slice_get-map}
use Rattle.farm_kinds.specs.declared.kinds.Kind.{Kind}
use Rattle.farm_kinds.specs.declared.outcomes.Mode.{Mode}
use Rattle.farm_kinds.specs.declared.outcomes.Mode.TheVariants.{Lazy}
use Rattle.farm_model.specs.Numbered.{item_of, numbers_to}
use Rattle.farm_model.specs.Rows.{Row}
use Rattle.farm_kinds.specs.declared.events.Event.{Event}
use Rattle.farm_kinds.specs.declared.events.Reply.{Reply}
use Rattle.farm_model.specs.Judgings.{Judging, task_of}
use Rattle.farm_model.specs.State.{State, SettingsValue, start}
use Rattle.farm_model.specs.Replay.{reply_to, cell_for, counted_in}
use Rattle.farm_laws.specs.Laws.{reached, row_in, mode_in, IsJudging}
use Rattle.farm_laws.proofs.Items.{item_at, item_by, item_append, item_seen, numbered_from, there}
use Rattle.farm_laws.proofs.Cells.{cell_at, kind_in}
use Rattle.farm_laws.proofs.Kept.{lengths_of, modes_of}
use Rattle.farm_laws.proofs.Runs.{runs}
use Rattle.farm_laws.proofs.Rows.{map_range}

-- A row by its cells

-- the reply of the step is this one
abbrev pub Told : SettingsValue → List Event → Event → Reply → Type 0
Told settings es e r = reply_to (reached settings es) e ≡ r

pub item_cell : (row : Row) (i : ℕ) (x : Option Kind) → slice_get row i ≡ Some x → unwrap_or (item_of row (1 + i)) None ≡ x
item_cell row i x h = ap (λ o. unwrap_or o None) (item_by row (1 + i) x (omega arith) (ap (slice_get row) (omega arith) ∙ h))

cells_row : (o : Option Judging) → map (kind_in o) (numbers_to (length (unwrap_or (option_map (λ judging. judging.row) o) []))) ≡ unwrap_or (option_map (λ judging. judging.row) o) []
cells_row None = refl
cells_row (Some g) = numbered_from g.row 1 (kind_in (Some g)) (item_cell g.row)

pub row_cells : (s : State) (j : ℕ) → map (cell_at s.judge.judgings j) (numbers_to (length (row_in s j))) ≡ row_in s j
row_cells s j = cells_row (item_of s.judge.judgings j)

nowhere : (b : Bool) (t : ℕ) → kind_in (cond b None None) t ≡ None
nowhere true t = refl
nowhere false t = refl

no_cells : (j t : ℕ) → cell_at [] j t ≡ None
no_cells j t = nowhere (nat_lt 0 j) t

pub reached_cell : (settings : SettingsValue) (es : List Event) (j t : ℕ) → cell_at (reached settings es).judge.judgings j t ≡ cell_for settings.rule (counted_in (start settings) es) (task_of j t)
reached_cell settings es j t = (runs (start settings) es).cells j t ∙ ap (λ o. option_or o (cell_for settings.rule (counted_in (start settings) es) (task_of j t))) (no_cells j t)

-- Rows that stay

length_at : (judgings : List Judging) (j : ℕ) (g : Judging) → item_of judgings j ≡ Some g → item_of (lengths_of judgings) j ≡ Some (length g.row)
length_at judgings j g h =
    let a = item_at judgings j g h in
    item_by (lengths_of judgings) j (length g.row) a.0 (slice_get-map (λ judging. length judging.row) judgings (j - 1) ∙ ap (option_map (λ (judging : Judging). length judging.row)) a.1)

at_length : (judgings : List Judging) (j n : ℕ) → item_of (lengths_of judgings) j ≡ Some n → (g : Judging) × (item_of judgings j ≡ Some g) × (length g.row ≡ n)
at_length judgings j n h =
    let a = item_at (lengths_of judgings) j n h in
    let found = from_some (slice_get judgings (j - 1)) n (sym (slice_get-map (λ judging. length judging.row) judgings (j - 1)) ∙ a.1) in
    (found.0, item_by judgings j found.0 a.0 found.1, found.2) where
      from_some : (o : Option Judging) (n : ℕ) → option_map (λ judging. length judging.row) o ≡ Some n → (g : Judging) × (o ≡ Some g) × (length g.row ≡ n)
      from_some None n h = cc
      from_some (Some g) n h = (g, refl, cc)

-- the row of a judging keeps its length
pub row_length : (s t : State) (more : List ℕ) (j : ℕ) → IsJudging s j → lengths_of t.judge.judgings ≡ lengths_of s.judge.judgings ++ more → IsJudging t j × (length (row_in t j) ≡ length (row_in s j))
row_length s t more j is same =
    let g = there (item_of s.judge.judgings j) is in
    let old : length (row_in s j) ≡ length g.0.row = ap (λ (o : Option Judging). length (unwrap_or (option_map (λ judging. judging.row) o) [])) g.1 in
    let long : item_of (lengths_of t.judge.judgings) j ≡ Some (length g.0.row) =
    ap (λ ls. item_of ls j) same ∙ item_append (lengths_of s.judge.judgings) more j (length g.0.row) (length_at s.judge.judgings j g.0 g.1) in
    let f = at_length t.judge.judgings j (length g.0.row) long in
    let new : length (row_in t j) ≡ length f.0.row = ap (λ (o : Option Judging). length (unwrap_or (option_map (λ judging. judging.row) o) [])) f.1 in
    (ap is_some f.1, new ∙ f.2 ∙ sym old)

-- so does its mode
pub mode_same : (s t : State) (more : List Mode) (j : ℕ) → IsJudging s j → modes_of t.judge.judgings ≡ modes_of s.judge.judgings ++ more → mode_in t j ≡ mode_in s j
mode_same s t more j is same =
    let g = there (item_of s.judge.judgings j) is in
    let seen = item_seen (λ (judging : Judging). judging.mode) s.judge.judgings j in
    let old : item_of (modes_of s.judge.judgings) j ≡ Some g.0.mode = seen ∙ ap (option_map (λ (judging : Judging). judging.mode)) g.1 in
    let new : item_of (modes_of t.judge.judgings) j ≡ Some g.0.mode =
    ap (λ ms. item_of ms j) same ∙ item_append (modes_of s.judge.judgings) more j g.0.mode old in
    ap (λ (o : Option Mode). unwrap_or o Lazy)
    (sym (item_seen (λ (judging : Judging). judging.mode) t.judge.judgings j) ∙ new ∙ sym old ∙ seen)

-- where each cell holds what it held, the row is as it was
pub row_same : (s t : State) (more : List ℕ) (j : ℕ) → IsJudging s j → lengths_of t.judge.judgings ≡ lengths_of s.judge.judgings ++ more
    → ((i : ℕ) → i < length (row_in s j) → cell_at t.judge.judgings j (1 + i) ≡ cell_at s.judge.judgings j (1 + i)) → row_in t j ≡ row_in s j
row_same s t more j is same cells =
    let n = (row_length s t more j is same).1 in
    sym (row_cells t j) ∙ ap (λ (m : ℕ). map (cell_at t.judge.judgings j) (numbers_to m)) n
    ∙ map_range (cell_at t.judge.judgings j) (cell_at s.judge.judgings j) 1 (length (row_in s j)) cells ∙ row_cells s j
