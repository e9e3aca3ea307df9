-- The table of a contest whose tasks were worked off.
use Rattle.std.proofs.Common.{ℕ, zero, suc, ◌≡◌, ◌+◌, ◌-◌, List, [], ◌∷◌, ◌++◌, Option, Some, None, refl, sym, ap, ◌∙◌, arith, length, map, slice_get, take}
use Rattle.std.specs.Option.{option_map}
use Rattle.std.specs.List.{enumerate_from}
use Rattle.std.proofs.lemmas.Option.{slice_get-map}
use Rattle.farm_kinds.specs.declared.outcomes.Answer.TheVariants.{Final}
use Rattle.farm_kinds.specs.declared.outcomes.Task.{Task}
use Rattle.farm_kinds.specs.declared.events.Event.TheVariants as event
use Rattle.farm_kinds.specs.declared.events.Reply.TheVariants as reply
use Rattle.farm_model.specs.Numbered.{item_of}
use Rattle.farm_model.specs.Judgings.{Judging}
use Rattle.farm_model.specs.State.{State, SettingsValue}
use Rattle.farm_model.specs.Replay.{reply_to, one_thread_verdict}
use Rattle.farm_laws.proofs.Items.{item_by}
use Rattle.case_run.specs.Cases.{TestCase}
use Rattle.parallel_judge.specs.Working.{truth_of, IsFinished}
use Rattle.parallel_judge.proofs.Shown.{shows_final}

-- one more row
pub row_more : {X Y : Type 0} (f : ℕ × X → Y) (xs : List X) (a i : ℕ) (x : X) → slice_get xs i ≡ Some x
    → map f (take (suc i) (enumerate_from a xs)) ≡ map f (take i (enumerate_from a xs)) ++ f (a + i, x) ∷ []
row_more f [] a i x h = cc
row_more f (y ∷ ys) a zero x h = let same : y ≡ x = cc in let place : a ≡ a + 0 = omega arith in
    ap (λ z. f (a, z) ∷ []) same ∙ ap (λ n. f (n, x) ∷ []) place
row_more f (y ∷ ys) a (suc i) x h = let place : a + 1 + i ≡ a + suc i = omega arith in
    ap (λ rest. f (a, y) ∷ rest) (row_more f ys (a + 1) i x h ∙ ap (λ n. map f (take i (enumerate_from (a + 1) ys)) ++ f (n, x) ∷ []) place)

-- a judging with so many cells
judging_at : (judgings : List Judging) (i n : ℕ) → slice_get (map (λ judging. length judging.row) judgings) i ≡ Some n
    → (g : Judging) × (slice_get judgings i ≡ Some g) × (length g.row ≡ n)
judging_at judgings i n h =
    let seen : option_map (λ judging. length judging.row) (slice_get judgings i) ≡ Some n = sym (slice_get-map (λ judging. length judging.row) judgings i) ∙ h in
    elim (slice_get judgings i) as (λ (o : Option Judging). option_map (λ judging. length judging.row) o ≡ Some n → (g : Judging) × (o ≡ Some g) × (length g.row ≡ n)) [
      | None ↦ λ e. cc
      | Some g ↦ λ e. (g, refl, (let same : length g.row ≡ n = cc in same))
    ] seen

-- each judging is shown final, with the verdict of one thread
pub shown_final : (settings : SettingsValue) (case_at : Task → Option TestCase) (cells : List ℕ) (s : State) (i n : ℕ) → IsFinished settings case_at cells s → slice_get cells i ≡ Some n
    → reply_to s (event.Show (i + 1)) ≡ reply.Shown (Final (one_thread_verdict settings.rule (truth_of case_at) (i + 1) n))
shown_final settings case_at cells s i n done there =
    let judging = judging_at s.judge.judgings i n (ap (λ (ns : List ℕ). slice_get ns i) done.entered.lengths ∙ there) in
    let place : i + 1 - 1 ≡ i = omega arith in
    let item : item_of s.judge.judgings (i + 1) ≡ Some judging.0 = item_by s.judge.judgings (i + 1) judging.0 (omega arith) (ap (slice_get s.judge.judgings) place ∙ judging.1) in
    shows_final settings case_at done.host s (i + 1) judging.0 done.entered.honest done.entered.ready done.ended item
    ∙ ap (λ (m : ℕ). reply.Shown (Final (one_thread_verdict settings.rule (truth_of case_at) (i + 1) m))) judging.2
