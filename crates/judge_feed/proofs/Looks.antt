-- Entries that only look.
use Rattle.std.proofs.Common.{◌≡◌, ℕ, ◌+◌, Bool, true, false, List, [], ◌∷◌, ◌++◌, length, refl, ap, ◌∙◌, arith, length-append}
use Rattle.std.specs.Prelude.{◌&&◌}
use Rattle.farm_kinds.specs.declared.events.Event.{Event}
use Rattle.farm_kinds.specs.declared.events.Reply.{Reply}
use Rattle.farm_board.specs.Passes.{PassValue, Calls, call_of}
use Rattle.farm_board.specs.declared.entries.HistoryEntry.{HistoryEntry}
use Rattle.farm_board.specs.declared.entries.HistoryEntry.TheVariants as entry
use Rattle.judge_feed.specs.Showing.{is_look, is_look_entry, are_looks}

both_true : (a b : Bool) → a ≡ true → b ≡ true → (a && b) ≡ true
both_true true true p q = refl
both_true true false p q = q
both_true false b p q = p

left_true : (a b : Bool) → (a && b) ≡ true → a ≡ true
left_true true b p = refl
left_true false b p = p

right_true : (a b : Bool) → (a && b) ≡ true → b ≡ true
right_true true b p = p
right_true false b p = absurd (cc p)

looks_snoc : (es : List HistoryEntry) (e : HistoryEntry) → are_looks es ≡ true → is_look_entry e ≡ true → are_looks (es ++ e ∷ []) ≡ true
looks_snoc [] e h t = both_true (is_look_entry e) true t refl
looks_snoc (x ∷ es) e h t =
    both_true (is_look_entry x) (are_looks (es ++ e ∷ [])) (left_true (is_look_entry x) (are_looks es) h)
    (looks_snoc es e (right_true (is_look_entry x) (are_looks es) h) t)

-- the pass has looked once more
pub call_looks : (old new : PassValue) (e : Event) (r : Reply) → is_look e ≡ true → Calls old new e r → are_looks old.mine ≡ true → are_looks new.mine ≡ true
call_looks old new e r look calls h =
    ap are_looks calls.grows.mine ∙ looks_snoc old.mine (entry.Call (call_of old.number e r)) h look

-- and has one call less left
pub call_count : (old new : PassValue) (e : Event) (r : Reply) (n : ℕ) → Calls old new e r → length old.mine + old.left ≡ n → length new.mine + new.left ≡ n
call_count old new e r n calls h =
    let mine = ap length calls.grows.mine ∙ length-append old.mine (entry.Call (call_of old.number e r) ∷ []) in
    let left = calls.left in omega arith
