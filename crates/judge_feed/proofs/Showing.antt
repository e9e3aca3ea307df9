-- A history that goes on shows what it showed, and may show one version more.
use Rattle.std.proofs.Common.{◌≡◌, ◌≢◌, ◌≤◌, List, [], ◌∷◌, ◌++◌, length, ap, sym, ◌∙◌, arith, append_assoc, append-nil}
use Rattle.farm_kinds.specs.declared.outcomes.Answer.{Answer}
use Rattle.farm_model.specs.State.{public_answers}
use Rattle.farm_board.specs.BoardState.{BoardState}
use Rattle.farm_board.specs.Histories.{board_after}
use Rattle.farm_board.specs.declared.entries.HistoryEntry.{HistoryEntry}
use Rattle.farm_board.proofs.Histories.{board_after_append}
use Rattle.public_board.specs.Versions.{last_of}
use Rattle.judge_feed.specs.Showing.{Shown}
use Rattle.judge_feed.proofs.Submissions.{answers_grow}

pub not_nil : {A : Type 0} (xs ys : List A) → ys ≢ [] → xs ++ ys ≢ []
not_nil [] ys h e = h e
not_nil (x ∷ xs) ys h e = cc e

pub shown_more : (s : BoardState) (vs : List (List Answer)) (es more : List HistoryEntry) → Shown s vs es → Shown s vs (es ++ more)
shown_more s [] es more h = tt
shown_more s (v ∷ vs) es more h =
    (h.0, h.1 ++ more, ap (λ (zs : List HistoryEntry). zs ++ more) h.2 ∙ append_assoc h.0 h.1 more, h.3, h.4, shown_more (board_after s h.0) vs h.1 more h.5)

pub shown_snoc : (s : BoardState) (vs : List (List Answer)) (es more : List HistoryEntry) (v : List Answer) → more ≢ []
    → v ≡ public_answers (board_after s (es ++ more)).state → Shown s vs es → Shown s (vs ++ v ∷ []) (es ++ more)
shown_snoc s [] es more v some is h = (es ++ more, [], sym (append-nil (es ++ more)), not_nil es more some, is, tt)
shown_snoc s (w ∷ vs) es more v some is h =
    let whole : es ++ more ≡ h.0 ++ (h.1 ++ more) = ap (λ (zs : List HistoryEntry). zs ++ more) h.2 ∙ append_assoc h.0 h.1 more in
    let later : v ≡ public_answers (board_after (board_after s h.0) (h.1 ++ more)).state =
    is ∙ ap (λ (b : BoardState). public_answers b.state) (ap (board_after s) whole ∙ board_after_append s h.0 (h.1 ++ more)) in
    (h.0, h.1 ++ more, whole, h.3, h.4, shown_snoc (board_after s h.0) vs h.1 more v some later h.5)

-- what the public sees after a prefix is no more than after the whole
prefix_below : (s : BoardState) (es prefix rest : List HistoryEntry) → es ≡ prefix ++ rest
    → length (public_answers (board_after s prefix).state) ≤ length (public_answers (board_after s es).state)
prefix_below s es prefix rest is =
    let more = answers_grow (board_after s prefix) rest in
    let same = ap (λ (b : BoardState). length (public_answers b.state)) (ap (board_after s) is ∙ board_after_append s prefix rest) in
    omega arith

-- the last version has no more answers than the public sees in the end
pub last_below : (s : BoardState) (vs : List (List Answer)) (es : List HistoryEntry) → Shown s vs es
    → length (last_of vs) ≤ length (public_answers (board_after s es).state)
last_below s [] es h = omega arith
last_below s (v ∷ []) es h = let is = ap length h.4 in let below = prefix_below s es h.0 h.1 h.2 in omega arith
last_below s (v ∷ w ∷ vs) es h =
    let below = last_below (board_after s h.0) (w ∷ vs) h.1 h.5 in
    let same = ap (λ (b : BoardState). length (public_answers b.state)) (ap (board_after s) h.2 ∙ board_after_append s h.0 h.1) in
    omega arith
