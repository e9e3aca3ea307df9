use Rattle.std.proofs.Common.{rules, ap, sym, ◌∙◌, subst}
use Rattle.farm_board.specs.Histories.{board_after, pass_number, IsNext}
use Rattle.farm_board.specs.Views.{Suits}
use Rattle.farm_board.specs.declared.entries.HistoryEntry.{HistoryEntry}
use Rattle.farm_board.proofs.Turns.{marks}
use Rattle.farm_board.proofs.calls.mark_entry.Goals as goal

pub load-requires : goal.load-requires
load-requires g c =
    let is = sym c.requires.entry in
    let v = c.args.seat.now.me.0 in (
      search rules,
      search rules,
      marks _ _ _ _ _ _ c.requires.turn.0 c.requires.turn.1 (ap (λ (e : HistoryEntry). pass_number e) c.requires.entry ∙ c.requires.own)
          (subst (λ (e : HistoryEntry). IsNext (board_after v.start.value v.seen) e) is c.requires.next) (subst (λ (e : HistoryEntry). Suits e v) is c.requires.suits),
    )
