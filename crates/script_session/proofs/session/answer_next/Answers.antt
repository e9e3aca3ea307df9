use Rattle.std.proofs.Common.{ℕ, List, ◌++◌, Option, refl, sym, inl, subst, append-nil, take}
use Rattle.std.specs.Io.KnownBytes.{Appends}
use Rattle.farm_io.specs.Lines.{Whole, Long}
use Rattle.farm_kinds.specs.declared.events.Event.{Event}
use Rattle.farm_model.specs.Script.{events_of_line}
use Rattle.farm_laws.specs.Output.{events_in}
use Rattle.script_session.specs.declared.end.StoredEnd.TheVariants as end
use Rattle.script_session.specs.Keeping.{FinishesAs}
use Rattle.script_session.proofs.Sessions.{took_text, took_long, at_end, at_fault, at_limit, not_stopped}
use Rattle.script_session.proofs.Keepings.{keeping_line, line_lost, finished_memory, finished_full, stopped}
use Rattle.script_session.proofs.Firsts.{memory_first, full_first}
use Rattle.script_session.proofs.session.answer_next.Goals as goal

pub returns-in-Ok-clause-turned : goal.returns-in-Ok-clause-turned
returns-in-Ok-clause-turned g c first mark b k =
    let e = c.in-Text.ensures in
    let text = c.text.result.now in
    keeping_line b _ _ _ (Whole text) _ (took_text _ _ _ text c.text.ensures.text e.reads (λ s h. (e.sticky s h).0) e.stops e.ended e.readable)
    (g.E.Keeper.kept first mark c.args.keeper.now c.args.device.now b.farm) (g.E.Keeper.kept first mark c.answer_line.new.keeper c.answer_line.new.device b.farm) _
    c.in-Ok.ensures.farm c.in-Ok.ensures.text k
    (c.in-Ok.ensures.keeps first mark b.farm (events_in k.settled) (events_in k.under_way.lines) k.under_way.farm k.kept)

pub returns-in-Err-Disk-clause-turned : goal.returns-in-Err-Disk-clause-turned
returns-in-Err-Disk-clause-turned g c first mark b k =
    let e = c.in-Text.ensures in
    let text = c.text.result.now in
    let least = events_in k.settled in
    let es = events_in k.under_way.lines in
    let lost : (others : List Event) → g.E.Keeper.lost first mark c.answer_line.new.keeper c.answer_line.new.device b.farm least (es ++ (events_of_line (Whole text) ++ others)) =
    rw c.in-Err-Disk.field-0-is at (c.in-Err-Disk.ensures.keeps first mark b.farm least es k.under_way.farm k.kept) in
    line_lost b _ _ _ (Whole text) _ (took_text _ _ _ text c.text.ensures.text e.reads (λ s h. (e.sticky s h).0) e.stops e.ended e.readable)
    (g.E.Keeper.kept first mark c.args.keeper.now c.args.device.now b.farm) (g.E.Keeper.lost first mark c.answer_line.new.keeper c.answer_line.new.device b.farm)
    c.in-Err-Disk.ensures.stands k lost

pub returns-in-Err-Full-clause-turned : goal.returns-in-Err-Full-clause-turned
returns-in-Err-Full-clause-turned g c first mark b k =
    let e = c.in-Text.ensures in
    let text = c.text.result.now in
    let least = events_in k.settled in
    let es = events_in k.under_way.lines in
    let Kept = g.E.Keeper.kept first mark c.args.keeper.now c.args.device.now b.farm in
    let Now = g.E.Keeper.kept first mark c.answer_line.new.keeper c.answer_line.new.device b.farm in
    let Then = g.E.Keeper.kept first mark c.finish.new.keeper c.finish.new.device b.farm in
    let Lost = g.E.Keeper.lost first mark c.finish.new.keeper c.finish.new.device b.farm in
    let Full = g.E.Keeper.full first mark b.farm in
    let at = c.in-Err-Full.end in
    let both : Now least es × ((others : List Event) → Full (es ++ (events_of_line (Whole text) ++ others)) at) =
    rw c.in-Err-Full.field-0-is at (c.in-Err-Full.ensures.keeps first mark b.farm least es k.under_way.farm k.kept) in
    let f : FinishesAs Then Lost least es (g.K.Sink.held c.args.out.now) (g.K.Sink.held c.finish.new.out) c.args.pending.now.items (end.StoreFull at) c.finish.result =
    subst (λ (q : List ℕ). FinishesAs Then Lost least es (g.K.Sink.held c.args.out.now) (g.K.Sink.held c.finish.new.out) q (end.StoreFull at) c.finish.result) c.in-Err-Full.ensures.kept
    (c.finish.ensures.finishes first mark b.farm least es both.0) in
    finished_full b _ _ _ (Whole text) _ (took_text _ _ _ text c.text.ensures.text e.reads (λ s h. (e.sticky s h).0) e.stops e.ended e.readable)
    Kept Then Lost Full (g.K.Sink.held c.finish.new.out) c.in-Err-Full.ensures.stands k at c.finish.result f both.1

pub returns-in-Err-NoMemory-clause-turned : goal.returns-in-Err-NoMemory-clause-turned
returns-in-Err-NoMemory-clause-turned g c first mark b k =
    let e = c.in-Text.ensures in
    let text = c.text.result.now in
    let least = events_in k.settled in
    let es = events_in k.under_way.lines in
    let Kept = g.E.Keeper.kept first mark c.args.keeper.now c.args.device.now b.farm in
    let Now = g.E.Keeper.kept first mark c.answer_line.new.keeper c.answer_line.new.device b.farm in
    let Then = g.E.Keeper.kept first mark c.finish-in-Err-NoMemory.new.keeper c.finish-in-Err-NoMemory.new.device b.farm in
    let Lost = g.E.Keeper.lost first mark c.finish-in-Err-NoMemory.new.keeper c.finish-in-Err-NoMemory.new.device b.farm in
    let kept : Now least es = rw c.in-Err-NoMemory.field-0-is at (c.in-Err-NoMemory.ensures.keeps first mark b.farm least es k.under_way.farm k.kept) in
    let held = g.K.Sink.held c.finish-in-Err-NoMemory.new.out in
    let r = c.finish-in-Err-NoMemory.result in
    let f : FinishesAs Then Lost least es (g.K.Sink.held c.args.out.now) held c.args.pending.now.items end.NoMemory r =
    subst (λ (q : List ℕ). FinishesAs Then Lost least es (g.K.Sink.held c.args.out.now) held q end.NoMemory r) c.in-Err-NoMemory.ensures.kept
    (c.finish-in-Err-NoMemory.ensures.finishes first mark b.farm least es kept) in
    finished_memory b _ _ _ (Whole text) _ (took_text _ _ _ text c.text.ensures.text e.reads (λ s h. (e.sticky s h).0) e.stops e.ended e.readable)
    Kept Then Lost (g.E.Keeper.full first mark b.farm) held c.in-Err-NoMemory.ensures.stands k r f

pub returns-in-Ok-push_too_long-clause-turned : goal.returns-in-Ok-push_too_long-clause-turned
returns-in-Ok-push_too_long-clause-turned g c first mark b k =
    let e = c.in-TooLong.ensures in
    let es = events_in k.under_way.lines in
    let Kept = g.E.Keeper.kept first mark c.args.keeper.now c.args.device.now b.farm in
    keeping_line b _ _ _ (Long c.in-TooLong.len) _ (took_long _ _ _ c.in-TooLong.len e.reads (λ s h. (e.sticky s h).0) e.stops e.ended e.readable)
    Kept Kept _ refl c.in-Ok-push_too_long.ensures.ok k (subst (λ (l : List Event). Kept (events_in k.settled) l) (sym (append-nil es)) k.kept)

pub returns-in-Err-clause-turned : goal.returns-in-Err-clause-turned
returns-in-Err-clause-turned g c first mark b k =
    let e = c.in-TooLong.ensures in
    let least = events_in k.settled in
    let es = events_in k.under_way.lines in
    let Kept = g.E.Keeper.kept first mark c.args.keeper.now c.args.device.now b.farm in
    let Then = g.E.Keeper.kept first mark c.finish-in-Err.new.keeper c.finish-in-Err.new.device b.farm in
    let Lost = g.E.Keeper.lost first mark c.finish-in-Err.new.keeper c.finish-in-Err.new.device b.farm in
    let held = g.K.Sink.held c.finish-in-Err.new.out in
    let r = c.finish-in-Err.result in
    let f : FinishesAs Then Lost least es (g.K.Sink.held c.args.out.now) held c.args.pending.now.items end.NoMemory r =
    subst (λ (q : List ℕ). FinishesAs Then Lost least es (g.K.Sink.held c.args.out.now) held q end.NoMemory r) c.in-Err.ensures.err
    (c.finish-in-Err.ensures.finishes first mark b.farm least es k.kept) in
    finished_memory b _ _ _ (Long c.in-TooLong.len) _ (took_long _ _ _ c.in-TooLong.len e.reads (λ s h. (e.sticky s h).0) e.stops e.ended e.readable)
    Kept Then Lost (g.E.Keeper.full first mark b.farm) held (inl refl) k r f

pub returns-in-End-clause-turned : goal.returns-in-End-clause-turned
returns-in-End-clause-turned g c first mark b k =
    let e = c.in-End.ensures in (
      at_end b _ _ _ e.reads e.ended e.stops (c.requires.none (λ h. (e.held h).0)) k.under_way,
      stopped _ b _ _ e.reads.prefix e.reads.took (λ _. e.reads.cuts.0) k,
    )

pub returns-in-ReadFault-clause-turned : goal.returns-in-ReadFault-clause-turned
returns-in-ReadFault-clause-turned g c first mark b k =
    let e = c.in-ReadFault.ensures in (
      at_fault b _ _ _ e.reads (λ s h. (e.sticky s h).0) (c.requires.none (λ h. (e.held h).0)) k.under_way,
      stopped _ b _ _ e.reads.prefix e.reads.took (λ ends. let no = (e.sticky _ ends).0 in cc) k,
    )

pub returns-in-ReadFault-clause-read : goal.returns-in-ReadFault-clause-read
returns-in-ReadFault-clause-read g c going told =
    let e = c.in-ReadFault.ensures in
    e.cause.failed (not_stopped _ going (λ h. let no = (e.sticky _ h).0 in cc)) refl

pub returns-in-InputLimit-clause-turned : goal.returns-in-InputLimit-clause-turned
returns-in-InputLimit-clause-turned g c first mark b k =
    let e = c.in-InputLimit.ensures in (
      at_limit b _ _ _ e.reads (λ s h. (e.sticky s h).0) (e.limit refl) (c.requires.none (λ h. (e.held h).0)) k.under_way,
      stopped _ b _ _ e.reads.prefix e.reads.took (λ ends. let no = (e.sticky _ ends).0 in cc) k,
    )

-- what was put of what was pending before the line
abbrev Put : Option (List ℕ) → Option (List ℕ) → List ℕ → Type 0
Put held held' pending = (n : ℕ) × Appends held held' (take n pending)

pub returns-in-Err-Full-clause-first : goal.returns-in-Err-Full-clause-first
returns-in-Err-Full-clause-first g c b u =
    let e = c.in-Text.ensures in
    let text = c.text.result.now in
    let held = g.K.Sink.held c.finish.new.out in
    let put : Put (g.K.Sink.held c.args.out.now) held c.args.pending.now.items =
    subst (λ (q : List ℕ). Put (g.K.Sink.held c.args.out.now) held q) c.in-Err-Full.ensures.kept c.finish.ensures.put in
    full_first b _ _ held _ (Whole text) _ put.0 (took_text _ _ _ text c.text.ensures.text e.reads (λ s h. (e.sticky s h).0) e.stops e.ended e.readable)
    c.in-Err-Full.end c.finish.result c.finish.ensures.only c.in-Err-Full.ensures.stands put.1 u

pub returns-in-Err-NoMemory-clause-first : goal.returns-in-Err-NoMemory-clause-first
returns-in-Err-NoMemory-clause-first g c b u =
    let e = c.in-Text.ensures in
    let text = c.text.result.now in
    let held = g.K.Sink.held c.finish-in-Err-NoMemory.new.out in
    let put : Put (g.K.Sink.held c.args.out.now) held c.args.pending.now.items =
    subst (λ (q : List ℕ). Put (g.K.Sink.held c.args.out.now) held q) c.in-Err-NoMemory.ensures.kept c.finish-in-Err-NoMemory.ensures.put in
    memory_first b _ _ held _ (Whole text) _ put.0 (took_text _ _ _ text c.text.ensures.text e.reads (λ s h. (e.sticky s h).0) e.stops e.ended e.readable)
    c.finish-in-Err-NoMemory.result c.finish-in-Err-NoMemory.ensures.only c.in-Err-NoMemory.ensures.stands put.1 u

pub returns-in-Err-clause-first : goal.returns-in-Err-clause-first
returns-in-Err-clause-first g c b u =
    let e = c.in-TooLong.ensures in
    let held = g.K.Sink.held c.finish-in-Err.new.out in
    let put : Put (g.K.Sink.held c.args.out.now) held c.args.pending.now.items =
    subst (λ (q : List ℕ). Put (g.K.Sink.held c.args.out.now) held q) c.in-Err.ensures.err c.finish-in-Err.ensures.put in
    memory_first b _ _ held _ (Long c.in-TooLong.len) _ put.0 (took_long _ _ _ c.in-TooLong.len e.reads (λ s h. (e.sticky s h).0) e.stops e.ended e.readable)
    c.finish-in-Err.result c.finish-in-Err.ensures.only (inl refl) put.1 u
