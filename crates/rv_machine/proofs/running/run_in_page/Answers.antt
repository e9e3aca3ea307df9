use Rattle.std.proofs.Common.{rules, ◌≡◌, ◌+◌, ◌-◌, ◌*◌, ◌/◌, ◌%◌, ◌^◌, ◌<◌, ◌≤◌, true, false, refl, ap, sym, subst, ◌∙◌, arith, inl, inr}
use Rattle.std.proofs.lemmas.Bool.{cases_eq}
use Rattle.rv_word.specs.declared.instr.Instr.{Instr}
use Rattle.rv_machine.specs.declared.processor.Flow.TheVariants as flow
use Rattle.rv_machine.specs.Decoded.{IsCode, IsWritten, instr_of, is_decoded, step_of}
use Rattle.rv_machine.specs.Hart.{Hart}
use Rattle.rv_machine.specs.Operations.{instruction, operation}
use Rattle.rv_machine.specs.Running.{IsOnWay}
use Rattle.rv_machine.specs.Storage.{hart_of}
use Rattle.rv_machine.proofs.Breaking.{going_decoded}
use Rattle.rv_machine.proofs.Kept.{IsReadyStep, kept, read_kept, ready_step, small_at}
use Rattle.rv_machine.proofs.Doing.{decoded_does}
use Rattle.rv_machine.proofs.Finishing.{jump_goes, within_goes, next_keeps, stored_writes, stopped_keeps}
use Rattle.rv_machine.proofs.Pausing.{time_pauses, stopped_pauses, next_way, stored_way, within_way, jump_way}
use Rattle.rv_machine.proofs.running.run_in_page.Goals as goal
use Rattle.rv_machine.proofs.running.run_in_page.Goals.{in-Next, in-Stored+else-is_stale, in-Within}

pub returns-clause-pauses : goal.returns-clause-pauses
returns-clause-pauses c =
    let l = c.loop-left in
    let code = c.args.code.now in
    let here = c.args.here in
    let page = c.args.pc / 4096 * 4096 in
    let pc = (page + 4 * l.word) % 2 ^ 32 in
    let spent = c.args.limit - l.left in
    λ s is. rw (c.paused-2.ensures, c.address-2.ensures) (time_pauses s l.processor pc spent c.args.limit is.has_limit (omega arith) (l.invariant.on_way s is))

pub returns-then-not-is_decoded-clause-code : goal.returns-then-not-is_decoded-clause-code
returns-then-not-is_decoded-clause-code c =
    let l = c.loop-left in
    let page = c.args.pc / 4096 * 4096 in
    let hart : Hart = hart_of l.processor ((page + 4 * l.word) % 2 ^ 32) in
    let same = stopped_keeps hart c.operate.new.self c.in-Stopped.stop (operation c.step_at-i.result.op hart (instr_of c.step_at-i.result)) c.in-Stopped.ensures.does in
    rw c.paused-then-not-is_decoded.ensures (subst (λ (h : Hart). IsCode h.memory c.args.code.now) (sym same) l.invariant.code)

pub returns-then-not-is_decoded-clause-pauses : goal.returns-then-not-is_decoded-clause-pauses
returns-then-not-is_decoded-clause-pauses c =
    let l = c.loop-left in
    let code = c.args.code.now in
    let here = c.args.here in
    let page = c.args.pc / 4096 * 4096 in
    let pc = (page + 4 * l.word) % 2 ^ 32 in
    let spent = c.args.limit - l.left in
    let hart : Hart = hart_of l.processor pc in
    let stays = stopped_keeps hart c.operate.new.self c.in-Stopped.stop (operation c.step_at-i.result.op hart (instr_of c.step_at-i.result)) c.in-Stopped.ensures.does in
    let same : c.step_at-i.result ≡ step_of code here l.word = read_kept code c.steps_at-steps.result.now here l.word c.step_at-i.result c.steps_at-steps.ensures c.step_at-i.ensures in
    let more : c.args.cost < spent = elim (cases_eq l.left (c.args.limit - c.args.cost)) [
      | inl start ↦
          let not : is_decoded (step_of code here l.word).op ≡ false = ap (λ (x : Instr). is_decoded x.op) (sym same) ∙ sym c.is_decoded.ensures ∙ c.if-not-is_decoded.true in
          let ready : is_decoded (step_of code here l.word).op ≡ true = rw (l.invariant.first start) c.requires.here.ready in
          absurd (let f : true ≡ false = sym ready ∙ not in cc)
      | inr later ↦ omega arith
    ] in
    λ s is.
    rw (c.paused-then-not-is_decoded.ensures, c.address-then-not-is_decoded.ensures)
    (subst (λ (h : Hart). IsOnWay s (record s { hart = h; cost = spent })) (sym stays) (l.invariant.on_way s is), let e : s.cost ≡ c.args.cost = is.has_cost in omega arith)

pub operate-requires-clause-step : goal.operate-requires-clause-step
operate-requires-clause-step c =
    let l = c.loop-left in
    rw c.step_at-i.ensures (small_at l.processor.memory c.args.code.now c.steps_at-steps.result.now c.args.here l.word l.invariant.code c.requires.here.some (omega arith) c.steps_at-steps.ensures)

pub operate-requires-clause-position : goal.operate-requires-clause-position
operate-requires-clause-position c =
    let l = c.loop-left in
    let code = c.args.code.now in
    let here = c.args.here in
    let page = c.args.pc / 4096 * 4096 in
    let pc = (page + 4 * l.word) % 2 ^ 32 in
    let spent = c.args.limit - l.left in
    record { page = omega arith; small = omega arith; word = omega arith }

pub returns-then-is_stale-clause-pauses : goal.returns-then-is_stale-clause-pauses
returns-then-is_stale-clause-pauses c =
    let l = c.loop-left in
    let code = c.args.code.now in
    let here = c.args.here in
    let page = c.args.pc / 4096 * 4096 in
    let pc = (page + 4 * l.word) % 2 ^ 32 in
    let spent = c.args.limit - l.left in
    let hart : Hart = hart_of l.processor pc in
    let decoded : is_decoded c.step_at-i.result.op ≡ true = going_decoded hart c.step_at-i.result (flow.Stored c.in-Stored.stored) c.operate.new.self tt c.in-Stored.ensures.does in
    let ready : IsReadyStep l.processor.memory page l.word pc c.step_at-i.result =
    ready_step l.processor.memory code c.steps_at-steps.result.now here page l.word pc c.step_at-i.result l.invariant.code c.requires.here.some l.invariant.at (omega arith) (omega arith) refl c.steps_at-steps.ensures c.step_at-i.ensures decoded in
    let more : c.args.limit - (l.left - 1) ≡ spent + 1 = omega arith in
    let does = decoded_does hart c.step_at-i.result (flow.Stored c.in-Stored.stored) c.operate.new.self ready.there ready.same c.in-Stored.ensures.does in
    λ s is.
    rw (c.paused-then-is_stale.ensures, c.next_pc.ensures.value, c.address.ensures, more)
    (stored_way s l.processor c.operate.new.self pc spent c.args.limit c.in-Stored.stored is.has_limit (omega arith) (l.invariant.on_way s is) does, let e : s.cost ≤ spent = (l.invariant.on_way s is).later.cost in omega arith)

pub returns-in-Jump-clause-code : goal.returns-in-Jump-clause-code
returns-in-Jump-clause-code c =
    let l = c.loop-left in
    let code = c.args.code.now in
    let here = c.args.here in
    let page = c.args.pc / 4096 * 4096 in
    let pc = (page + 4 * l.word) % 2 ^ 32 in
    let spent = c.args.limit - l.left in
    let hart : Hart = hart_of l.processor pc in
    let decoded : is_decoded c.step_at-i.result.op ≡ true = going_decoded hart c.step_at-i.result (flow.Jump c.in-Jump.to) c.operate.new.self tt c.in-Jump.ensures.does in
    let ready : IsReadyStep l.processor.memory page l.word pc c.step_at-i.result =
    ready_step l.processor.memory code c.steps_at-steps.result.now here page l.word pc c.step_at-i.result l.invariant.code c.requires.here.some l.invariant.at (omega arith) (omega arith) refl c.steps_at-steps.ensures c.step_at-i.ensures decoded in
    let does = decoded_does hart c.step_at-i.result (flow.Jump c.in-Jump.to) c.operate.new.self ready.there ready.same c.in-Jump.ensures.does in
    rw c.paused-in-Jump.ensures (kept l.processor.memory c.operate.new.self.memory code (jump_goes hart c.in-Jump.to c.operate.new.self (instruction hart) does).1 l.invariant.code)

pub returns-in-Jump-clause-pauses : goal.returns-in-Jump-clause-pauses
returns-in-Jump-clause-pauses c =
    let l = c.loop-left in
    let code = c.args.code.now in
    let here = c.args.here in
    let page = c.args.pc / 4096 * 4096 in
    let pc = (page + 4 * l.word) % 2 ^ 32 in
    let spent = c.args.limit - l.left in
    let hart : Hart = hart_of l.processor pc in
    let decoded : is_decoded c.step_at-i.result.op ≡ true = going_decoded hart c.step_at-i.result (flow.Jump c.in-Jump.to) c.operate.new.self tt c.in-Jump.ensures.does in
    let ready : IsReadyStep l.processor.memory page l.word pc c.step_at-i.result =
    ready_step l.processor.memory code c.steps_at-steps.result.now here page l.word pc c.step_at-i.result l.invariant.code c.requires.here.some l.invariant.at (omega arith) (omega arith) refl c.steps_at-steps.ensures c.step_at-i.ensures decoded in
    let more : c.args.limit - (l.left - 1) ≡ spent + 1 = omega arith in
    let does = decoded_does hart c.step_at-i.result (flow.Jump c.in-Jump.to) c.operate.new.self ready.there ready.same c.in-Jump.ensures.does in
    λ s is.
    rw (c.paused-in-Jump.ensures, more)
    (jump_way s l.processor c.operate.new.self pc c.in-Jump.to spent c.args.limit is.has_limit (omega arith) (l.invariant.on_way s is) does, let e : s.cost ≤ spent = (l.invariant.on_way s is).later.cost in omega arith)

pub returns-in-Stopped-clause-pauses : goal.returns-in-Stopped-clause-pauses
returns-in-Stopped-clause-pauses c =
    let l = c.loop-left in
    let code = c.args.code.now in
    let here = c.args.here in
    let page = c.args.pc / 4096 * 4096 in
    let pc = (page + 4 * l.word) % 2 ^ 32 in
    let spent = c.args.limit - l.left in
    let hart : Hart = hart_of l.processor pc in
    let ready : IsReadyStep l.processor.memory page l.word pc c.step_at-i.result =
    ready_step l.processor.memory code c.steps_at-steps.result.now here page l.word pc c.step_at-i.result l.invariant.code c.requires.here.some l.invariant.at (omega arith) (omega arith) refl c.steps_at-steps.ensures c.step_at-i.ensures (sym c.is_decoded.ensures ∙ c.if-not-is_decoded.false) in
    let does = decoded_does hart c.step_at-i.result (flow.Stopped c.in-Stopped.stop) c.operate.new.self ready.there ready.same c.in-Stopped.ensures.does in
    λ s is. rw (c.paused-in-Stopped.ensures, c.address-in-Stopped.ensures) (stopped_pauses s l.processor c.operate.new.self pc spent c.args.limit c.in-Stopped.stop is.has_limit (omega arith) (l.invariant.on_way s is) does)

pub loop-left-preserved : goal.loop-left-preserved
loop-left-preserved c =
    let l = c.loop-left in
    let code = c.args.code.now in
    let here = c.args.here in
    let page = c.args.pc / 4096 * 4096 in
    let pc = (page + 4 * l.word) % 2 ^ 32 in
    let spent = c.args.limit - l.left in
    let hart : Hart = hart_of l.processor pc in
    let decoded : is_decoded c.step_at-i.result.op ≡ true = elim c.match-operate.branch [
      | in-Next w ↦ going_decoded hart c.step_at-i.result flow.Next c.operate.new.self tt w.in-Next.ensures.does
      | in-Stored+else-is_stale w ↦ going_decoded hart c.step_at-i.result (flow.Stored w.in-Stored.stored) c.operate.new.self tt w.in-Stored.ensures.does
      | in-Within w ↦ going_decoded hart c.step_at-i.result (flow.Within w.in-Within.to) c.operate.new.self tt w.in-Within.ensures.does
    ] in
    let ready : IsReadyStep l.processor.memory page l.word pc c.step_at-i.result =
    ready_step l.processor.memory code c.steps_at-steps.result.now here page l.word pc c.step_at-i.result l.invariant.code c.requires.here.some l.invariant.at (omega arith) (omega arith) refl c.steps_at-steps.ensures c.step_at-i.ensures decoded in
    let more : c.args.limit - (l.left - 1) ≡ spent + 1 = omega arith in
    let after : (page + 4 * (l.word + 1)) % 2 ^ 32 ≡ (pc + 4) % 2 ^ 32 = omega arith in
    record {
      at = l.invariant.at;
      edge = elim c.match-operate.branch [
        | in-Next w ↦ rw w.next-is (omega arith)
        | in-Stored+else-is_stale w ↦ rw w.next-is (omega arith)
        | in-Within w ↦ let goes = within_goes hart w.in-Within.to c.operate.new.self (instruction hart) (decoded_does hart c.step_at-i.result (flow.Within w.in-Within.to) c.operate.new.self ready.there ready.same w.in-Within.ensures.does) in let below : w.in-Within.to < 1024 = goes.0 in rw w.next-is (omega arith)
      ];
      within = omega arith;
      first = λ e. absurd (omega (arith, e));
      code = elim c.match-operate.branch [
        | in-Next w ↦ kept l.processor.memory c.operate.new.self.memory code (next_keeps hart c.operate.new.self (instruction hart) (decoded_does hart c.step_at-i.result flow.Next c.operate.new.self ready.there ready.same w.in-Next.ensures.does)) l.invariant.code
        | in-Stored+else-is_stale w ↦
            let written : IsWritten l.processor.memory c.operate.new.self.memory w.in-Stored.stored = stored_writes hart w.in-Stored.stored c.operate.new.self (instruction hart) (decoded_does hart c.step_at-i.result (flow.Stored w.in-Stored.stored) c.operate.new.self ready.there ready.same w.in-Stored.ensures.does) in
            w.is_stale.ensures.kept w.if-is_stale.false l.processor.memory c.operate.new.self.memory l.invariant.code written.differs written.at_place
        | in-Within w ↦ kept l.processor.memory c.operate.new.self.memory code (within_goes hart w.in-Within.to c.operate.new.self (instruction hart) (decoded_does hart c.step_at-i.result (flow.Within w.in-Within.to) c.operate.new.self ready.there ready.same w.in-Within.ensures.does)).1 l.invariant.code
      ];
      on_way = λ s is. rw more (elim c.match-operate.branch [
        | in-Next w ↦ rw (w.next-is, after) (next_way s l.processor c.operate.new.self pc spent c.args.limit is.has_limit (omega arith) (l.invariant.on_way s is) (decoded_does hart c.step_at-i.result flow.Next c.operate.new.self ready.there ready.same w.in-Next.ensures.does))
        | in-Stored+else-is_stale w ↦
            rw (w.next-is, after) (stored_way s l.processor c.operate.new.self pc spent c.args.limit w.in-Stored.stored is.has_limit (omega arith) (l.invariant.on_way s is) (decoded_does hart c.step_at-i.result (flow.Stored w.in-Stored.stored) c.operate.new.self ready.there ready.same w.in-Stored.ensures.does))
        | in-Within w ↦
            let done = decoded_does hart c.step_at-i.result (flow.Within w.in-Within.to) c.operate.new.self ready.there ready.same w.in-Within.ensures.does in
            let below : w.in-Within.to < 1024 = (within_goes hart w.in-Within.to c.operate.new.self (instruction hart) done).0 in
            let to : (page + 4 * w.in-Within.to) % 2 ^ 32 ≡ pc / 4096 * 4096 + 4 * w.in-Within.to = omega arith in
            rw (w.next-is, to) (within_way s l.processor c.operate.new.self pc w.in-Within.to spent c.args.limit is.has_limit (omega arith) (l.invariant.on_way s is) done)
      ]);
    }

pub returns-then-word-eq1024-clause-pauses : goal.returns-then-word-eq1024-clause-pauses
returns-then-word-eq1024-clause-pauses c = search rules
