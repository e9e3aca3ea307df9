use Rattle.std.proofs.Common.{◌≡◌, ◌≢◌, List, ℕ, refl, subst, rules, Ok, Err}
use Rattle.farm_kinds.specs.declared.events.Reply.TheVariants as reply
use Rattle.farm_model.specs.Texts.{reply_text}
use Rattle.contest_server.specs.declared.lines.TextFault.TheVariants as fault
use Rattle.contest_server.specs.Texts.{PutsText}
use Rattle.contest_server.proofs.boards.show_board.Goals as goal

pub returns-then-matches : goal.returns-then-matches
returns-then-matches g c = record {
  shows = record {
    answer = c.step-reply.result;
    calls = c.step-reply.ensures.call;
    told = Err fault.NoMemory;
    is = refl;
    puts = refl;
    known = λ _. refl;
    cause = search rules;
  };
}

pub returns-then-is_err : goal.returns-then-is_err
returns-then-is_err g c = record {
  shows = record {
    answer = c.step-reply.result;
    calls = c.step-reply.ensures.call;
    told = Err fault.NoMemory;
    is = refl;
    puts = refl;
    known = λ _. refl;
    cause = search rules;
  };
}

pub returns-in-Ok : goal.returns-in-Ok
returns-in-Ok g c =
    let text : c.as_slice.result.now ≡ reply_text c.step-reply.result = search rules in
    let known : c.step-reply.result ≢ reply.NoMemory = search rules in
    record {
      shows = record {
        answer = c.step-reply.result;
        calls = c.step-reply.ensures.call;
        told = Ok tt;
        is = refl;
        puts = subst (λ (z : List ℕ). PutsText (g.K.Sink.held c.args.out.now) (g.K.Sink.held c.put_text.new.out) z (Ok tt)) text c.in-Ok.ensures.puts;
        known = λ is. absurd (known is);
        cause = c.in-Ok.ensures.cause;
      };
    }

pub returns : goal.returns
returns g c =
    let text : c.as_slice.result.now ≡ reply_text c.step-reply.result = search rules in
    let known : c.step-reply.result ≢ reply.NoMemory = search rules in
    record {
      shows = record {
        answer = c.step-reply.result;
        calls = c.step-reply.ensures.call;
        told = Err c.in-Err.fault;
        is = c.end_of.ensures;
        puts = subst (λ (z : List ℕ). PutsText (g.K.Sink.held c.args.out.now) (g.K.Sink.held c.put_text.new.out) z (Err c.in-Err.fault)) text c.in-Err.ensures.puts;
        known = λ is. absurd (known is);
        cause = c.in-Err.ensures.cause;
      };
    }
