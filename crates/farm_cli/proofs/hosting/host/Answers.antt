use Rattle.std.proofs.Common.{◌+◌, ap, refl, sym, subst, Err, ◌∙◌}
use Rattle.std.specs.Prelude.{option_map}
use Rattle.judgehost.specs.declared.gate.Go.TheVariants as go
use Rattle.command_line.specs.CommandLine.{login_value}
use Rattle.remote_host.specs.declared.passwords.BadPassword.{BadPassword}
use Rattle.farm_cli.specs.Hosting.{LinkUse, PasswordIs}
use Rattle.farm_cli.proofs.Hostings.{with_login, without_password}
use Rattle.farm_cli.proofs.hosting.host.Goals as goal

pub returns-in-Err-Bad-clause-ends : goal.returns-in-Err-Bad-clause-ends
returns-in-Err-Bad-clause-ends g c =
    let link : LinkUse g.row.N-Conn.Denot = record {
      held = g.N.Conn.Sink.held;
      left = g.N.Conn.Source.left;
      faults = λ n. g.N.Conn.Source.faults n + g.N.Conn.Sink.faults n;
      may_die = λ point turn. g.G.Gate.may_answer c.args.gate.now 1 point turn go.Die;
      old = g.N.Link.state c.args.link.now;
      new = g.N.Link.state c.args.link.now;
      before = g.N.Link.faults c.args.link.now;
      now = g.N.Link.faults c.args.link.now;
    } in
    let files = g.T.Tree.files c.args.tree.now in
    let found = c.read_login.ensures.bad c.in-Err-Bad.bad (c.in-Err-Bad.is ∙ ap Err c.in-Err-Bad.field-0-is) in
    without_password files link c.args.name c.args.wait (option_map login_value c.args.login) (login_value c.in-Some.login) c.args.fuel _ _ _ c.refuse.result
    (ap (option_map login_value) c.in-Some.is) refl (c.refuse.ensures.ends files c.in-Some.login.password_file.now (subst (λ (b : BadPassword). PasswordIs files c.in-Some.login.password_file.now (Err b)) (sym c.in-Err-Bad.bad-is) found))

pub returns-in-Ok-clause-ends : goal.returns-in-Ok-clause-ends
returns-in-Ok-clause-ends g c =
    with_login (g.T.Tree.files c.args.tree.now) _ c.args.name c.args.wait (option_map login_value c.args.login) (login_value c.in-Some.login) c.caller_of-caller-in-Ok.result _ c.args.fuel _ _ _ c.work-in-Ok.result
    (ap (option_map login_value) c.in-Some.is) c.caller_of-caller-in-Ok.ensures c.in-Ok.ensures.line c.work-in-Ok.ensures.ends
