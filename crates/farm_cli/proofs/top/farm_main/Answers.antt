use Rattle.std.proofs.Common.{rules, ◌≡◌, ◌+◌, ℕ, List, Option, Some, map, ap, refl, sym, ◌∙◌, string_bytes}
use Rattle.std.specs.Option.{option_map}
use Rattle.std.specs.Borrow.{Bor}
use Rattle.command_line.specs.CommandLine.{Script, command_value, login_value, size_value}
use Rattle.farm_api.specs.Exchanges.{around_of}
use Rattle.contest_server.specs.Visits.{watch}
use Rattle.farm_io.specs.Streams.{Rose}
use Rattle.judgehost.specs.declared.gate.Go.TheVariants as go
use Rattle.script_commands.specs.Scripted.{Streams}
use Rattle.farm_cli.proofs.Judgings.{judge_complete}
use Rattle.farm_cli.proofs.Makings.{make_complete}
use Rattle.farm_cli.proofs.Scripts.{script_complete, stored_complete, list_complete}
use Rattle.farm_cli.proofs.Servings.{serve_complete, serve_ends}
use Rattle.farm_cli.proofs.Hostings.{host_complete}
use Rattle.farm_cli.proofs.Unread.{unread_ends, unread_is_done}
use Rattle.exit_status.specs.declared.exit.Exit.TheVariants as exit
use Rattle.farm_cli.proofs.top.farm_main.Goals as goal

pub returns-in_default-clause-ends : goal.returns-in_default-clause-ends
returns-in_default-clause-ends g c =
    let streams : Streams = record { left = g.S.Source.left c.args.input.now; held = g.K.Sink.held c.args.out.now } in
    unread_ends (g.T.Tree.files c.args.tree.now) (map string_bytes c.args.words.now)
    (record { watch = watch g.D.Conn.Source.left g.D.Conn.Sink.held g.D.Conn.Source.faults g.D.Conn.Sink.faults (around_of (g.C.Clock.shows c.args.clock.now) g.D.Conn.Peer.asks); old = g.D.Door.state c.args.door.now; new = g.D.Door.state c.args.door.now })
    (record { held = g.N.Conn.Sink.held; left = g.N.Conn.Source.left; faults = (λ n. g.N.Conn.Source.faults n + g.N.Conn.Sink.faults n); may_die = (λ point turn. g.G.Gate.may_answer c.args.gate.now 1 point turn go.Die); old = g.N.Link.state c.args.link.now; new = g.N.Link.state c.args.link.now; before = g.N.Link.faults c.args.link.now; now = g.N.Link.faults c.args.link.now })
    (record { tells = g.Y.Disk.tells c.args.disk.now; old = record { time = g.Y.Disk.time c.args.disk.now; opened = g.Y.Disk.opened c.args.disk.now; faults = g.Y.Disk.faults c.args.disk.now }; new = record { time = g.Y.Disk.time c.args.disk.now; opened = g.Y.Disk.opened c.args.disk.now; faults = g.Y.Disk.faults c.args.disk.now } })
    streams (c.args.input.now ≡ c.args.input.now) (c.args.out.now ≡ c.args.out.now) refl refl refl refl refl

pub returns-in_default-clause-complete : goal.returns-in_default-clause-complete
returns-in_default-clause-complete g c =
    unread_is_done (g.T.Tree.files c.args.tree.now) (map string_bytes c.args.words.now)
    (record { held = g.N.Conn.Sink.held; left = g.N.Conn.Source.left; faults = (λ n. g.N.Conn.Source.faults n + g.N.Conn.Sink.faults n); may_die = (λ point turn. g.G.Gate.may_answer c.args.gate.now 1 point turn go.Die); old = g.N.Link.state c.args.link.now; new = g.N.Link.state c.args.link.now; before = g.N.Link.faults c.args.link.now; now = g.N.Link.faults c.args.link.now })
    (record { tells = g.Y.Disk.tells c.args.disk.now; old = record { time = g.Y.Disk.time c.args.disk.now; opened = g.Y.Disk.opened c.args.disk.now; faults = g.Y.Disk.faults c.args.disk.now }; new = record { time = g.Y.Disk.time c.args.disk.now; opened = g.Y.Disk.opened c.args.disk.now; faults = g.Y.Disk.faults c.args.disk.now } })
    (g.S.Source.left c.args.input.now)
    (¬ Rose (g.T.Tree.faults c.args.tree.now) (g.T.Tree.faults c.args.tree.now) × ¬ Rose (g.S.Source.faults c.args.input.now) (g.S.Source.faults c.args.input.now)
    × ¬ Rose (g.K.Sink.faults c.args.out.now) (g.K.Sink.faults c.args.out.now) × ¬ Rose (g.D.Door.faults c.args.door.now) (g.D.Door.faults c.args.door.now) × ¬ Rose (g.N.Link.faults c.args.link.now) (g.N.Link.faults c.args.link.now) × ¬ Rose (g.Y.Disk.faults c.args.disk.now) (g.Y.Disk.faults c.args.disk.now))

pub returns-in-None-clause-complete : goal.returns-in-None-clause-complete
returns-in-None-clause-complete g c =
    script_complete (g.T.Tree.files c.args.tree.now) (option_map (λ path. path.now) c.in-Script.config) _ _ _ (g.S.Source.left c.args.input.now) _ _ _ _ _ _ c.script.result
    (ap (λ (s : Option (Bor (List ℕ))). Some (Script (option_map (λ path. path.now) c.in-Script.config) (option_map (λ path. path.now) s))) (sym c.in-None.is)
    ∙ (sym (ap (λ o. option_map command_value o) (c.in-Some.is ∙ ap Some c.in-Script.is)) ∙ c.in-Ok.ensures)) c.script.ensures.complete

pub returns-in-Some-store-clause-complete : goal.returns-in-Some-store-clause-complete
returns-in-Some-store-clause-complete g c =
    stored_complete (g.T.Tree.files c.args.tree.now) (option_map (λ path. path.now) c.in-Script.config) c.in-Some-store.path.now _ _ _ (g.S.Source.left c.args.input.now) _ _ _ _ _ _ c.script_stored.result
    (ap (λ (s : Option (Bor (List ℕ))). Some (Script (option_map (λ path. path.now) c.in-Script.config) (option_map (λ path. path.now) s))) (sym c.in-Some-store.is)
    ∙ (sym (ap (λ o. option_map command_value o) (c.in-Some.is ∙ ap Some c.in-Script.is)) ∙ c.in-Ok.ensures)) c.script_stored.ensures.complete

pub returns-in-Store-clause-complete : goal.returns-in-Store-clause-complete
returns-in-Store-clause-complete g c =
    list_complete (g.T.Tree.files c.args.tree.now) c.in-Store.path.now _ _ _ (g.S.Source.left c.args.input.now) _ _ _ _ _ _ c.list.result
    (sym (ap (λ o. option_map command_value o) (c.in-Some.is ∙ ap Some c.in-Store.is)) ∙ c.in-Ok.ensures) c.list.ensures.complete

pub returns-in-Judge-clause-complete : goal.returns-in-Judge-clause-complete
returns-in-Judge-clause-complete g c =
    judge_complete (g.T.Tree.files c.args.tree.now) c.in-Judge.folder.now c.in-Judge.hosts.count c.in-Judge.journal _ _ _ (g.S.Source.left c.args.input.now) _ _ _ _ _ _ c.judge.result
    (sym (ap (λ o. option_map command_value o) (c.in-Some.is ∙ ap Some c.in-Judge.is)) ∙ c.in-Ok.ensures) c.judge.ensures.complete

pub returns-in-Make-clause-complete : goal.returns-in-Make-clause-complete
returns-in-Make-clause-complete g c =
    make_complete (g.T.Tree.files c.args.tree.now) c.in-Make.number (size_value c.in-Make.size) _ _ _ (g.S.Source.left c.args.input.now) _ _ _ _ _ _ c.make.result
    (sym (ap (λ o. option_map command_value o) (c.in-Some.is ∙ ap Some c.in-Make.is)) ∙ c.in-Ok.ensures) c.make.ensures.all c.make.ensures.write_fault

pub returns-in-Serve-clause-complete : goal.returns-in-Serve-clause-complete
returns-in-Serve-clause-complete g c =
    serve_complete (g.T.Tree.files c.args.tree.now) c.in-Serve.folder.now c.in-Serve.address c.in-Serve.port c.in-Serve.lanes.count c.in-Serve.connections.count c.in-Serve.patience.seconds c.in-Serve.until_input_ends _ _ _ (g.S.Source.left c.args.input.now) _ _ _ _ _ _ c.serve.result
    (sym (ap (λ o. option_map command_value o) (c.in-Some.is ∙ ap Some c.in-Serve.is)) ∙ c.in-Ok.ensures) c.serve.ensures.complete

pub returns-in-Host-clause-complete : goal.returns-in-Host-clause-complete
returns-in-Host-clause-complete g c =
    host_complete (g.T.Tree.files c.args.tree.now) c.in-Host.address.now c.in-Host.port c.in-Host.name c.in-Host.fuel c.in-Host.wait (option_map login_value c.in-Host.login) _ _ _ (g.S.Source.left c.args.input.now) _ _ _ _ _ _ _ _ c.host.result
    (sym (ap (λ o. option_map command_value o) (c.in-Some.is ∙ ap Some c.in-Host.is)) ∙ c.in-Ok.ensures) c.host.ensures.ends c.host.ensures.write_fault c.host.ensures.tree_fault

pub returns-in-Serve-clause-ends : goal.returns-in-Serve-clause-ends
returns-in-Serve-clause-ends g c =
    serve_ends (g.T.Tree.files c.args.tree.now) c.in-Serve.folder.now c.in-Serve.address c.in-Serve.port c.in-Serve.lanes.count c.in-Serve.connections.count c.in-Serve.patience.seconds
    c.get-in-Serve-2.result c.get-in-Serve-3.result c.get-in-Serve.result c.in-Serve.until_input_ends _ _ _ _ _ _ _ _ c.serve.result
    (sym (ap (λ o. option_map command_value o) (c.in-Some.is ∙ ap Some c.in-Serve.is)) ∙ c.in-Ok.ensures) c.get-in-Serve-2.ensures.value c.get-in-Serve-3.ensures.value c.get-in-Serve.ensures.value refl c.serve.ensures.ends

pub returns-in_default-clause-usage : goal.returns-in_default-clause-usage
returns-in_default-clause-usage g c = (λ is. let no : exit.Memory ≡ exit.Usage = is in cc, λ none. absurd (none.1 refl))

pub returns-in_default-clause-silent : goal.returns-in_default-clause-silent
returns-in_default-clause-silent g c = λ none. (refl, refl, refl, refl, refl, refl)

pub returns-in_default-command-clause-silent : goal.returns-in_default-command-clause-silent
returns-in_default-command-clause-silent g c = λ none. (refl, refl, refl, refl, refl, refl)
