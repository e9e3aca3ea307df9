use Rattle.std.proofs.Common.{◌++◌, ◌∷◌, [], List, map, sym, ap, ◌∙◌, subst, arith, append_assoc}
use Rattle.farm_kinds.specs.declared.events.Event.{Event}
use Rattle.farm_kinds.specs.declared.events.Event.TheVariants as event
use Rattle.parallel_judge.specs.Hosts.{HasEntered, host_names}
use Rattle.parallel_judge.proofs.Rosters.{host_events}
use Rattle.parallel_judge.proofs.entering.enter_hosts.Goals as goal

pub loop-host-preserved : goal.loop-host-preserved
loop-host-preserved g c =
    let more = host_events c.args.hosts c.loop-host.host c.host_name.result c.loop-host-test.true c.host_name.ensures in
    let one = c.enter.ensures.left in
    let before_left = c.loop-host.invariant.left in
    record {
      entered = λ start before o h.
          subst (λ (es : List Event). HasEntered start es c.enter.new.pass)
          (append_assoc before (map event.Host (host_names c.loop-host.host)) (event.Host c.host_name.result ∷ []) ∙ ap (λ (es : List Event). before ++ es) (sym more))
          (c.in_ok-enter.ensures.entered start (before ++ map event.Host (host_names c.loop-host.host)) o (c.loop-host.invariant.entered start before o h));
      left = omega (arith, one, before_left);
      board = c.enter.ensures.board ∙ c.loop-host.invariant.board;
      spare = c.enter.ensures.spare ∙ c.loop-host.invariant.spare;
    }
