use Rattle.command_laws.proofs.AnyOrder.{judge_in_any_order, serve_in_any_order, host_in_any_order}
use Rattle.command_laws.proofs.orders.options_stand_in_any_order.Goals as goal

pub returns-clause-judge : goal.returns-clause-judge
returns-clause-judge c = judge_in_any_order

pub returns-clause-serve : goal.returns-clause-serve
returns-clause-serve c = serve_in_any_order

pub returns-clause-host : goal.returns-clause-host
returns-clause-host c = host_in_any_order
